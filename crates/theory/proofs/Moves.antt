-- Runs of steps whose sources are columns lo to a: stage 1 and stage 2 are such runs row by row, and stage 3 column by column.
-- The frame law: such a run leaves a row as it is, whole, if the row is zero in columns lo to a. It is why finished rows stay finished, why stages 2
-- and 3 leave T alone,
-- and why stage 3 leaves alone the pivot rows that it has dealt with.
use mathlib.Core.Path.{◌≡◌, refl, sym, ◌∙◌, ap}
use mathlib.Core.Logic.{◌≢◌}
use Prim.Native.Nat.{ℕ, ◌≤◌, ◌<◌}
use native.Mathlib.Omega.{arith}
use native.Mathlib.Decide.{ℕ_discrete}
use lib.IntN.{ℤ, pos, neg_ℤ}
use Rattle.whole.proofs.Solver.{con, ◌⊕◌, ◌⊗◌, ◌≟◌, ring₂}
use Rattle.whole.proofs.Exchange.{tr, Which, first, second, neither, which?, tr_first, tr-second, tr-neither}
use Rattle.rules.specs.Steps.{State, Table, get, swap_step, negate_step, add_step}
use Rattle.theory.proofs.Search.{In}
use Rattle.theory.proofs.StepLines.{count, swap_count, negate_count, add_count}
use Rattle.theory.proofs.Entries.{swap-get, negate_at, negate-off, add_at, add-off}

-- one step among n columns, from u, whose sources are among columns lo to a
pub data Move (n lo a : ℕ) (u : State) : State → Type 0 where
  swap : (i j : ℕ) → In lo a i → In lo a j → Move n lo a u (swap_step i j u)
  negate : (i : ℕ) → In lo a i → Move n lo a u (negate_step i u)
  add : (i j : ℕ) (q : ℤ) → In lo a i → j < n → i ≢ j → Move n lo a u (add_step i j q u)

pub data Moves (n lo a : ℕ) : State → State → Type 0 where
  stay : {u : State} → Moves n lo a u u
  one : {u w : State} → Move n lo a u w → Moves n lo a u w
  both : {u v w : State} → Moves n lo a u v → Moves n lo a v w → Moves n lo a u w

pub widen_move : {n lo hi a b : ℕ} {u w : State} → hi ≤ lo → a ≤ b → Move n lo a u w → Move n hi b u w
widen_move l h (swap i j x y) = swap i j (omega arith) (omega arith)
widen_move l h (negate i x) = negate i (omega arith)
widen_move l h (add i j q x y d) = add i j q (omega arith) y d

pub widen : {n lo a b : ℕ} {u w : State} → a ≤ b → Moves n lo a u w → Moves n lo b u w
widen h stay = stay
widen h (one m) = one (widen_move (omega arith) h m)
widen h (both x y) = both (widen h x) (widen h y)

-- ---- what every step keeps, a run keeps
pub moves-keep : {n lo a : ℕ} {u w : State} (Q : State → Type 0) → ((u w : State) → Move n lo a u w → Q u → Q w) → Moves n lo a u w → Q u → Q w
moves-keep Q f stay q = q
moves-keep Q f (one m) q = f _ _ m q
moves-keep Q f (both x y) q = moves-keep Q f y (moves-keep Q f x q)

pub move_count : {n lo a : ℕ} {u w : State} → Move n lo a u w → count w ≡ count u
move_count {u = u} (swap i j x y) = swap_count i j u
move_count {u = u} (negate i x) = negate_count i u
move_count {u = u} (add i j q x y d) = add_count i j q u

pub moves_count : {n lo a : ℕ} {u w : State} → Moves n lo a u w → count u ≡ n → count w ≡ n
moves_count {n} m e = moves-keep (λ u. count u ≡ n) (λ u w x h. move_count x ∙ h) m e

-- ---- the frame law
-- row r holds f
record Holding (n : ℕ) (tb : Table) (r : ℕ) (f : ℕ → ℤ) (u : State) : Type 0 where
  lines : count u ≡ n
  row : (c : ℕ) → get tb u r c ≡ f c

module _ (n lo a : ℕ) (fit : a ≤ n) (tb : Table) (r : ℕ) (f : ℕ → ℤ) (z : (c : ℕ) → In lo a c → f c ≡ pos 0) where
  move_holding : (u w : State) → Move n lo a u w → Holding n tb r f u → Holding n tb r f w
  move_holding u w (swap i j x y) h = record {
    lines = swap_count i j u ∙ h.lines;
    row = λ c. swap-get i j u (omega (arith, h.lines)) (omega (arith, h.lines)) tb r c ∙ h.row (tr i j c) ∙ go c (which? i j c);
  }
    where
      go : (c : ℕ) → Which i j c → f (tr i j c) ≡ f c
      go c (first e) = rw (← e, tr_first i j) (z j y ∙ sym (z i x))
      go c (second d e) = rw (← e, tr-second i j) (z i x ∙ sym (z j y))
      go c (neither d e) = rw (tr-neither i j c d e)
  move_holding u w (negate i x) h = record { lines = negate_count i u ∙ h.lines; row = λ c. go c (ℕ_discrete i c) }
    where
      in_lines : i < count u
      in_lines = omega (arith, h.lines)

      go : (c : ℕ) → Dec (i ≡ c) → get tb (negate_step i u) r c ≡ f c
      go c (yes e) = rw (← e) (negate_at i u in_lines tb r ∙ ap neg_ℤ (h.row i ∙ z i x) ∙ sym (z i x))
      go c (no d) = negate-off i u in_lines tb r c d ∙ h.row c
  move_holding u w (add i j q x y d) h = record { lines = add_count i j q u ∙ h.lines; row = λ c. go c (ℕ_discrete j c) }
    where
      go : (c : ℕ) → Dec (j ≡ c) → get tb (add_step i j q u) r c ≡ f c
      go c (yes e) = rw (← e) (add_at i j q u (omega (arith, h.lines)) tb r
          ∙ rw (h.row i ∙ z i x) (ring₂ (get tb u r j) q (λ a q. a ⊕ q ⊗ con (pos 0) ≟ a) tt) ∙ h.row j)
      go c (no g) = add-off i j q u tb r c g ∙ h.row c

pub still : {n lo a : ℕ} {u w : State} → a ≤ n → Moves n lo a u w → count u ≡ n → (tb : Table) (r : ℕ) → ((c : ℕ) → In lo a c → get tb u r c ≡ pos 0)
    → (c : ℕ) → get tb w r c ≡ get tb u r c
still {n} {lo} {a} {u} fit m e tb r z =
    (moves-keep (Holding n tb r (get tb u r)) (move_holding n lo a fit tb r (get tb u r) z) m (record { lines = e; row = λ c. refl })).row
