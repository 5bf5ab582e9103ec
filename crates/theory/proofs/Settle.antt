-- (B): the pivot's column is moved to its place and made positive, and the finished columns are reduced by it in its row.
use mathlib.Core.Path.{◌≡◌, refl, sym, ◌∙◌, ap}
use mathlib.Core.Logic.{◌≢◌}
use mathlib.Core.Bool.{Bool, true, false}
use Prim.Native.Nat.{ℕ, suc, ◌≤◌, ◌<◌}
use native.Mathlib.Omega.{arith}
use native.Mathlib.Decide.{ℕ_discrete}
use lib.IntN.{ℤ, pos, neg_ℤ, nat_abs, ◌*ℤ◌, ◌-ℤ◌}
use lib.Signed.{◌≤ℤ◌, ◌<ℤ◌}
use Rattle.whole.specs.Division.{floor_z}
use Rattle.whole.proofs.Tests.{Test, pass, fail, eq?, lt_z?}
use Rattle.whole.proofs.Order.{zarith, P-neg, N-neg, nat_abs-zero, abs_neg}
use Rattle.whole.proofs.Solver.{con, ◌⊕◌, ◌⊗◌, ◌⊖◌, ⊝◌, ◌≟◌, ring₂, ring₃}
use Rattle.whole.proofs.Division.{Floored, floor_is}
use Rattle.whole.proofs.Exchange.{tr, tr_first, tr-second, tr-neither}
use Rattle.rules.specs.Forms.{InRange}
use Rattle.rules.specs.Search.{each}
use Rattle.rules.specs.Steps.{State, Table, get, add_step, swap_step, negate_step}
use Rattle.rules.specs.Stages.{reduce, bring, make_positive, settle}
use Rattle.theory.proofs.Search.{In, each_holds}
use Rattle.theory.proofs.StepLines.{count}
use Rattle.theory.proofs.Entries.{add_at, add-off, swap-get, negate_at, negate-off}
use Rattle.theory.proofs.Moves.{swap, negate, add, Moves, stay, one, both, moves_count}

-- ---- columns reduced by column p in row k
-- one column c
record Reduced (tb : Table) (n lo a k p c : ℕ) (u w : State) : Type 0 where
  moves : Moves n lo a u w
  to : get tb w k c ≡ get tb u k c -ℤ floor_z (get tb u k c) (get tb u k p) *ℤ get tb u k p
  off : (r d : ℕ) → c ≢ d → get tb w r d ≡ get tb u r d

-- columns first to hi, by steps whose sources are columns lo to a
pub record ColumnsReduced (tb : Table) (n lo a k p first hi : ℕ) (u w : State) : Type 0 where
  pub moves : Moves n lo a u w
  pub same : (r d : ℕ) → ¬ In first hi d → get tb w r d ≡ get tb u r d
  pub in_range : (d : ℕ) → In first hi d → InRange (get tb w k d) (get tb u k p)

module _ (tb : Table) (n lo a k p : ℕ) (x : In lo a p) where
  reduce_is : (c : ℕ) (u : State) → count u ≡ n → c < n → p ≢ c → Reduced tb n lo a k p c u (reduce tb k p c u)
  unfolding reduce
  reduce_is c u e h d = go (eq? (nat_abs (neg_ℤ f)) 0)
    where
      f : ℤ
      f = floor_z (get tb u k c) (get tb u k p)

      nothing : nat_abs (neg_ℤ f) ≡ 0 → f ≡ pos 0
      nothing z = nat_abs-zero f (sym (abs_neg f) ∙ z)

      go : {b : Bool} → Test (nat_abs (neg_ℤ f) ≡ 0) (nat_abs (neg_ℤ f) ≢ 0) b → Reduced tb n lo a k p c u (elim b [ true ↦ u | false ↦ add_step p c (neg_ℤ f) u ])
      go (pass z) = record {
        moves = stay;
        to = rw (nothing z) (ring₂ (get tb u k c) (get tb u k p) (λ a b. a ≟ a ⊖ con (pos 0) ⊗ b) tt);
        off = λ r d _. refl;
      }
      go (fail z) = record {
        moves = one (add p c (neg_ℤ f) x h d);
        to = add_at p c (neg_ℤ f) u (omega arith) tb k ∙ ring₃ (get tb u k c) f (get tb u k p) (λ a f b. a ⊕ ⊝ f ⊗ b ≟ a ⊖ f ⊗ b) tt;
        off = λ r d g. add-off p c (neg_ℤ f) u tb r d g;
      }

  pub all_reduced : (first hi : ℕ) (u : State) → count u ≡ n → first ≤ hi → hi ≤ n → ¬ In first hi p → pos 0 <ℤ get tb u k p
      → ColumnsReduced tb n lo a k p first hi u (each (reduce tb k p) first hi u)
  all_reduced first hi u e h l out pv = each_holds (λ c w. ColumnsReduced tb n lo a k p first c u w) (reduce tb k p) first hi u h
      (record { moves = stay; same = λ r d _. refl; in_range = λ d i. absurd (omega arith) }) step
    where
      step : (c : ℕ) (w : State) → In first hi c → ColumnsReduced tb n lo a k p first c u w → ColumnsReduced tb n lo a k p first (suc c) u (reduce tb k p c w)
      step c w i q = record {
        moves = both q.moves now.moves;
        same = λ r d z. now.off r d (λ z₂. z (omega arith)) ∙ q.same r d (λ z₂. z (omega arith));
        in_range = λ d j. pick d j (ℕ_discrete c d);
      }
        where
          now : Reduced tb n lo a k p c w (reduce tb k p c w)
          now = reduce_is c w (moves_count q.moves e) (omega arith) (λ z. out (rw z i))

          pivot : get tb w k p ≡ get tb u k p
          pivot = q.same k p (λ z. out (omega arith))

          floor : Floored (get tb w k c) (get tb w k p) (floor_z (get tb w k c) (get tb w k p))
          floor = floor_is (get tb w k c) (get tb w k p) (rw pivot pv)

          pick : (d : ℕ) → In first (suc c) d → Dec (c ≡ d) → InRange (get tb (reduce tb k p c w) k d) (get tb u k p)
          pick d j (yes z) = rw (← z) (record { low = rw now.to floor.low; high = rw now.to (rw (← pivot) floor.high) })
          pick d j (no z) = rw (now.off k d z) (q.in_range d (omega arith))

-- ---- the whole of (B): b is the last active column
pub record RowSettled (tb : Table) (n lo b k : ℕ) (u w : State) : Type 0 where
  pub moves : Moves n lo (suc b) u w
  pub pivot : pos 0 <ℤ get tb w k b
  pub zeros : (d : ℕ) → In lo b d → get tb w k d ≡ pos 0
  pub in_range : (d : ℕ) → In (suc b) n d → InRange (get tb w k d) (get tb w k b)

record Brought (tb : Table) (n lo b k p : ℕ) (u w : State) : Type 0 where
  moves : Moves n lo (suc b) u w
  to : get tb w k b ≡ get tb u k p
  zeros : (d : ℕ) → In lo b d → get tb w k d ≡ pos 0

record Positive (tb : Table) (n lo b k : ℕ) (u w : State) : Type 0 where
  moves : Moves n lo (suc b) u w
  pivot : pos 0 <ℤ get tb w k b
  off : (d : ℕ) → b ≢ d → get tb w k d ≡ get tb u k d

module _ (tb : Table) (n lo b k : ℕ) (fit : b < n) (u : State) (e : count u ≡ n) where
  bring_is : (p : ℕ) → In lo (suc b) p → ((c : ℕ) → In lo (suc b) c → p ≢ c → get tb u k c ≡ pos 0) → Brought tb n lo b k p u (bring p b u)
  unfolding bring
  bring_is p i z = go (eq? p b)
    where
      go : {t : Bool} → Test (p ≡ b) (p ≢ b) t → Brought tb n lo b k p u (elim t [ true ↦ u | false ↦ swap_step p b u ])
      go (pass y) = record { moves = stay; to = ap (λ c. get tb u k c) (sym y); zeros = λ d j. z d (omega arith) (omega arith) }
      go (fail y) = record {
        moves = one (swap p b i (omega arith));
        to = swap-get p b u (omega arith) (omega arith) tb k b ∙ ap (λ c. get tb u k c) (tr-second p b);
        zeros = λ d j. swap-get p b u (omega arith) (omega arith) tb k d ∙ pick d j (ℕ_discrete p d);
      }
        where
          pick : (d : ℕ) → In lo b d → Dec (p ≡ d) → get tb u k (tr p b d) ≡ pos 0
          pick d j (yes f) = rw (← f, tr_first p b) (z b (omega arith) y)
          pick d j (no f) = let g : b ≢ d = omega arith in rw (tr-neither p b d f g) (z d (omega arith) f)

  make_positive_is : lo ≤ b → get tb u k b ≢ pos 0 → Positive tb n lo b k u (make_positive tb k b u)
  unfolding make_positive
  make_positive_is i z = go (lt_z? (get tb u k b) (pos 0))
    where
      not-zero : (x : ℤ) → x ≢ pos 0 → pos 0 ≤ℤ x → pos 0 <ℤ x
      not-zero x d h = go₂ (lt_z? (pos 0) x)
        where
          go₂ : {t : Bool} → Test (pos 0 <ℤ x) (x ≤ℤ pos 0) t → pos 0 <ℤ x
          go₂ (pass g) = g
          go₂ (fail g) = let o : x ≡ pos 0 = omega zarith in absurd (d o)

      go : {t : Bool} → Test (get tb u k b <ℤ pos 0) (pos 0 ≤ℤ get tb u k b) t → Positive tb n lo b k u (elim t [ true ↦ negate_step b u | false ↦ u ])
      go (pass y) = record {
        moves = one (negate b (omega arith));
        pivot = rw (negate_at b u (omega arith) tb k) (omega (zarith, P-neg (get tb u k b), N-neg (get tb u k b)));
        off = λ d f. negate-off b u (omega arith) tb k d f;
      }
      go (fail y) = record { moves = stay; pivot = not-zero (get tb u k b) z y; off = λ d _. refl }

pub settle_is : (tb : Table) (n lo b k : ℕ) → b < n → (u : State) → count u ≡ n → (p : ℕ) → In lo (suc b) p → get tb u k p ≢ pos 0
    → ((c : ℕ) → In lo (suc b) c → p ≢ c → get tb u k c ≡ pos 0)
    → RowSettled tb n lo b k u (settle tb n k p b u)
unfolding settle
settle_is tb n lo b k fit u e p i z y =
    let u₁ : State = bring p b u in
    let s₁ : Brought tb n lo b k p u u₁ = bring_is tb n lo b k fit u e p i y in
    let e₁ : count u₁ ≡ n = moves_count s₁.moves e in
    let u₂ : State = make_positive tb k b u₁ in
    let s₂ : Positive tb n lo b k u₁ u₂ = make_positive_is tb n lo b k fit u₁ e₁ (omega arith) (λ f. z (sym s₁.to ∙ f)) in
    let e₂ : count u₂ ≡ n = moves_count s₂.moves e₁ in
    let here : In lo (suc b) b = omega arith in
    let u₃ : State = each (reduce tb k b) (suc b) n u₂ in
    let s₃ : ColumnsReduced tb n lo (suc b) k b (suc b) n u₂ u₃ =
    all_reduced tb n lo (suc b) k b here (suc b) n u₂ e₂ fit (omega arith) (λ j. omega arith) s₂.pivot in
    let same : get tb u₃ k b ≡ get tb u₂ k b = s₃.same k b (λ j. omega arith) in
    record {
      moves = both s₁.moves (both s₂.moves s₃.moves);
      pivot = rw same s₂.pivot;
      zeros = λ d j. s₃.same k d (λ j₂. omega arith) ∙ s₂.off d (omega arith) ∙ s₁.zeros d j;
      in_range = λ d j. rw same (s₃.in_range d j);
    }
