-- The reordering (R7.10): where each line comes from, and that T = C·V, V·W = I and W·V = I are kept.
use mathlib.Core.Path.{◌≡◌, sym, ◌∙◌, ap, ap₂}
use mathlib.Core.Bool.{Bool, true, false}
use mathlib.Core.List.{◌++◌}
use Prim.Native.Nat.{ℕ, ◌+◌, ◌-◌, ◌≤◌, ◌<◌}
use native.Mathlib.Omega.{arith}
use native.Mathlib.Decide.{ℕ_discrete}
use lib.Dec.{ltb}
use lib.ListN.{length, get_or, take, drop, length-append, length-take, length-drop, get_or-append}
use lib.Seq.{get_or-append-add, get_or-drop, get_or-take}
use lib.IntN.{ℤ, ◌+ℤ◌, ◌*ℤ◌, +ℤ_comm}
use Rattle.whole.specs.Lists.{nth}
use Rattle.whole.specs.Sum.{sum}
use Rattle.whole.specs.Matrix.{Matrix, mul, δ}
use Rattle.whole.proofs.Tests.{Test, pass, fail, lt?, is_true, is_false}
use Rattle.whole.proofs.Sum.{sum_cong, sum-add-split, δ-same, δ-diff}
use Rattle.whole.proofs.Columns.{Kept}
use Rattle.rules.specs.Steps.{Line, State, blank, line, Table, side, get, get_w, reorder}
use Rattle.theory.proofs.StepLines.{count}

-- where the column now at c stood, if r columns came before a
unfoldable pub turn : (a r c : ℕ) → ℕ
turn a r c = elim (ltb c r) [ true ↦ a + c | false ↦ c - r ]

pub turn_low : (a r c : ℕ) → c < r → turn a r c ≡ a + c
unfolding turn
turn_low a r c h = rw (is_true (lt? c r) (λ k. omega arith), turn)

pub turn-high : (a r c : ℕ) → r ≤ c → turn a r c ≡ c - r
unfolding turn
turn-high a r c h = rw (is_false (lt? c r) (λ k. omega arith), turn)

sum-turn : (a r : ℕ) (f : ℕ → ℤ) → sum (r + a) (λ k. f (turn a r k)) ≡ sum (a + r) f
sum-turn a r f = sum-add-split r a (λ k. f (turn a r k))
    ∙ ap₂ ◌+ℤ◌ (sum_cong r (λ k. f (turn a r k)) (λ k. f (a + k)) (λ k h. ap f (turn_low a r k h)))
    (sum_cong a (λ k. f (turn a r (r + k))) f (λ k h. ap f (turn-high a r (r + k) (omega arith) ∙ omega arith)))
    ∙ +ℤ_comm (sum r (λ k. f (a + k))) (sum a f) ∙ sym (sum-add-split a r f)

module _ (n a r : ℕ) (e : a + r ≡ n) where
  pub turn-lt : (c : ℕ) → c < n → turn a r c < n
  turn-lt c h = go (lt? c r)
    where
      go : {b : Bool} → Test (c < r) (r ≤ c) b → turn a r c < n
      go (pass k) = omega (arith, turn_low a r c k)
      go (fail k) = omega (arith, turn-high a r c k)

  turn_inj : (c d : ℕ) → c < n → d < n → turn a r c ≡ turn a r d → c ≡ d
  turn_inj c d h k q = go (lt? c r) (lt? d r)
    where
      go : {b b' : Bool} → Test (c < r) (r ≤ c) b → Test (d < r) (r ≤ d) b' → c ≡ d
      go (pass x) (pass y) = omega (arith, turn_low a r c x, turn_low a r d y)
      go (pass x) (fail y) = omega (arith, turn_low a r c x, turn-high a r d y)
      go (fail x) (pass y) = omega (arith, turn-high a r c x, turn_low a r d y)
      go (fail x) (fail y) = omega (arith, turn-high a r c x, turn-high a r d y)

  pub δ-turn : (c d : ℕ) → c < n → d < n → δ (turn a r c) (turn a r d) ≡ δ c d
  δ-turn c d h k = go (ℕ_discrete c d)
    where
      go : Dec (c ≡ d) → δ (turn a r c) (turn a r d) ≡ δ c d
      go (yes q) = rw q (δ-same (turn a r d) ∙ sym (δ-same d))
      go (no q) = δ-diff (turn a r c) (turn a r d) (λ z. q (turn_inj c d h k z)) ∙ sym (δ-diff c d q)

  turn-sum : (f : ℕ → ℤ) → sum n (λ k. f (turn a r k)) ≡ sum n f
  turn-sum f = let e₂ : r + a ≡ n = omega arith in rw e at (rw e₂ at (sum-turn a r f))

  pub turn-kept : {C T U W : Matrix} → Kept n C T U W → Kept n C (λ i c. T i (turn a r c)) (λ i c. U i (turn a r c)) (λ i c. W (turn a r i) c)
  unfolding mul
  turn-kept {C} {T} {U} {W} g = record {
    made = λ i c h. g.made i (turn a r c) (turn-lt c h);
    right = λ i c h k. turn-sum (λ j. U i j *ℤ W j c) ∙ g.right i c h k;
    left = λ i c h k. g.left (turn a r i) (turn a r c) (turn-lt i h) (turn-lt c k) ∙ δ-turn i c h k;
  }

  module _ (u : State) (ct : count u ≡ n) where
    pub reorder-line : (c : ℕ) → c < n → line (reorder a u) c ≡ line u (turn a r c)
    unfolding reorder
    reorder-line c h = go (lt? c r)
      where
        dropped : length (drop a u.lines) ≡ r
        dropped = length-drop a u.lines ∙ omega arith

        go : {b : Bool} → Test (c < r) (r ≤ c) b → get_or (drop a u.lines ++ take a u.lines) c blank ≡ get_or u.lines (turn a r c) blank
        go (pass k) = get_or-append (drop a u.lines) (take a u.lines) blank c (omega (arith, dropped)) ∙ get_or-drop a u.lines c blank
            ∙ rw (turn_low a r c k)
        go (fail k) =
            let q : c ≡ length (drop a u.lines) + (c - r) = omega (arith, dropped) in
            ap (λ (z : ℕ). get_or (drop a u.lines ++ take a u.lines) z blank) q
            ∙ get_or-append-add (drop a u.lines) (take a u.lines) (c - r) blank
            ∙ get_or-take a u.lines (c - r) blank (omega arith) ∙ rw (turn-high a r c k)

    pub reorder-get : (tb : Table) (i c : ℕ) → c < n → get tb (reorder a u) i c ≡ get tb u i (turn a r c)
    unfolding get
    reorder-get tb i c h = ap (λ (l : Line). nth (side tb l) i) (reorder-line c h)

    pub reorder-get_w : (i c : ℕ) → i < n → get_w (reorder a u) i c ≡ get_w u (turn a r i) c
    unfolding get_w
    reorder-get_w i c h = ap (λ (l : Line). nth l.w c) (reorder-line i h)

pub reorder_count : (a : ℕ) (u : State) → count (reorder a u) ≡ count u
unfolding reorder
reorder_count a u = simp (length-append, length-drop, length-take) (omega arith)
