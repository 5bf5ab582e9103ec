-- Theorem 2, "every repetition ends": each step of (A) makes the sum of absolute values in the active columns of its row smaller, so the count of
-- repetitions allowed
-- cuts nothing off, and (A) ends with at most one active column that is not zero in the row. No size is assumed: a column that is not zero is there.
use mathlib.Core.Path.{◌≡◌, refl, sym, ◌∙◌, ap}
use mathlib.Core.Logic.{◌≢◌}
use mathlib.Core.Bool.{true, false}
use Prim.Native.Nat.{ℕ, zero, suc, ◌≤◌, ◌<◌}
use native.Mathlib.Omega.{arith}
use native.Mathlib.Decide.{ℕ_discrete}
use lib.IntN.{ℤ, pos, neg_ℤ, nat_abs, ◌+ℤ◌, ◌*ℤ◌}
use lib.Signed.{quot_z, rem_z}
use Rattle.whole.proofs.Order.{nat_abs-zero}
use Rattle.whole.proofs.Solver.{◌⊕◌, ◌⊗◌, ⊝◌, ◌≟◌, ring₃}
use Rattle.whole.proofs.Division.{quot-rem, rem_lt}
use Rattle.whole.proofs.Tests.{passed, failed}
use Rattle.rules.specs.Search.{Found, total}
use Rattle.rules.specs.Steps.{State, Table, get, add_step}
use Rattle.rules.specs.Stages.{size, is_other, Next, done, adds, next_add, next_for, next, repeat_a, eliminate}
use Rattle.theory.proofs.Search.{In, FirstIs, no_first, is_first, first_is_lem, is_other_lem, Smallest, SmallestIs, all-zero, is_smallest, smallest_is, total-less}
use Rattle.theory.proofs.StepLines.{count, add_count}
use Rattle.theory.proofs.Entries.{filled_in, add_at, add-off}
use Rattle.theory.proofs.Moves.{add, Moves, stay, one, both}

-- ---- sizes and entries
pub entry_zero : (tb : Table) (u : State) (k c : ℕ) → size tb u k c ≡ 0 → get tb u k c ≡ pos 0
unfolding size
entry_zero tb u k c e = nat_abs-zero (get tb u k c) e

pub size_zero : (tb : Table) (u : State) (k c : ℕ) → get tb u k c ≡ pos 0 → size tb u k c ≡ 0
unfolding size
size_zero tb u k c e = ap nat_abs e

pub size_in : (tb : Table) (u : State) (k c : ℕ) → size tb u k c ≢ 0 → c < count u
size_in tb u k c h = filled_in tb u k c (λ e. h (size_zero tb u k c e))

-- ---- what (A) does next, and why
-- at most one of columns lo to a is not zero
abbrev pub Alone : (ℕ → ℕ) → (lo a : ℕ) → Type 0
Alone f lo a = (p c : ℕ) → In lo a p → In lo a c → p ≢ c → f p ≢ 0 → f c ≡ 0

-- q times column p is to be added to column j
pub record Adds (tb : Table) (lo a k : ℕ) (u : State) (p j : ℕ) (q : ℤ) : Type 0 where
  pub pivot : Smallest (size tb u k) lo a p
  pub active : In lo a j
  pub apart : p ≢ j
  pub filled : size tb u k j ≢ 0
  -- it is the lowest such column
  pub lowest : (c : ℕ) → In lo j c → c ≢ p → size tb u k c ≡ 0
  pub quotient : q ≡ neg_ℤ (quot_z (get tb u k j) (get tb u k p))

abbrev pub Means : Table → (lo a k : ℕ) → State → Next → Type 0
Means tb lo a k u done = Alone (size tb u k) lo a
Means tb lo a k u (adds p j q) = Adds tb lo a k u p j q

pub next_means : (tb : Table) (lo a k : ℕ) (u : State) → Means tb lo a k u (next tb lo a k u)
unfolding next
next_means tb lo a k u = go (smallest_is f lo a)
  where
    f : ℕ → ℕ
    f = size tb u k

    not_other : (p c : ℕ) → is_other f p c ≡ false → c ≢ p → f c ≡ 0
    not_other p c e = failed (is_other_lem f p c) e

    other : (p c : ℕ) → is_other f p c ≡ true → (c ≢ p) × (f c ≢ 0)
    other p c e = passed (is_other_lem f p c) e

    only : (p : ℕ) → ((c : ℕ) → In lo a c → is_other f p c ≡ false) → (q c : ℕ) → In lo a q → In lo a c → q ≢ c → f q ≢ 0 → Dec (c ≡ p) → f c ≡ 0
    only p z q c x y d h (yes e) = absurd (h (not_other p q (z q x) (omega arith)))
    only p z q c x y d h (no e) = not_other p c (z c y) e

    then : {x : Found} (p : ℕ) → Smallest f lo a p → FirstIs (is_other f p) lo a x → Means tb lo a k u (next_add tb k u p x)
    then p s (no_first z) = λ q c x y d h. only p z q c x y d h (ℕ_discrete c p)
    then p s (is_first j i e z) = record {
      pivot = s;
      active = i;
      apart = λ e₂. (other p j e).0 (sym e₂);
      filled = (other p j e).1;
      lowest = λ c x d. not_other p c (z c x) d;
      quotient = refl;
    }

    go : {x : Found} → SmallestIs f lo a x → Means tb lo a k u (next_for tb lo a k u x)
    go (all-zero z) = λ p c x y d h. z c y
    go (is_smallest p s) = then p s (first_is_lem (is_other f p) lo a)

-- ---- the sum falls
cancels : (a b : ℤ) → a +ℤ neg_ℤ (quot_z a b) *ℤ b ≡ rem_z a b
cancels a b = ap (λ z. z +ℤ neg_ℤ (quot_z a b) *ℤ b) (quot-rem a b) ∙ ring₃ (quot_z a b) b (rem_z a b) (λ q b r. (q ⊗ b ⊕ r) ⊕ ⊝ q ⊗ b ≟ r) tt

pub size_off : (tb : Table) (k : ℕ) (u : State) (p j : ℕ) (q : ℤ) (c : ℕ) → j ≢ c → size tb (add_step p j q u) k c ≡ size tb u k c
unfolding size
size_off tb k u p j q c d = ap nat_abs (add-off p j q u tb k c d)

module _ (tb : Table) (lo a k : ℕ) (u : State) (p j : ℕ) (q : ℤ) where
  -- entry j becomes the remainder of its division by entry p
  pub entry_at : Adds tb lo a k u p j q → get tb (add_step p j q u) k j ≡ rem_z (get tb u k j) (get tb u k p)
  entry_at h = add_at p j q u (size_in tb u k j h.filled) tb k ∙ rw h.quotient (cancels (get tb u k j) (get tb u k p))

  pub size_at : Adds tb lo a k u p j q → size tb (add_step p j q u) k j ≡ nat_abs (rem_z (get tb u k j) (get tb u k p))
  unfolding size
  size_at h = ap nat_abs (entry_at h)

  pub size_less : Adds tb lo a k u p j q → size tb (add_step p j q u) k j < size tb u k p
  unfolding size
  size_less h = rw (size_at h) (rem_lt (get tb u k j) (get tb u k p) (omega (arith, h.pivot.filled)))

  pub total_falls : next tb lo a k u ≡ adds p j q → total (size tb (add_step p j q u) k) lo a < total (size tb u k) lo a
  total_falls e =
      let h : Adds tb lo a k u p j q = rw e at (next_means tb lo a k u) in
      total-less lo (size tb u k) (size tb (add_step p j q u) k) a j h.active
      (omega (arith, size_less h, h.pivot.least j h.active h.filled)) (λ c i d. size_off tb k u p j q c d)

-- ---- so the repetitions end
-- what a repetition does, by cases on what comes next
abbrev pub once : (times : ℕ) → Table → (lo a k : ℕ) → State → Next → State
once times tb lo a k u x = elim x [ done ↦ u | adds p j q ↦ repeat_a times tb lo a k (add_step p j q u) ]

module _ (tb : Table) (lo a k : ℕ) where
  -- where the sum is 0, nothing is to be done
  zero-done : (u : State) → total (size tb u k) lo a ≡ 0 → next tb lo a k u ≡ done
  zero-done u e = go (next tb lo a k u) refl
    where
      go : (x : Next) → next tb lo a k u ≡ x → x ≡ done
      go done h = refl
      go (adds p j q) h = absurd (omega (arith, total_falls tb lo a k u p j q h))

  repeat_a_ends : (times : ℕ) (u : State) → total (size tb u k) lo a ≤ times → next tb lo a k (repeat_a times tb lo a k u) ≡ done
  unfolding repeat_a
  repeat_a_ends zero u h = zero-done u (omega arith)
  repeat_a_ends (suc times) u h = go (next tb lo a k u) refl (repeat_a_ends times)
    where
      go : (x : Next) → next tb lo a k u ≡ x → ((w : State) → total (size tb w k) lo a ≤ times → next tb lo a k (repeat_a times tb lo a k w) ≡ done)
          → next tb lo a k (once times tb lo a k u x) ≡ done
      go done e r = e
      go (adds p j q) e r = r (add_step p j q u) (omega (arith, total_falls tb lo a k u p j q e))

  pub eliminate_ends : (u : State) → next tb lo a k (eliminate tb lo a k u) ≡ done
  unfolding eliminate
  eliminate_ends u = repeat_a_ends (total (size tb u k) lo a) u (omega arith)

  -- the number of repetitions allowed does not matter, if it is enough
  repeat_a_enough : (f g : ℕ) (u : State) → total (size tb u k) lo a ≤ f → total (size tb u k) lo a ≤ g → repeat_a f tb lo a k u ≡ repeat_a g tb lo a k u
  unfolding repeat_a
  repeat_a_enough zero zero u h l = refl
  repeat_a_enough zero (suc g) u h l = sym (ap (once g tb lo a k u) (zero-done u (omega arith)))
  repeat_a_enough (suc f) zero u h l = ap (once f tb lo a k u) (zero-done u (omega arith))
  repeat_a_enough (suc f) (suc g) u h l = go (next tb lo a k u) refl (repeat_a_enough f g)
    where
      go : (x : Next) → next tb lo a k u ≡ x
          → ((w : State) → total (size tb w k) lo a ≤ f → total (size tb w k) lo a ≤ g → repeat_a f tb lo a k w ≡ repeat_a g tb lo a k w)
          → once f tb lo a k u x ≡ once g tb lo a k u x
      go done e r = refl
      go (adds p j q) e r = r (add_step p j q u) (omega (arith, total_falls tb lo a k u p j q e)) (omega (arith, total_falls tb lo a k u p j q e))

  -- ---- (A) as it is written, with no count: nothing, or one step and (A) again
  pub eliminate-done : (u : State) → next tb lo a k u ≡ done → eliminate tb lo a k u ≡ u
  unfolding eliminate repeat_a
  eliminate-done u e = at (total (size tb u k) lo a)
    where
      at : (f : ℕ) → repeat_a f tb lo a k u ≡ u
      at zero = refl
      at (suc f) = ap (once f tb lo a k u) e

  pub eliminate-adds : (u : State) (p j : ℕ) (q : ℤ) → next tb lo a k u ≡ adds p j q → eliminate tb lo a k u ≡ eliminate tb lo a k (add_step p j q u)
  unfolding eliminate repeat_a
  eliminate-adds u p j q e = at (total (size tb u k) lo a) refl
    where
      w : State
      w = add_step p j q u

      at : (f : ℕ) → total (size tb u k) lo a ≡ f → repeat_a f tb lo a k u ≡ repeat_a (total (size tb w k) lo a) tb lo a k w
      at zero t = absurd (omega (arith, total_falls tb lo a k u p j q e))
      at (suc f) t = ap (once f tb lo a k u) e ∙ repeat_a_enough f (total (size tb w k) lo a) w (omega (arith, total_falls tb lo a k u p j q e)) (omega arith)

  -- ---- what (A) leaves
  pub eliminate-alone : (u : State) → Alone (size tb (eliminate tb lo a k u) k) lo a
  eliminate-alone u = rw (eliminate_ends u) at (next_means tb lo a k (eliminate tb lo a k u))

  repeat_a-moves : (times n : ℕ) (u : State) → count u ≡ n → Moves n lo a u (repeat_a times tb lo a k u)
  unfolding repeat_a
  repeat_a-moves zero n u e = stay
  repeat_a-moves (suc times) n u e = go (next tb lo a k u) (next_means tb lo a k u) (repeat_a-moves times n)
    where
      go : (x : Next) → Means tb lo a k u x → ((w : State) → count w ≡ n → Moves n lo a w (repeat_a times tb lo a k w))
          → Moves n lo a u (once times tb lo a k u x)
      go done h r = stay
      go (adds p j q) h r =
          let there : j < n = omega (arith, size_in tb u k j h.filled) in
          both (one (add p j q h.pivot.within there h.apart)) (r (add_step p j q u) (add_count p j q u ∙ e))

  pub eliminate-moves : (n : ℕ) (u : State) → count u ≡ n → Moves n lo a u (eliminate tb lo a k u)
  unfolding eliminate
  eliminate-moves n u e = repeat_a-moves (total (size tb u k) lo a) n u e

  -- a row that is not all zero stays so
  repeat_a-filled : (times : ℕ) (u : State) (p : ℕ) → In lo a p → size tb u k p ≢ 0 → (c : ℕ) × In lo a c × (size tb (repeat_a times tb lo a k u) k c ≢ 0)
  unfolding repeat_a
  repeat_a-filled zero u p x h = (p, x, h)
  repeat_a-filled (suc times) u p x h = go (next tb lo a k u) (next_means tb lo a k u) (repeat_a-filled times)
    where
      go : (y : Next) → Means tb lo a k u y
          → ((w : State) (p : ℕ) → In lo a p → size tb w k p ≢ 0 → (c : ℕ) × In lo a c × (size tb (repeat_a times tb lo a k w) k c ≢ 0))
          → (c : ℕ) × In lo a c × (size tb (once times tb lo a k u y) k c ≢ 0)
      go done m r = (p, x, h)
      go (adds p₁ j q) m r = r (add_step p₁ j q u) p₁ m.pivot.within (λ z. m.pivot.filled (sym (size_off tb k u p₁ j q p₁ (λ d. m.apart (sym d))) ∙ z))

  pub eliminate-filled : (u : State) (p : ℕ) → In lo a p → size tb u k p ≢ 0 → (c : ℕ) × In lo a c × (size tb (eliminate tb lo a k u) k c ≢ 0)
  unfolding eliminate
  eliminate-filled u p x h = repeat_a-filled (total (size tb u k) lo a) u p x h
