-- How often (A) is repeated in one row at most: each repetition clears a column, or is one of the few divisions that are left (Pair).
use mathlib.Core.Path.{◌≡◌, refl, sym, ◌∙◌}
use mathlib.Core.Logic.{◌≢◌}
use mathlib.Core.Bool.{false, cond}
use Prim.Native.Nat.{ℕ, zero, suc, ◌+◌, ◌*◌, ◌%◌, ◌-◌, ◌≤◌, ◌<◌}
use native.Mathlib.Omega.{arith}
use native.Mathlib.Nat.{mod-lt}
use native.Mathlib.Decide.{ℕ_discrete}
use lib.Dec.{eqb}
use lib.IntN.{ℤ}
use borrow.Author.Tests.{ne_eqb}
use Rattle.whole.proofs.Division.{mod-sum-le}
use Rattle.rules.specs.Limits.{M}
use Rattle.rules.specs.Search.{found, total}
use Rattle.rules.specs.Steps.{State, Table, add_step}
use Rattle.rules.specs.Stages.{size, Next, done, adds, next, repeat_a, eliminate}
use Rattle.theory.proofs.Search.{In, Smallest, smallest_found}
use Rattle.theory.proofs.StepLines.{add_steps}
use Rattle.theory.proofs.Eliminate.{Adds, size_off, once}
use Rattle.theory.proofs.Repetition.{adds_is, pivot-after}
use Rattle.theory.proofs.Range.{NearState, fine-get}
use Rattle.theory.proofs.Fibonacci.{fib, fib_45, fib_47}
use Rattle.theory.proofs.Filled.{filled, filled-le, filled-some, filled-less, filled_same}
use Rattle.theory.proofs.Pair.{Left, anywhere, pivot_same, cleared_left, none_left, reduced_left}

module _ (tb : Table) (lo a k : ℕ) where
  -- at most n repetitions that clear no column are still to come
  abbrev Ahead : ℕ → State → Type 0
  Ahead n u = (p j : ℕ) (q : ℤ) → next tb lo a k u ≡ adds p j q → Left n lo a (size tb u k) p j

  -- ---- one repetition
  module _ (u : State) (p j : ℕ) (q : ℤ) (e : next tb lo a k u ≡ adds p j q) where
    -- the state after it, and the row before and after
    abbrev w : State
    w = add_step p j q u

    abbrev f : ℕ → ℕ
    f = size tb u k

    abbrev g : ℕ → ℕ
    g = size tb w k

    now : Adds tb lo a k u p j q
    now = adds_is tb lo a k u p j q e

    pivot_is : (i c : ℕ) (r : ℤ) → Adds tb lo a k w i c r → i ≡ cond (eqb (g j) 0) p j
    pivot_is i c r t =
        let h : found i ≡ found (cond (eqb (g j) 0) p j) = sym (smallest_found g lo a i t.pivot) ∙ pivot-after tb lo a k u p j q e in
        cc

    cleared_ahead : (n : ℕ) → g j ≡ 0 → Ahead n u → Ahead n w
    cleared_ahead n z h i c r x =
        let s : i ≡ p = pivot_is i c r (adds_is tb lo a k w i c r x) ∙ rw z in
        rw s (cleared_left tb lo a k u p j q now n c z (h p j q e))

    reduced_ahead : (n : ℕ) → g j ≢ 0 → Ahead (suc n) u → Ahead n w
    reduced_ahead n m h i c r x =
        let t : Adds tb lo a k w i c r = adds_is tb lo a k w i c r x in
        let s : i ≡ j = pivot_is i c r t ∙ rw (ne_eqb (g j) 0 m) in
        rw s (reduced_left tb lo a k u p j q now c r (rw s at t) n (h p j q e))

    -- a column or a division fewer, and a column is left
    record Fewer (n : ℕ) : Type 0 where
      rest : ℕ
      ahead : Ahead rest w
      less : filled g lo a + rest < filled f lo a + n
      some : 1 ≤ filled g lo a

    step_fewer : (n : ℕ) → Ahead n u → Fewer n
    step_fewer n h = go n h (ℕ_discrete (g j) 0)
      where
        left : 1 ≤ filled g lo a
        left = filled-some g lo a p now.pivot.within (λ z. now.pivot.filled (sym (pivot_same tb lo a k u p j q now) ∙ z))

        go : (n : ℕ) → Ahead n u → Dec (g j ≡ 0) → Fewer n
        go n h (yes z) = record {
          rest = n;
          ahead = cleared_ahead n z h;
          less = omega (arith, filled-less lo a f g j now.active now.filled (size_off tb k u p j q) z);
          some = left;
        }
        go zero h (no m) = absurd (none_left tb lo a k u p j q now m (h p j q e))
        go (suc n) h (no m) = record {
          rest = n;
          ahead = reduced_ahead n m h;
          less = omega (arith, filled_same lo a f g j now.active now.filled (size_off tb k u p j q) m);
          some = left;
        }

  -- ---- all of them
  repeat_a_depth : (times n : ℕ) (u : State) → Ahead n u → (repeat_a times tb lo a k u).steps ≤ u.steps + (filled (size tb u k) lo a + n - 1)
  unfolding repeat_a
  repeat_a_depth zero n u h = omega arith
  repeat_a_depth (suc times) n u h = go (next tb lo a k u) refl (repeat_a_depth times)
    where
      go : (x : Next) → next tb lo a k u ≡ x
          → ((n : ℕ) (w : State) → Ahead n w → (repeat_a times tb lo a k w).steps ≤ w.steps + (filled (size tb w k) lo a + n - 1))
          → (once times tb lo a k u x).steps ≤ u.steps + (filled (size tb u k) lo a + n - 1)
      go done e r = omega arith
      go (adds p j q) e r =
          let s : Fewer u p j q e n = step_fewer u p j q e n h in
          omega (arith, r s.rest (add_step p j q u) s.ahead, s.less, s.some, add_steps p j q u)

  module _ (u : State) where
    eliminate_depth : (n : ℕ) → Ahead n u → (eliminate tb lo a k u).steps ≤ u.steps + (filled (size tb u k) lo a + n - 1)
    unfolding eliminate
    eliminate_depth n h = repeat_a_depth (total (size tb u k) lo a) n u h

    -- ---- by the remainders that the first divisions can leave
    pub depth_by_remainders : (e : ℕ)
        → ((p c : ℕ) → Smallest (size tb u k) lo a p → In lo a c → size tb u k c ≢ 0 → size tb u k c % size tb u k p < fib (suc (suc (suc e))))
        → (eliminate tb lo a k u).steps ≤ u.steps + (filled (size tb u k) lo a + e)
    depth_by_remainders e h = omega (arith, eliminate_depth (suc e) (λ p j q x. anywhere (λ c. h p c (adds_is tb lo a k u p j q x).pivot)))

    rest_lt : (p c : ℕ) → Smallest (size tb u k) lo a p → size tb u k c % size tb u k p < size tb u k p
    rest_lt p c s = mod-lt (size tb u k c) (omega (arith, s.filled))

    -- they are below the smallest entry
    pub depth_by_smallest : (e : ℕ) → ((p : ℕ) → Smallest (size tb u k) lo a p → size tb u k p < fib (suc (suc (suc e))))
        → (eliminate tb lo a k u).steps ≤ u.steps + (filled (size tb u k) lo a + e)
    depth_by_smallest e h = depth_by_remainders e (λ p c s i m. omega (arith, h p s, rest_lt p c s))

    -- and below half of what is divided
    pub depth_by_entries : (e : ℕ) → ((c : ℕ) → In lo a c → size tb u k c ≤ 2 * fib (suc (suc (suc e))))
        → (eliminate tb lo a k u).steps ≤ u.steps + (filled (size tb u k) lo a + e)
    depth_by_entries e h = depth_by_remainders e (λ p c s i m.
        omega (arith, h c i, rest_lt p c s, mod-sum-le (size tb u k c) (size tb u k p) (s.least c i m)))

    -- ---- where the smallest entry is within M
    pub depth_smallest-within : ((p : ℕ) → Smallest (size tb u k) lo a p → size tb u k p ≤ M) → (eliminate tb lo a k u).steps ≤ u.steps + (a - lo + 44)
    depth_smallest-within h = omega (arith, depth_by_smallest 44 (λ p s. omega (arith, h p s, fib_47)), filled-le (size tb u k) lo a)

    -- ---- where all are
    pub depth_all-within : ((c : ℕ) → In lo a c → size tb u k c ≤ M) → (eliminate tb lo a k u).steps ≤ u.steps + (a - lo + 42)
    depth_all-within h = omega (arith, depth_by_entries 42 (λ c i. omega (arith, h c i, fib_45)), filled-le (size tb u k) lo a)

    -- in the run, if no value has passed M before (A) begins, whether or not one does in it
    pub row_depth : (n : ℕ) → NearState n u → u.over ≡ false → a ≤ n → n ≤ 24 → (eliminate tb lo a k u).steps ≤ u.steps + 66
    unfolding size
    row_depth n f o h l = omega (arith, depth_all-within (λ c _. fine-get n u f o tb k c))

    -- ---- a column alone has no other to divide
    pub depth_alone : a - lo ≤ 1 → (eliminate tb lo a k u).steps ≤ u.steps
    depth_alone h = omega (arith, eliminate_depth 0 (λ p j q x. absurd (two p j q (adds_is tb lo a k u p j q x))), filled-le (size tb u k) lo a)
      where
        two : (p j : ℕ) (q : ℤ) → Adds tb lo a k u p j q → ⊥
        two p j q t = omega (arith, t.apart, t.pivot.within.low, t.pivot.within.high, t.active.low, t.active.high)
