-- Why few repetitions of (A) are left. Once the pivot is one of the two lowest columns that are not zero, these two divide each other in turn,
-- as in Euclid's algorithm, until one of them is cleared; the one that is left is smallest and lowest, and goes on with the next column.
use mathlib.Core.Path.{◌≡◌, sym, ◌∙◌, ap}
use mathlib.Core.Logic.{◌≢◌}
use Prim.Native.Nat.{ℕ, suc, ◌%◌, ◌<◌}
use native.Mathlib.Omega.{arith}
use native.Mathlib.Decide.{ℕ_discrete, dec_lt}
use lib.IntN.{ℤ}
use Rattle.whole.proofs.Division.{abs-rem, mod-sum-le, divisor_half}
use Rattle.rules.specs.Steps.{State, Table, get, add_step}
use Rattle.rules.specs.Stages.{size}
use Rattle.theory.proofs.Search.{In}
use Rattle.theory.proofs.Eliminate.{Alone, Adds, size_off, size_at, size_less}
use Rattle.theory.proofs.Fibonacci.{fib, fib-sum, fib-rises, fib_2, fib_3, fib_4}

-- where column j is to be divided by column p, in a row whose absolute values are f: at most e divisions that clear no column are still to come
pub data Left (e lo a : ℕ) (f : ℕ → ℕ) (p j : ℕ) : Type 0 where
  -- wherever p is
  anywhere : ((c : ℕ) → In lo a c → f c ≢ 0 → f c % f p < fib (suc (suc e))) → Left e lo a f p j
  -- p is one of the two lowest: at most one column below it is not zero
  near : Alone f lo p → f p < fib (suc (suc (suc e))) → Left e lo a f p j
  -- and j is the other of the two
  turned : Alone f lo p → f p < f j → f j < fib (suc (suc (suc (suc e)))) → Left e lo a f p j

module _ (tb : Table) (lo a k : ℕ) (u : State) (p j : ℕ) (q : ℤ) (t : Adds tb lo a k u p j q) where
  -- the row before and after the step
  abbrev f : ℕ → ℕ
  f = size tb u k

  abbrev g : ℕ → ℕ
  g = size tb (add_step p j q u) k

  divided : g j ≡ f j % f p
  unfolding size
  divided = size_at tb lo a k u p j q t ∙ abs-rem (get tb u k j) (get tb u k p)

  less : g j < f p
  less = size_less tb lo a k u p j q t

  off : (c : ℕ) → j ≢ c → g c ≡ f c
  off c d = size_off tb k u p j q c d

  pub pivot_same : g p ≡ f p
  pivot_same = off p (λ e. t.apart (sym e))

  zero-stays : (c : ℕ) → f c ≡ 0 → g c ≡ 0
  zero-stays c z = off c (λ e. t.filled (ap f e ∙ z)) ∙ z

  alone-stays : (b : ℕ) → Alone f lo b → Alone g lo b
  alone-stays b h c d i k n m = zero-stays d (h c d i k n (λ z. m (zero-stays c z)))

  -- below j only p can be other than zero
  alone-below : Alone g lo j
  alone-below = alone-stays j (λ c d i k n m. go c d i k n m (ℕ_discrete d p))
    where
      go : (c d : ℕ) → In lo j c → In lo j d → c ≢ d → f c ≢ 0 → Dec (d ≡ p) → f d ≡ 0
      go c d i k n m (yes e) = absurd (m (t.lowest c i (λ x. n (x ∙ sym e))))
      go c d i k n m (no e) = t.lowest d k e

  -- ---- column j is cleared: the pivot stays
  pub cleared_left : (e i : ℕ) → g j ≡ 0 → Left e lo a f p j → Left e lo a g p i
  cleared_left e i z (anywhere h) = anywhere (λ c k m.
      rw (off c (λ d. m (ap g (sym d) ∙ z)), pivot_same) (h c k (λ x. m (zero-stays c x))))
  cleared_left e i z (near h l) = near (alone-stays p h) (omega (arith, pivot_same))
  cleared_left e i z (turned h l k) = near (alone-stays p h) (omega (
    arith,
    pivot_same,
    divisor_half (f j) (f p) l (sym divided ∙ z),
    fib-sum (suc (suc e)),
    fib-rises (suc e),
  ))

  -- ---- it is not: then a division was left
  pub none_left : g j ≢ 0 → Left 0 lo a f p j → ⊥
  none_left m (anywhere h) = omega (arith, fib_2, divided, h j t.active t.filled)
  none_left m (near h l) = omega (arith, fib_3, less)
  none_left m (turned h l k) = omega (arith, fib_4, less)

  -- and j is the pivot now, i is divided next: p again, if p was near
  module _ (i : ℕ) (r : ℤ) (after : Adds tb lo a k (add_step p j q u) j i r) where
    other_is : Alone f lo p → i ≡ p
    other_is h = go (dec_lt i p) (dec_lt p i)
      where
        below : i < p → Dec (p < j) → f i ≡ 0
        below l (yes x) = t.lowest i (omega (arith, after.active.low)) (omega arith)
        below l (no x) = h j i (omega (arith, t.active.low, t.apart)) (omega (arith, after.active.low)) after.apart t.filled

        go : Dec (i < p) → Dec (p < i) → i ≡ p
        go (yes l) y = absurd (after.filled (zero-stays i (below l (dec_lt p j))))
        go (no x) (yes l) = absurd (t.pivot.filled (sym pivot_same ∙ after.lowest p (omega (arith, t.pivot.within.low)) t.apart))
        go (no x) (no y) = omega arith

    other_same : Alone f lo p → g i ≡ f p
    other_same h = ap g (other_is h) ∙ pivot_same

    pub reduced_left : (e : ℕ) → Left (suc e) lo a f p j → Left e lo a g j i
    reduced_left e (anywhere h) = near alone-below (omega (arith, divided, h j t.active t.filled))
    reduced_left e (near h l) = turned alone-below (omega (arith, less, other_same h)) (omega (arith, other_same h))
    reduced_left e (turned h l k) = go (dec_lt (f p) (fib (suc (suc (suc (suc e))))))
      where
        go : Dec (f p < fib (suc (suc (suc (suc e))))) → Left e lo a g j i
        go (yes x) = turned alone-below (omega (arith, less, other_same h)) (omega (arith, other_same h))
        go (no x) = near alone-below (omega (arith, divided, mod-sum-le (f j) (f p) (omega arith), fib-sum (suc (suc (suc e)))))
