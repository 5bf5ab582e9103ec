-- The sum of products that a loop adds up in 64 bits: one more product, and the sizes of a sum begun.
use mathlib.Core.Path.{◌≡◌, refl, ap₂}
use mathlib.Core.List.{List}
use Prim.Native.Nat.{ℕ, suc, ◌+◌, ◌*◌, ◌<◌, ◌≤◌}
use native.Mathlib.Numerals.{add-one}
use native.Mathlib.Omega.{arith}
use lib.ListN.{length}
use lib.IntN.{ℤ, nat_abs, ◌+ℤ◌, ◌*ℤ◌}
use mir.Syntax.{w32, w64}
use mir.Val.{SFits, to_z, of_z}
use mir.Facts.{to_z-of_z}
use Rattle.whole.specs.Lists.{nth}
use Rattle.whole.specs.Sum.{sum}
use Rattle.whole.proofs.Order as order
use Rattle.rules.specs.Limits.{M}
use Rattle.checks.proofs.Values.{abs32, prod_fits}
use Rattle.formulas.specs.Terms.{Factors}

-- the sum of the first k products, and its size
pub record Begun (a b : List ℤ) (k : ℕ) (s : ℤ) : Type 0 where
  pub is : s ≡ sum k (λ j. nth a j *ℤ nth b j)
  pub small : nat_abs s ≤ k * 343_597_383_680_000_000

pub begun-none : (a b : List ℤ) → Begun a b 0 (to_z w64 0)
unfolding sum
begun-none a b = record { is = refl; small = omega arith }

-- x and y are the numbers at k
module _ {a b : List ℤ} (F : Factors a b) {k : ℕ} {s x y : ℤ} (B : Begun a b k s) (within : k < length a) (x-is : x ≡ nth a k) (y-is : y ≡ nth b k)
    (f : SFits w32 x) where
  y_small : nat_abs y ≤ 160_000_000
  y_small = rw y-is (F.small k)

  pub product-fits : SFits w64 (x *ℤ y)
  product-fits = prod_fits x y (abs32 x f) (omega (arith, y_small))

  next_small : nat_abs (s +ℤ x *ℤ y) ≤ suc k * 343_597_383_680_000_000
  next_small = omega (arith, B.small, order.abs-add s (x *ℤ y), order.product_size x y (abs32 x f) y_small)

  pub sum-fits : SFits w64 (s +ℤ x *ℤ y)
  sum-fits = order.fits w64 (s +ℤ x *ℤ y) (omega (arith, F.few, next_small))

  pub sum-more : Begun a b (k + 1) (to_z w64 (of_z w64 (s +ℤ x *ℤ y)))
  unfolding sum
  sum-more = rw (to_z-of_z sum-fits, add-one k) (record { is = ap₂ ◌+ℤ◌ B.is (ap₂ ◌*ℤ◌ x-is y-is); small = next_small })

-- a number of 64 bits within M, stored in 32
module _ (z : ℤ) (small : nat_abs z ≤ M) where
  wide : SFits w64 z
  wide = order.fits w64 z (omega arith)

  narrow : SFits w32 z
  narrow = order.fits w32 z (omega arith)

  pub narrows : SFits w32 (to_z w64 (of_z w64 z))
  narrows = rw (to_z-of_z wide) narrow

  pub narrowed : to_z w32 (of_z w32 (to_z w64 (of_z w64 z))) ≡ z
  narrowed = rw (to_z-of_z wide, to_z-of_z narrow)
