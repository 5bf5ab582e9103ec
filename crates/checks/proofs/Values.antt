-- Single values: what 32 and 64 bits hold, and what a test says.
-- A signed number is held as its bits: to_z w (of_z w z) is what is read back from those of z.
use mathlib.Core.Path.{◌≡◌, refl, ap, sym, ◌∙◌}
use mathlib.Core.Bool.{false}
use Prim.Native.Nat.{suc, ◌<◌, ◌≤◌}
use native.Mathlib.Omega.{arith}
use lib.Dec.{eqb}
use lib.IntN.{ℤ, pos, negsuc, nat_abs, neg_ℤ, ◌+ℤ◌, ◌-ℤ◌, ◌*ℤ◌}
use lib.Signed.{quot_z}
use mir.Syntax.{Width, w32, w64}
use mir.Val.{SFits, to_z, of_z}
use mir.Facts.{to_z-of_z}
use borrow.Author.Tests.{ltb-false, le-ltb, ne_eqb}
use Rattle.whole.proofs.Order.{zarith, fits, fits-abs, abs_neg, abs-sub, product_size}
use Rattle.whole.proofs.Division.{quot_le}
use Rattle.rules.specs.Limits.{M, is_zero, beyond}
use Rattle.theory.proofs.Sizes.{add_size}

-- ---- what fits
pub abs32 : (z : ℤ) → SFits w32 z → nat_abs z ≤ 2147483648
abs32 z f = fits-abs w32 z f

fits64 : (z : ℤ) → nat_abs z < 9223372036854775808 → SFits w64 z
fits64 z h = fits w64 z h

pub fits32 : (z : ℤ) → nat_abs z ≤ M → SFits w32 z
fits32 z h = fits w32 z (omega arith)

widens : (z : ℤ) → SFits w32 z → SFits w64 z
widens z f = fits64 z (omega (arith, abs32 z f))

pub widened : (z : ℤ) → SFits w32 z → to_z w64 (of_z w64 (to_z w32 (of_z w32 z))) ≡ z
widened z f = rw (to_z-of_z f) (to_z-of_z (widens z f))

module _ (a b : ℤ) (ha : nat_abs a ≤ 2147483648) (hb : nat_abs b ≤ 2147483648) where
  pub prod_fits : SFits w64 (a *ℤ b)
  prod_fits = fits64 (a *ℤ b) (omega (arith, product_size a b ha hb))

  pub mix_fits : (x : ℤ) → nat_abs x ≤ 2147483648 → SFits w64 (x +ℤ a *ℤ b)
  mix_fits x hx = fits w64 (x +ℤ a *ℤ b) (add_size x a b hx ha hb)

pub quot_fits : (a b : ℤ) → nat_abs a < 9223372036854775808 → SFits w64 (quot_z a b)
quot_fits a b h = fits64 (quot_z a b) (omega (arith, quot_le a b))

pub neg-fits : (a : ℤ) → nat_abs a ≤ 2147483648 → SFits w64 (neg_ℤ a)
neg-fits a h = fits64 (neg_ℤ a) (omega (arith, abs_neg a))

pub sub-fits : (a b : ℤ) → nat_abs a ≤ 4294967296 → nat_abs b ≤ 4294967296 → SFits w64 (a -ℤ b)
sub-fits a b h g = fits64 (a -ℤ b) (omega (arith, abs-sub a b))

-- ---- what is stored
pub within : (z : ℤ) → beyond z ≡ false → nat_abs z ≤ M
within z e = ltb-false M (nat_abs z) e

pub not_beyond : (z : ℤ) → nat_abs z ≤ M → beyond z ≡ false
not_beyond z h = le-ltb M (nat_abs z) h

-- ---- a test for 0
pub zero_bits : (w : Width) → to_z w 0 ≡ pos 0 → (x : ℤ) → SFits w x → eqb (of_z w x) 0 ≡ is_zero x
zero_bits w z (pos n) f = refl
zero_bits w z (negsuc n) f = ne_eqb (of_z w (negsuc n)) 0 (λ e. omega (zarith, sym (to_z-of_z f) ∙ ap (to_z w) e ∙ z)) ∙ sym (ne_eqb (suc n) 0 (λ e. omega arith))
