-- A signed number of 32 bits and its bits, by way of -1 - z, which takes each sign to the other.
use mathlib.Core.Path.{◌≡◌, refl, sym, ap, ◌∙◌, subst}
use mathlib.Core.Bool.{true, false, true≢false}
use Prim.Native.Nat.{ℕ, suc, ◌-◌, ◌^◌, ◌<◌, ◌≤◌}
use native.Mathlib.Omega.{arith}
use borrow.Author.Tests.{le-ltb, ltb-true}
use lib.IntN.{ℤ, pos, negsuc, ◌-ℤ◌}
use lib.Signed.{lt_z}
use mir.Syntax.{Width, w16, w32}
use mir.Val.{SFits, to_z, of_z, bits, hbits}
use mir.Facts.{to_z_pos, to_z-of_z}
use Rattle.whole.proofs.Order.{zarith, -is}

less-pos : (k : ℕ) → negsuc 0 -ℤ pos k ≡ negsuc k
less-pos k = omega (zarith, -is (negsuc 0) (pos k))

less-neg : (k : ℕ) → negsuc 0 -ℤ negsuc k ≡ pos k
less-neg k = omega (zarith, -is (negsuc 0) (negsuc k))

-- ---- from bits, of any width, in their upper half: -1 - k, where k is what x lacks to all ones
module _ (w : Width) (x k : ℕ) (h : 2 ^ hbits w ≤ x) (e : k ≡ 2 ^ bits w - suc x) (l : k < 2 ^ 31) where
  to_negative : negsuc 0 -ℤ to_z w32 k ≡ negsuc k
  to_negative = rw (to_z_pos w32 {n = k} l) (less-pos k)

  pub upper_half_fits : SFits w32 (negsuc 0 -ℤ to_z w32 k)
  upper_half_fits = subst (SFits w32) (sym to_negative) (record { sfits = l })

  pub upper_half : to_z w32 (of_z w32 (negsuc 0 -ℤ to_z w32 k)) ≡ to_z w x
  upper_half = to_z-of_z upper_half_fits ∙ to_negative ∙ rw (le-ltb x (2 ^ hbits w) h, ← e)

-- in the lower half of 16 bits: x itself
pub lower_half : (x : ℕ) → x < 32768 → to_z w32 x ≡ to_z w16 x
lower_half x h = to_z_pos w32 (omega arith) ∙ sym (to_z_pos w16 h)

-- ---- to the bits of z
pub record Negative (z : ℤ) : Type 0 where
  pub k : ℕ
  pub small : k < 2 ^ 31
  pub bits_are : 4294967295 - k ≡ of_z w32 z
  pub once : negsuc 0 -ℤ to_z w32 (of_z w32 z) ≡ pos k
  pub twice : to_z w32 (of_z w32 (negsuc 0 -ℤ to_z w32 (of_z w32 z))) ≡ pos k

pub negative : (z : ℤ) → SFits w32 z → lt_z (to_z w32 (of_z w32 z)) (pos 0) ≡ true → Negative z
negative z f h = go z f (rw (to_z-of_z f) at h)
  where
    go : (z : ℤ) → SFits w32 z → lt_z z (pos 0) ≡ true → Negative z
    go (pos n) f h = absurd (omega (arith, ltb-true n 0 h))
    go (negsuc k) f h =
        let l = f.sfits in
        let e : negsuc 0 -ℤ to_z w32 (of_z w32 (negsuc k)) ≡ pos k = rw (to_z-of_z f) (less-neg k) in
        record { k = k; small = l; bits_are = omega arith; once = e; twice = ap (λ (y : ℤ). to_z w32 (of_z w32 y)) e ∙ to_z_pos w32 l }

pub record NonNegative (z : ℤ) : Type 0 where
  pub k : ℕ
  pub small : k < 2 ^ 31
  pub is : z ≡ pos k
  pub once : to_z w32 (of_z w32 z) ≡ pos k

pub non_negative : (z : ℤ) → SFits w32 z → lt_z (to_z w32 (of_z w32 z)) (pos 0) ≡ false → NonNegative z
non_negative z f h = go z f (rw (to_z-of_z f) at h)
  where
    go : (z : ℤ) → SFits w32 z → lt_z z (pos 0) ≡ false → NonNegative z
    go (pos n) f h = record { k = n; small = f.sfits; is = refl; once = to_z_pos w32 f.sfits }
    go (negsuc k) f h = absurd (true≢false h)
