-- Single values: what is stored, and what is computed of two entries in 64 bits.
use mathlib.Core.Path.{ap₂, ◌∙◌}
use Prim.Native.Nat.{◌^◌, ◌<◌}
use lib.Signed.{mag}
use mir.Val.{hbits}
use Rattle.std.proofs.Common.{◌≡◌, refl, ap, Bool, true, false, cond, ◌≤◌, arith, ℤ, pos, nat_abs, ◌+ℤ◌, ◌*ℤ◌, to_z, of_z, w32, w64}
use lib.Signed.{quot_z}
use mir.Val.{SFits}
use mir.Facts.{to_z-of_z}
use Rattle.rules.specs.Limits.{M, beyond}
use Rattle.checks.proofs.Values.{abs32, within, not_beyond, widened, prod_fits, mix_fits, quot_fits}
use Rattle.scaling.specs.Strided.{keep}

-- ---- what is stored
pub keep_is : (z : ℤ) (b : Bool) → beyond z ≡ b → keep z ≡ cond b (pos 0) z
keep_is z b e = ap (λ (b : Bool). cond b (pos 0) z) e

pub kept : (z : ℤ) → nat_abs z ≤ M → keep z ≡ z
kept z h = keep_is z false (not_beyond z h)

pub keep-small : (z : ℤ) → nat_abs (keep z) ≤ M
keep-small z = go (beyond z) refl
  where
    go : (b : Bool) → beyond z ≡ b → nat_abs (cond b (pos 0) z) ≤ M
    go true e = omega arith
    go false e = within z e

-- ---- a quotient of two entries, by either division, as it is answered: z
pub record Quotient (div : ℤ → ℤ → ℤ) (a b z : ℤ) : Type 0 where
  pub is : to_z w64 (of_z w64 z) ≡ div a b
  pub small : nat_abs (to_z w64 (of_z w64 z)) ≤ 2147483648

pub quotient_of : {div : ℤ → ℤ → ℤ} → ((a b : ℤ) → nat_abs (div a b) ≤ nat_abs a) → (a b : ℤ) {z : ℤ}
    → mag a < 2 ^ hbits w32 → mag b < 2 ^ hbits w32 → mag z < 2 ^ hbits w64 → z ≡ div (to_z w32 (of_z w32 a)) (to_z w32 (of_z w32 b)) → Quotient div a b z
quotient_of {div} le a b {z} f g h e =
    let held : (x : ℤ) → mag x < 2 ^ hbits w32 → to_z w32 (of_z w32 x) ≡ x = λ x k. to_z-of_z {w = w32} (record { sfits = k }) in
    let i : to_z w64 (of_z w64 z) ≡ div a b = to_z-of_z {w = w64} (record { sfits = h }) ∙ e ∙ ap₂ div (held a f) (held b g) in
    record { is = i; small = rw i (omega (arith, le a b, abs32 a (record { sfits = f }))) }

-- ---- entries in 64 bits, as `i64::from` gives them: u and v are x and y
abbrev pub wide : ℤ → ℤ
wide z = to_z w64 (of_z w64 z)

pub widens-to : {x u : ℤ} → SFits w32 x → u ≡ to_z w32 (of_z w32 x) → wide u ≡ x
widens-to {x} f e = rw e (widened x f)

module _ {x y u v : ℤ} (fx : SFits w32 x) (fy : SFits w32 y) (eu : u ≡ to_z w32 (of_z w32 x)) (ev : v ≡ to_z w32 (of_z w32 y)) where
  pub quot_wide : wide (quot_z (wide u) (wide v)) ≡ quot_z x y
  quot_wide = rw (widens-to fx eu, widens-to fy ev) (to_z-of_z (quot_fits x y (omega (arith, abs32 x fx))))

  -- x + q * y
  module _ {q : ℤ} (fq : SFits w64 q) (h : nat_abs q ≤ 2147483648) where
    pub product-fits : SFits w64 (wide q *ℤ wide v)
    product-fits = rw (to_z-of_z fq, widens-to fy ev) (prod_fits q y h (abs32 y fy))

    pub sum-fits : SFits w64 (wide u +ℤ wide (wide q *ℤ wide v))
    sum-fits = rw (to_z-of_z product-fits, to_z-of_z fq, widens-to fx eu, widens-to fy ev) (mix_fits q y h (abs32 y fy) x (abs32 x fx))

    pub sum_wide : wide (wide u +ℤ wide (wide q *ℤ wide v)) ≡ x +ℤ q *ℤ y
    sum_wide = rw (to_z-of_z sum-fits, to_z-of_z product-fits, to_z-of_z fq, widens-to fx eu, widens-to fy ev)
