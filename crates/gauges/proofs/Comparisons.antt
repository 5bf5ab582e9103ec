-- What a comparison with 0.0, and then the test for a finite number, tell of a number of binary64.
use mathlib.Core.Path.{◌≡◌, refl, sym, ◌∙◌}
use mathlib.Core.Bool.{Bool, true, false, not, ◌&&◌, ◌||◌, beq, true≢false, false≢true}
use Prim.Native.Nat.{zero, suc, ◌*◌, ◌<◌}
use native.Mathlib.Nat.{mul-pos}
use native.Mathlib.Omega.{arith}
use borrow.Author.Tests.{lt-ltb, ltb-true, ltb-false, eqb-true, eq-eqb}
use lib.Dec.{eqb}
use lib.Ieee.{Float, binary64, nan, inf, fin, up, down, lt, eq, of_bits}
use lib.Ieee.Fits.{up_pos}
use lib.Ieee.Positive.{positive}
use Rattle.std.specs.Float.{float_is_finite}
use Rattle.whole.proofs.Tests.{and_both}
use Rattle.rules.specs.Gauges.{is_out}

-- ---- finite and above zero
pub above_zero : (x : Float) → lt (of_bits binary64 0) x ≡ true → positive x ≡ float_is_finite x
unfolding of_bits lt float_is_finite
above_zero nan a = refl
above_zero (inf true) a = refl
above_zero (inf false) a = refl
above_zero (fin true m e) a = absurd (false≢true a)
above_zero (fin false zero e) a = absurd (omega (arith, ltb-true (0 * 1 * down e) (0 * up e * 1) a))
above_zero (fin false (suc m) e) a = lt-ltb 0 (suc m) (omega arith)

pub not-above_zero : (x : Float) → lt (of_bits binary64 0) x ≡ false → positive x ≡ false
unfolding of_bits lt
not-above_zero nan a = refl
not-above_zero (inf s) a = refl
not-above_zero (fin true m e) a = refl
not-above_zero (fin false zero e) a = refl
not-above_zero (fin false (suc m) e) a =
    let p : 0 < suc m * up e = mul-pos (omega arith) (up_pos e) in
    absurd (omega (arith, ltb-false (0 * 1 * down e) (suc m * up e * 1) a))

-- ---- zero or not finite
pub zero_is-out : (x : Float) → eq x (of_bits binary64 0) ≡ true → is_out x ≡ true
unfolding of_bits eq
zero_is-out nan a = refl
zero_is-out (inf s) a = refl
zero_is-out (fin s zero e) a = refl
zero_is-out (fin s (suc m) e) a =
    let p : 0 < suc m * up e = mul-pos (omega arith) (up_pos e) in
    let both = and_both (eqb (suc m * up e * 1) (0 * 1 * down e)) (beq s false || eqb (suc m * up e * 1) 0) a in
    absurd (omega (arith, eqb-true (suc m * up e * 1) (0 * 1 * down e) both.0))

pub not-zero : (x : Float) → eq x (of_bits binary64 0) ≡ false → is_out x ≡ not (float_is_finite x)
unfolding of_bits eq float_is_finite
not-zero nan a = refl
not-zero (inf s) a = refl
not-zero (fin s zero e) a = absurd (true≢false (sym equal ∙ a))
  where
    either : (b : Bool) → b || true ≡ true
    either true = refl
    either false = refl

    equal : eqb (0 * up e * 1) (0 * 1 * down e) && (beq s false || eqb (0 * up e * 1) 0) ≡ true
    equal = rw (eq-eqb (0 * up e * 1) (0 * 1 * down e) (omega arith), eq-eqb (0 * up e * 1) 0 (omega arith)) (either (beq s false))
not-zero (fin s (suc m) e) a = refl

pub ruleset comparisons = (above_zero, not-above_zero, zero_is-out, not-zero)
