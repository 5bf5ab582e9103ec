-- Digits of a text: what the tests of them say, pair by pair.
-- Assumes nothing.
use mathlib.Core.Path.{◌≡◌, refl, sym, ap, ◌∙◌}
use mathlib.Core.Bool.{Bool, true, false, ◌&&◌, false≢true}
use mathlib.Core.List.{List, [], ◌∷◌, ◌++◌}
use Prim.Native.Nat.{ℕ, ◌+◌, ◌*◌, ◌%◌, ◌<◌}
use native.Mathlib.Omega.{arith}
use lib.Dec.{ltb}
use lib.ListN.{length, get_or}
use Rattle.std.proofs.Common.{Some}
use Rattle.std.proofs.lemmas.Option.{cond_some}
use Rattle.rules.specs.Frames.{digit, all_digits}
use Rattle.frames.specs.Line.{byte_in}

abbrev pub is_digit : ℕ → Bool
is_digit b = ltb (digit b) 16

-- a pair that is a byte has two digits, which write it
pub pair_on : (a b z : ℕ) → Some z ≡ byte_in a b → (is_digit a && is_digit b ≡ true) × (z ≡ 16 * digit a + digit b)
pair_on a b z e =
    let h = cond_some (is_digit a && is_digit b) (16 * digit a + digit b) z (sym e) in
    (h.0, sym h.1)

both : (p q r : Bool) → p && q ≡ true → p && (q && r) ≡ r
both true true r e = refl
both true false r e = absurd (false≢true e)
both false q r e = absurd (false≢true e)

-- x is the pair that comes next
pub digits_on : (rest next x : List ℕ) (z : ℕ) → rest ≡ x ++ next → length x ≡ 2
    → Some z ≡ byte_in (get_or x 0 0) (get_or x 1 0) → all_digits next ≡ all_digits rest
digits_on rest next [] z e l h = absurd (omega (arith, l))
digits_on rest next (a ∷ []) z e l h = absurd (omega (arith, l))
digits_on rest next (a ∷ b ∷ c ∷ x) z e l h = absurd (omega (arith, l))
digits_on rest next (a ∷ b ∷ []) z e l h = sym (ap all_digits e ∙ both (is_digit a) (is_digit b) (all_digits next) (pair_on a b z h).0)

-- none is left
pub digits_end : (rest : List ℕ) → length rest % 2 ≡ 0 → length rest < 2 → all_digits rest ≡ true
digits_end [] e l = refl
digits_end (b ∷ []) e l = absurd (omega (arith, e))
digits_end (a ∷ b ∷ t) e l = absurd (omega (arith, l))
