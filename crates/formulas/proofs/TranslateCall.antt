-- The call `translate`: a refusal as it stands, or the formula in the groups; from the answers of checks 1 to 6, of the build, and of 8 and 9.
use mathlib.Core.Path.{◌≡◌, refl, sym, ◌∙◌, ap, subst}
use mathlib.Core.Bool.{◌&&◌}
use mathlib.Core.List.{List, [], ◌∷◌, ◌++◌}
use Prim.Native.Nat.{ℕ}
use lib.Dec.{leb}
use lib.ListN.{length}
use lib.IntN.{ℤ}
use borrow.Author.Tests.{leb-true}
use Rattle.std.proofs.Common.{Result, Ok, Err}
use Rattle.std.proofs.lemmas.Result.{IfOk-at_ok}
use Rattle.whole.proofs.Tests.{and_both}
use Rattle.rules.specs.Limits.{room_coefficients, room_exponents}
use Rattle.rules.specs.Problem.{Problem}
use Rattle.rules.specs.Stages.{run}
use Rattle.rules.specs.Formulas.{Formula, WellFormedFormula}
use Rattle.rules.specs.Calls.{Check, Verdict, verdict, range_check, terms_check, translated_to, translate_of, translate_verdict}
use Rattle.theory.proofs.Refusals.{goes_on, stays}
use Rattle.theory.proofs.Accepted.{formula-accepted}
use Rattle.checks.specs.declared.Refusal.{Refusal}
use Rattle.checks.specs.declared.lent.Checked.{Checked}
use Rattle.checks.specs.Refusals.{told, refusal, number_of, place_of}
use Rattle.checks.specs.Checks.{given, problem_of, TellsTo6}
use Rattle.checks.proofs.Verdicts.{to6, formula-refused, formula-passed, exponents-passed, past_6}
use Rattle.scaling.specs.declared.Built.{Built}
use Rattle.scaling.proofs.Called.{Called}
use Rattle.formulas.specs.declared.TranslateAnswer.{TranslateAnswer}
use Rattle.formulas.specs.FormulaPromises.{Translates, translate_answer, lent_formula, RoomToTranslate, translated_by}
use Rattle.formulas.proofs.Built.{range-says}

refuses : (P : Problem) (f : Formula) (ks ts : List ℤ) {x : Verdict} (e : Refusal) → x ≡ refusal e
    → Translates (translated_to P f ks ts x) (translate_answer (Err e)) ks ts
refuses P f ks ts e d = rw d (record { number = refl; place = refl; d = refl; kept = refl; translated = refl })

-- ---- 1 to 6
module _ {m n : ℕ} {matrix moduli es : List ℤ} {c : Result Checked Refusal} (cs ks ts : List ℤ)
    (t : TellsTo6 m n matrix moduli (length cs) es (leb room_coefficients (length ks) && leb room_exponents (length ts)) c) where
  abbrev P : Problem
  P = given m n matrix moduli

  abbrev f : Formula
  f = lent_formula cs es

  abbrev last3 : List Check
  last3 = range_check (run P) ∷ terms_check P (run P) f ∷ []

  translate_is : {x : Verdict} → verdict (to6 m n matrix moduli (length cs) es (leb room_coefficients (length ks) && leb room_exponents (length ts)) ++ last3) ≡ x
      → translate_of P f ks ts ≡ translated_to P f ks ts x
  unfolding translate_of translate_verdict
  translate_is e = ap (translated_to P f ks ts) e

  pub translate_refused : {e : Refusal} → c ≡ Err e → Translates (translate_of P f ks ts) (translate_answer (Err e)) ks ts
  translate_refused {e} d = rw (translate_is refl) (refuses P f ks ts e (formula-refused t d last3))

  module _ {p : Checked} (d : c ≡ Ok p) where
    same : problem_of p ≡ P
    same = IfOk-at_ok (λ p. problem_of p ≡ P) d t.same

    pub room : RoomToTranslate ks ts
    room =
        let b = and_both (leb room_coefficients (length ks)) (leb room_exponents (length ts)) (formula-passed t d).room in
        record { kept = leb-true room_coefficients (length ks) b.0; translated = leb-true room_exponents (length ts) b.1 }

    pub well_formed : WellFormedFormula (problem_of p) f
    well_formed = subst (λ Q. WellFormedFormula Q f) (sym same) (formula-accepted P f (formula-passed t d).also (exponents-passed t d))

    -- ---- 7
    module _ {h v w : List ℤ} {r : Result Built Refusal} {h₁ v₁ w₁ : List ℤ} (K : Called (given m n matrix moduli) h v w r h₁ v₁ w₁) where
      pub translate_refused_at_7 : {e : Refusal} → r ≡ Err e → Translates (translate_of P f ks ts) (translate_answer (Err e)) ks ts
      translate_refused_at_7 {e} z = rw (translate_is refl) (refuses P f ks ts e (past_6 t d last3
          ∙ stays (range_check (run P) ∷ []) (terms_check P (run P) f ∷ []) (number_of e) (place_of e) (sym (range-says t d K) ∙ ap told z)))

      pub translate_passed : {b : Built} → r ≡ Ok b → {a : TranslateAnswer} {ks₁ ts₁ : List ℤ}
          → Translates (translated_by (problem_of p) f ks ts) a ks₁ ts₁ → Translates (translate_of P f ks ts) a ks₁ ts₁
      translate_passed z {a} {ks₁} {ts₁} T =
          rw (translate_is (past_6 t d last3 ∙ goes_on (range_check (run P) ∷ []) (terms_check P (run P) f ∷ []) (sym (range-says t d K) ∙ ap told z)))
          (subst (λ Q. Translates (translated_by Q f ks ts) a ks₁ ts₁) same T)
