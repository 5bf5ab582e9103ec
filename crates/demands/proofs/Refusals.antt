-- Demand 1: each call has one answer, whatever it is given. What is at fault is told by a number and a place, in the order of section 3 of the rules,
-- and a refused call leaves every lent buffer alone.
--
-- That every call ends is what the prover shows of each function before it counts as proved: every loop and every call of itself has a number that
-- falls. None of the calls has a `requires`, so their promises hold on every input, and what stands here follows from a promise alone, for all m, n,
-- lengths and numbers. `promise` below is what the call's `ensures` says, P the problem and f the formula as they were given, whatever they are; h, v, w
-- are the lent outputs before the call and h₁, v₁, w₁ after it. (Inputs are lent for reading only.)
-- Order says what it means that a list of checks is decided by a number and a place, and Table what each check asks.
use mathlib.Core.Path.{◌≡◌, refl}
use mathlib.Core.Logic.{◌≢◌, ◌↔◌, ◌⊎◌, inl, inr}
use mathlib.Core.Bool.{◌&&◌}
use mathlib.Core.List.{List}
use Prim.Native.Nat.{ℕ}
use lib.Dec.{leb, eqb}
use lib.ListN.{length}
use lib.IntN.{ℤ}
use Rattle.rules.specs.Limits.{room_h, room_v, room_w, room_weights, room_coefficients, room_exponents}
use Rattle.rules.specs.Problem.{Problem}
use Rattle.rules.specs.Formulas.{Formula}
use Rattle.rules.specs.Calls.{Check, Verdict, taken, refused, verdict, build_verdict, weigh_verdict, translate_verdict, problem_fits, formula_fits}
use Rattle.rules.specs.Calls.{build_of, built, weigh_of, weighed, translate_of, translated_to}
use Rattle.theory.proofs.Accepted.{AllPass}
use Rattle.scaling.specs.declared.BuildAnswer.{BuildAnswer}
use Rattle.formulas.specs.declared.WeighAnswer.{WeighAnswer}
use Rattle.formulas.specs.declared.TranslateAnswer.{TranslateAnswer}
use Rattle.scaling.specs.BuildPromise.{Builds}
use Rattle.formulas.specs.FormulaPromises.{Weighs, Translates}
use Rattle.demands.proofs.Order.{DecidedBy, taken_exactly, refused_exactly, not-taken-and-refused, one_refusal}
use Rattle.demands.proofs.Order.{build_checks, build_not_0, weigh_checks, weigh_not_0, translate_checks, translate_not_0}

-- ---- what demand 1 says of a call, its checks and how it refuses
pub record Ordered (checks : List Check) (number place : ℕ) (Refused : Type 0) : Type 0 where
  -- every input has an answer: accepted, with the number 0, or refused
  pub answered : (AllPass checks × (number ≡ 0) × (place ≡ 0)) ⊎ Refused
  -- the number is 0 exactly when no check finds a fault
  pub accepts_exactly : (number ≡ 0) ↔ AllPass checks
  -- with any other number the call is refused, in the sense of the records below
  pub refuses : number ≢ 0 → Refused
  -- the first check that finds a fault gives its number and place
  pub by_the_first : (k p : ℕ) → DecidedBy checks k p → (number ≡ k) × (place ≡ p)

module _ (checks : List Check) (number place : ℕ) (Refused : Type 0) (decides : Refused → DecidedBy checks number place)
    (not-0 : (k p : ℕ) → DecidedBy checks k p → k ≢ 0) where
  abbrev Answer : Type 0
  Answer = (AllPass checks × (number ≡ 0) × (place ≡ 0)) ⊎ Refused

  pub ordered : (AllPass checks × (number ≡ 0) × (place ≡ 0)) ⊎ Refused → Ordered checks number place Refused
  ordered answer = record {
    answered = answer;
    accepts_exactly = (λ e. all e answer, λ a. zero_of a answer);
    refuses = λ d. refusal d answer;
    by_the_first = λ k p D. first k p D answer;
  }
    where
      all : number ≡ 0 → Answer → AllPass checks
      all e (inl a) = a.0
      all e (inr R) = absurd (not-0 number place (decides R) e)

      zero_of : AllPass checks → Answer → number ≡ 0
      zero_of a (inl b) = b.1
      zero_of a (inr R) = absurd (not-taken-and-refused checks a (record { number = number; place = place; decided = decides R }))

      refusal : number ≢ 0 → Answer → Refused
      refusal d (inl a) = absurd (d a.1)
      refusal d (inr R) = R

      first : (k p : ℕ) → DecidedBy checks k p → Answer → (number ≡ k) × (place ≡ p)
      first k p D (inl a) = absurd (not-taken-and-refused checks a.0 (record { number = k; place = p; decided = D }))
      first k p D (inr R) = one_refusal checks number place k p (decides R) D

-- ---- build
-- its checks, with the lengths of what was lent
abbrev pub checks_of_build : Problem → (h v w : List ℤ) → List Check
checks_of_build P h v w = build_checks P (problem_fits P) (leb room_h (length h) && leb room_v (length v) && leb room_w (length w))

-- R3.5
pub record BuildRefused {A : Type 0} (checks : List Check) (h v w : List A) (r : BuildAnswer) (h₁ v₁ w₁ : List A) : Type 0 where
  pub decided : DecidedBy checks r.number r.place
  pub rank : r.rank ≡ 0
  pub moduli : r.moduli ≡ 0
  pub steps : r.steps ≡ 0
  pub h-held : h₁ ≡ h
  pub v-held : v₁ ≡ v
  pub w_held : w₁ ≡ w

module _ (P : Problem) (h v w : List ℤ) (r : BuildAnswer) (h₁ v₁ w₁ : List ℤ) where
  pub build_ordered : Builds (build_of P h v w) r h₁ v₁ w₁
      → Ordered (checks_of_build P h v w) r.number r.place (BuildRefused (checks_of_build P h v w) h v w r h₁ v₁ w₁)
  unfolding build_of build_verdict
  build_ordered promise =
      ordered checks r.number r.place (BuildRefused checks h v w r h₁ v₁ w₁) (λ R. R.decided)
      (build_not_0 P (problem_fits P) (leb room_h (length h) && leb room_v (length v) && leb room_w (length w))) (go (verdict checks) refl promise)
    where
      checks : List Check
      checks = checks_of_build P h v w

      go : (x : Verdict) → verdict checks ≡ x → Builds (built P h v w x) r h₁ v₁ w₁
          → (AllPass checks × (r.number ≡ 0) × (r.place ≡ 0)) ⊎ BuildRefused checks h v w r h₁ v₁ w₁
      go taken e B = inl ((taken_exactly checks).0 e, B.number, B.place)
      go (refused number place) e B = inr (record {
        decided = (refused_exactly checks r.number r.place).0 (rw (B.number, B.place) e);
        rank = B.rank;
        moduli = B.moduli;
        steps = B.steps;
        h-held = B.h;
        v-held = B.v;
        w_held = B.w;
      })

-- ---- weigh
abbrev pub checks_of_weigh : Problem → (exponents weights : List ℤ) → List Check
checks_of_weigh P es weights = weigh_checks P es (problem_fits P && eqb (length es) P.n) (leb room_weights (length weights))

pub record WeighRefused {A : Type 0} (checks : List Check) (weights : List A) (r : WeighAnswer) (weights₁ : List A) : Type 0 where
  pub decided : DecidedBy checks r.number r.place
  pub weights-held : weights₁ ≡ weights

module _ (P : Problem) (exponents weights : List ℤ) (r : WeighAnswer) (weights₁ : List ℤ) where
  pub weigh_ordered : Weighs (weigh_of P exponents weights) r weights₁
      → Ordered (checks_of_weigh P exponents weights) r.number r.place (WeighRefused (checks_of_weigh P exponents weights) weights r weights₁)
  unfolding weigh_of weigh_verdict
  weigh_ordered promise =
      ordered checks r.number r.place (WeighRefused checks weights r weights₁) (λ R. R.decided)
      (weigh_not_0 P exponents (problem_fits P && eqb (length exponents) P.n) (leb room_weights (length weights))) (go (verdict checks) refl promise)
    where
      checks : List Check
      checks = checks_of_weigh P exponents weights

      go : (x : Verdict) → verdict checks ≡ x → Weighs (weighed P exponents weights x) r weights₁
          → (AllPass checks × (r.number ≡ 0) × (r.place ≡ 0)) ⊎ WeighRefused checks weights r weights₁
      go taken e B = inl ((taken_exactly checks).0 e, B.number, B.place)
      go (refused number place) e B = inr (record {
        decided = (refused_exactly checks r.number r.place).0 (rw (B.number, B.place) e);
        weights-held = B.weights;
      })

-- ---- translate
abbrev pub checks_of_translate : Problem → Formula → (kept translated : List ℤ) → List Check
checks_of_translate P f kept translated =
    translate_checks P f (problem_fits P && formula_fits P f) (leb room_coefficients (length kept) && leb room_exponents (length translated))

pub record TranslateRefused {A : Type 0} (checks : List Check) (kept translated : List A) (r : TranslateAnswer) (kept₁ translated₁ : List A) : Type 0 where
  pub decided : DecidedBy checks r.number r.place
  pub d : r.d ≡ 0
  pub kept-held : kept₁ ≡ kept
  pub translated-held : translated₁ ≡ translated

module _ (P : Problem) (f : Formula) (kept translated : List ℤ) (r : TranslateAnswer) (kept₁ translated₁ : List ℤ) where
  pub translate_ordered : Translates (translate_of P f kept translated) r kept₁ translated₁
      → Ordered (checks_of_translate P f kept translated) r.number r.place (TranslateRefused (checks_of_translate P f kept translated) kept translated r kept₁ translated₁)
  unfolding translate_of translate_verdict
  translate_ordered promise =
      ordered checks r.number r.place (TranslateRefused checks kept translated r kept₁ translated₁) (λ R. R.decided)
      (translate_not_0 P f (problem_fits P && formula_fits P f) (leb room_coefficients (length kept) && leb room_exponents (length translated))) (go (verdict checks) refl promise)
    where
      checks : List Check
      checks = checks_of_translate P f kept translated

      go : (x : Verdict) → verdict checks ≡ x → Translates (translated_to P f kept translated x) r kept₁ translated₁
          → (AllPass checks × (r.number ≡ 0) × (r.place ≡ 0)) ⊎ TranslateRefused checks kept translated r kept₁ translated₁
      go taken e B = inl ((taken_exactly checks).0 e, B.number, B.place)
      go (refused number place) e B = inr (record {
        decided = (refused_exactly checks r.number r.place).0 (rw (B.number, B.place) e);
        d = B.d;
        kept-held = B.kept;
        translated-held = B.translated;
      })
