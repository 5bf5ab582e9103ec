-- What `weigh` and `translate` answer and leave in the lent outputs, held to what rules/specs/Calls says of them; and what is known between the
-- checks and the answer.
use Rattle.std.specs.Prelude.{◌≡◌, false, cond, List, [], ◌∷◌, ℕ, ◌+◌, ◌-◌, ◌*◌, ◌<◌, ◌≤◌, length, ℤ, Result, Ok, Err}
use Rattle.whole.specs.Lists.{nth}
use Rattle.rules.specs.Limits.{room_w, room_coefficients, room_exponents}
use Rattle.rules.specs.Problem.{Problem, N}
use Rattle.rules.specs.Stages.{run, W}
use Rattle.rules.specs.Formulas.{Formula, terms, term}
use Rattle.rules.specs.Calls.{Verdict, taken, refused, verdict, term_refused, term_number, terms_check, filled, translated_exponents}
use Rattle.rules.specs.Calls.{Weighed, Translated, translated_to, translate_of}
use Rattle.checks.specs.declared.Refusal.{Refusal}
use Rattle.checks.specs.Refusals.{number_of, place_of}
use Rattle.checks.specs.Checks.{given}
use Rattle.formulas.specs.declared.WeighAnswer.{WeighAnswer}
use Rattle.formulas.specs.declared.TranslateAnswer.{TranslateAnswer}

-- ---- weigh
pub record Weighs (b : Weighed) (r : WeighAnswer) (out₁ : List ℤ) : Type 0 where
  pub number : r.number ≡ b.answer.number
  pub place : r.place ≡ b.answer.place
  pub weights : out₁ ≡ b.weights

-- the plain numbers of a result
abbrev pub weigh_answer : Result (Unit {0}) Refusal → WeighAnswer
weigh_answer (Ok x) = record { number = 0; place = 0 }
weigh_answer (Err r) = record { number = number_of r; place = place_of r }

-- ---- translate
-- of numbers, or of bytes where the call lends bytes
pub record Translates {A : Type 0} (b : Translated A) (r : TranslateAnswer) (kept₁ translated₁ : List A) : Type 0 where
  pub number : r.number ≡ b.answer.number
  pub place : r.place ≡ b.answer.place
  pub d : r.d ≡ b.answer.d
  pub kept : kept₁ ≡ b.coefficients
  pub translated : translated₁ ≡ b.exponents

-- the plain numbers of a result
abbrev pub translate_answer : Result ℕ Refusal → TranslateAnswer
translate_answer (Ok d) = record { number = 0; place = 0; d = d }
translate_answer (Err r) = record { number = number_of r; place = place_of r; d = 0 }

-- the formula of two lent lists
abbrev pub lent_formula : (coefficients exponents : List ℤ) → Formula
lent_formula cs es = record { coefficients = cs; exponents = es }

-- what `translate` is to answer and to leave, of the lists that are lent to it
abbrev pub lent_translation : (m n : ℕ) (matrix moduli coefficients exponents kept translated : List ℤ) → Translated ℤ
lent_translation m n matrix moduli cs es ks ts = translate_of (given m n matrix moduli) (lent_formula cs es) ks ts

-- ---- what is known before a translation
-- the outputs are long enough
pub record RoomToTranslate (kept₀ translated₀ : List ℤ) : Type 0 where
  pub kept : room_coefficients ≤ length kept₀
  pub translated : room_exponents ≤ length translated₀

-- w and r are W and the rank of the problem's run
pub record Solved (P : Problem) (w : List ℤ) (r : ℕ) : Type 0 where
  pub rank : r ≡ (run P).rank
  pub upto : r ≤ N P
  pub groups : N P - r ≤ P.n
  pub length : length w ≡ room_w
  pub entries : (i c : ℕ) → i < N P → c < N P → nth w (i * N P + c) ≡ W (run P) i c

-- ---- checks 8 and 9
-- of the exponents v of term t
abbrev pub judged : Problem → (v : ℕ → ℤ) → (t : ℕ) → Verdict
judged P v t = cond (term_refused P (run P) v) (refused (term_number P v) t) taken

-- of all terms: the first that is refused decides
abbrev pub terms_verdict : Problem → Formula → Verdict
terms_verdict P f = verdict (terms_check P (run P) f ∷ [])

-- every term is taken
pub record AllTaken (P : Problem) (f : Formula) : Type 0 where
  pub each : (t : ℕ) → t < terms f → term_refused P (run P) (term P f t) ≡ false

-- ---- after checks 1 to 7
-- a lent output with the exponents of every term written into it
abbrev pub exponents_into : Problem → Formula → (translated : List ℤ) → List ℤ
exponents_into P f ts = filled (translated_exponents P f) ts

-- the answer and the outputs, as 8 and 9 decide
abbrev pub translated_by : Problem → Formula → (kept translated : List ℤ) → Translated ℤ
translated_by P f ks ts = translated_to P f ks ts (terms_verdict P f)
