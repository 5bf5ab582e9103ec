-- R11.2: a promise allows one result. Of each call: two answers with what they leave in the lent buffers, both as the
-- call's `ensures` says of one input, are the same answer with the same contents.
use mathlib.Core.Path.{◌≡◌, refl, sym, ◌∙◌, ap}
use mathlib.Core.Bool.{Bool}
use mathlib.Core.List.{List}
use Prim.Native.Nat.{ℕ, ◌<◌}
use native.Mathlib.Decide.{dec_lt}
use native.Mathlib.Omega.{arith}
use lib.ListN.{get_or}
use lib.Seq.{ext_get_or}
use lib.IntN.{ℤ}
use Rattle.std.proofs.Common.{Result, Ok, Err, IfOk}
use Rattle.rules.specs.Problem.{Problem}
use Rattle.rules.specs.Calls.{Verdict, refused, Built, Weighed, Translated}
use Rattle.checks.specs.declared.Refusal.{Refusal}
use Rattle.checks.specs.declared.lent.Checked.{Checked}
use Rattle.checks.specs.declared.lent.ModulusRows.{ModulusRows}
use Rattle.checks.specs.Moduli.{ListsFirst8}
use Rattle.checks.specs.Refusals.{number_of, place_of, told}
use Rattle.checks.specs.Checks.{problem_of, TellsTo5, TellsTo6}
use Rattle.checks.proofs.Refusals.{one_refusal, taken-refused, refusal_not-0}
use Rattle.scaling.specs.declared.BuildAnswer.{BuildAnswer}
use Rattle.scaling.specs.declared.Built as declared
use Rattle.scaling.specs.Answers.{answer_of}
use Rattle.formulas.specs.declared.WeighAnswer.{WeighAnswer}
use Rattle.formulas.specs.declared.TranslateAnswer.{TranslateAnswer}
use Rattle.scaling.specs.BuildPromise.{Builds}
use Rattle.formulas.specs.FormulaPromises.{Weighs, weigh_answer, Translates, translate_answer}
use Rattle.frames.specs.Output.{Shows}
use Rattle.demands.proofs.Program.{Text}

-- ---- answers with the same fields
same_build : {r r' : BuildAnswer} → r.number ≡ r'.number → r.place ≡ r'.place → r.rank ≡ r'.rank → r.moduli ≡ r'.moduli → r.steps ≡ r'.steps
    → r ≡ r'
same_build a b c d e = λ i. record { number = a i; place = b i; rank = c i; moduli = d i; steps = e i }

same_weigh : {r r' : WeighAnswer} → r.number ≡ r'.number → r.place ≡ r'.place → r ≡ r'
same_weigh a b = λ i. record { number = a i; place = b i }

same_translate : {r r' : TranslateAnswer} → r.number ≡ r'.number → r.place ≡ r'.place → r.d ≡ r'.d → r ≡ r'
same_translate a b c = λ i. record { number = a i; place = b i; d = c i }

same_text : {r r' : Text} → r.items ≡ r'.items → r ≡ r'
same_text a = λ i. record { items = a i }

-- both are what is promised
both-are {ℓ} : {A : Type ℓ} {x y z : A} → x ≡ z → y ≡ z → x ≡ y
both-are e f = e ∙ sym f

-- ---- the checks
pub one_listing : {moduli : List ℤ} {q q' : ModulusRows} → ListsFirst8 moduli q → ListsFirst8 moduli q' → q ≡ q'
one_listing {moduli} {q} {q'} B D = λ i. record { rows = rows_same i; s = both-are B.count D.count i }
  where
    at : (c : ℕ) → Dec (c < q.s) → get_or q.rows c 0 ≡ get_or q'.rows c 0
    at c (yes h) = both-are (B.rows c h) (D.rows c (omega (arith, B.count, D.count)))
    at c (no h) = both-are (B.rest c (omega arith)) (D.rest c (omega (arith, B.count, D.count)))

    rows_same : q.rows ≡ q'.rows
    rows_same = ext_get_or 0 q.rows q'.rows (both-are B.long D.long) (λ c _. at c (dec_lt c q.s))

-- what is seen of a check's answer: the refusal, or the problem with its rows that have a modulus
abbrev pub seen : Result Checked Refusal → Result (Problem × ModulusRows) Refusal
seen (Err e) = Err e
seen (Ok p) = Ok (problem_of p, p.rows)

one_seen : (P : Problem) {v : Verdict} (r r' : Result Checked Refusal) → told r ≡ v → told r' ≡ v → IfOk r (λ p. problem_of p ≡ P) → IfOk r' (λ p. problem_of p ≡ P) → seen r ≡ seen r'
one_seen P (Err e) (Err e') a b x y = ap Err (one_refusal (a ∙ sym b))
one_seen P (Err e) (Ok p) a b x y = absurd (taken-refused (b ∙ sym a))
one_seen P (Ok p) (Err e) a b x y = absurd (taken-refused (a ∙ sym b))
one_seen P (Ok p) (Ok p') a b x y =
    let same : problem_of p ≡ problem_of p' = x ∙ sym y in
    let rows : p.rows ≡ p'.rows = one_listing p.rows_told (rw (ap (λ (Q : Problem). Q.moduli) same) p'.rows_told) in
    λ i. Ok (same i, rows i)

pub one_problem : {m n : ℕ} {matrix moduli : List ℤ} {more outputs : Bool} {r r' : Result Checked Refusal} → TellsTo5 m n matrix moduli more outputs r
    → TellsTo5 m n matrix moduli more outputs r' → seen r ≡ seen r'
one_problem {r = r} {r' = r'} B D = one_seen _ r r' B.says D.says B.same D.same

pub one_formula : {m n : ℕ} {matrix moduli : List ℤ} {terms : ℕ} {es : List ℤ} {outputs : Bool} {r r' : Result Checked Refusal}
    → TellsTo6 m n matrix moduli terms es outputs r → TellsTo6 m n matrix moduli terms es outputs r' → seen r ≡ seen r'
one_formula {r = r} {r' = r'} B D = one_seen _ r r' B.says D.says B.same D.same

-- ---- the calls, on numbers (A is ℤ) and on bytes (A is ℕ)
pub one_build : {A : Type 0} {b : Built A} {r r' : BuildAnswer} {h v w h' v' w' : List A} → Builds b r h v w → Builds b r' h' v' w'
    → (r ≡ r') × (h ≡ h') × (v ≡ v') × (w ≡ w')
one_build B D = (
  same_build (both-are B.number D.number) (both-are B.place D.place) (both-are B.rank D.rank)
      (both-are B.moduli D.moduli) (both-are B.steps D.steps),
  both-are B.h D.h,
  both-are B.v D.v,
  both-are B.w D.w,
)

pub one_weigh : {b : Weighed} {r r' : WeighAnswer} {out out' : List ℤ} → Weighs b r out → Weighs b r' out' → (r ≡ r') × (out ≡ out')
one_weigh B D = (same_weigh (both-are B.number D.number) (both-are B.place D.place), both-are B.weights D.weights)

pub one_translate : {A : Type 0} {b : Translated A} {r r' : TranslateAnswer} {kept out kept' out' : List A} → Translates b r kept out
    → Translates b r' kept' out'
    → (r ≡ r') × (kept ≡ kept') × (out ≡ out')
one_translate B D = (
  same_translate (both-are B.number D.number) (both-are B.place D.place) (both-are B.d D.d),
  both-are B.kept D.kept,
  both-are B.translated D.translated,
)

-- ---- the library's own results, of which those answers are made: two with one answer are one
same_numbers : {e e' : Refusal} → number_of e ≡ number_of e' → place_of e ≡ place_of e' → e ≡ e'
same_numbers a b = one_refusal (λ i. refused (a i) (b i))

pub one_built : (r r' : Result declared.Built Refusal) → answer_of r ≡ answer_of r' → r ≡ r'
one_built (Ok b) (Ok b') h = λ i. Ok (record { rank = (h i).rank; moduli = (h i).moduli; steps = (h i).steps })
one_built (Ok b) (Err e) h = absurd (refusal_not-0 e (sym (ap (λ (x : BuildAnswer). x.number) h)))
one_built (Err e) (Ok b) h = absurd (refusal_not-0 e (ap (λ (x : BuildAnswer). x.number) h))
one_built (Err e) (Err e') h = ap Err (same_numbers (ap (λ (x : BuildAnswer). x.number) h) (ap (λ (x : BuildAnswer). x.place) h))

pub one_weighing : (r r' : Result (Unit {0}) Refusal) → weigh_answer r ≡ weigh_answer r' → r ≡ r'
one_weighing (Ok b) (Ok b') h = refl
one_weighing (Ok b) (Err e) h = absurd (refusal_not-0 e (sym (ap (λ (x : WeighAnswer). x.number) h)))
one_weighing (Err e) (Ok b) h = absurd (refusal_not-0 e (ap (λ (x : WeighAnswer). x.number) h))
one_weighing (Err e) (Err e') h = ap Err (same_numbers (ap (λ (x : WeighAnswer). x.number) h) (ap (λ (x : WeighAnswer). x.place) h))

pub one_translation : (r r' : Result ℕ Refusal) → translate_answer r ≡ translate_answer r' → r ≡ r'
one_translation (Ok d) (Ok d') h = ap (λ (x : TranslateAnswer). Ok x.d) h
one_translation (Ok d) (Err e) h = absurd (refusal_not-0 e (sym (ap (λ (x : TranslateAnswer). x.number) h)))
one_translation (Err e) (Ok d) h = absurd (refusal_not-0 e (ap (λ (x : TranslateAnswer). x.number) h))
one_translation (Err e) (Err e') h = ap Err (same_numbers (ap (λ (x : TranslateAnswer). x.number) h) (ap (λ (x : TranslateAnswer). x.place) h))

-- ---- the program: frames::answer
pub one_answer : {text : List ℕ} {r r' : Text} → Shows r text → Shows r' text → r ≡ r'
one_answer B D = same_text (both-are B.items_are D.items_are)
