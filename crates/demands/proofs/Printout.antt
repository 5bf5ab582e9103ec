-- What the program printed tells its answer: from the lines alone one reads whether the input was taken or refused, by which number and where, and the
-- refusals come exactly when Program says.
--
-- `promise` is what the `ensures` of frames::answer says; `shown r` is what it printed and lines_of (shown r) its lines, OneRefusal and SolutionLines (of
-- ReadBack) what they say; lines_of input are the lines of the input.
use mathlib.Core.Path.{◌≡◌, refl, sym, ◌∙◌, ap, subst}
use mathlib.Core.Logic.{◌↔◌, ◌⊎◌, inl, inr}
use mathlib.Core.Bool.{true}
use mathlib.Core.List.{List}
use Prim.Native.Nat.{ℕ, ◌+◌, ◌≤◌, ◌<◌}
use native.Mathlib.Omega.{arith}
use native.Mathlib.Decide.{dec_lt}
use lib.ListN.{length, drop, replicate, length-replicate}
use lib.IntN.{ℤ, pos}
use Rattle.rules.specs.Problem.{Problem}
use Rattle.rules.specs.Formulas.{Formula, WellFormedFormula, terms, term}
use Rattle.rules.specs.Calls.{Verdict, taken, refused}
use Rattle.rules.specs.Frames.{TextLine, lines_of, frame_of, term_coefficient, program, printed, answered}
use Rattle.theory.proofs.Accepted.{AllPass}
use Rattle.formulas.specs.FormulaPromises.{RoomToTranslate}
use Rattle.frames.specs.Output.{Shows}
use Rattle.demands.proofs.Order.{DecidedBy, translate_not_0}
use Rattle.demands.proofs.Refusals.{Ordered, ordered}
use Rattle.demands.proofs.Bytes.{AllFit, long-fits}
use Rattle.demands.proofs.NormalForms.{Accepted}
use Rattle.demands.proofs.Formulas.{Translatable, all_pass_exactly}
use Rattle.demands.proofs.InputLines.{line_at, m_said, GoodLine, BadLine, missing, not_of_form, good-not-bad, FirstBadLine, SizesRefused, WellFormedInput, problem_said, formula_said, bad-not-good, sizes-not-good}
use Rattle.demands.proofs.InputSays.{coefficient_said}
use Rattle.demands.proofs.Program.{Text, shown, checks_of_program, Answers, refused_10, refused_1, refused_by_check, accepted, checks_of_translate_lem, program-answered, refusal_limited}
use Rattle.demands.proofs.ReadBack.{OneRefusal, refusal-read-back, one_refusal-read, SolutionLines, solution_read-back}

-- ---- which good inputs are taken
-- the problem is accepted, the exponents are within their limits, and each term is free of dimension and translated within M
pub record Taken (P : Problem) (f : Formula) : Type 0 where
  pub problem : Accepted P
  pub formula : WellFormedFormula P f
  pub its_terms : (t : ℕ) → t < terms f → Translatable P (term P f t)

-- outputs with room enough, as the program lends them to `translate`
lent : (count : ℕ) → List ℤ
lent count = replicate count (pos 0)

room : RoomToTranslate (lent 64) (lent 1024)
unfolding lent
room = record { kept = omega (arith, length-replicate 64 (pos 0)); translated = omega (arith, length-replicate 1024 (pos 0)) }

module _ (ls : List TextLine) (F : WellFormedInput ls) where
  pub taken_if : AllPass (checks_of_program ls) ↔ Taken (problem_said ls) (formula_said ls)
  taken_if =
      let e = checks_of_translate_lem ls F (lent 64) (lent 1024) room in
      let x = all_pass_exactly (problem_said ls) (formula_said ls) (lent 64) (lent 1024) in (
        λ a. let y = x.0 (subst AllPass (sym e) a) in record { problem = y.0.accepted; formula = y.0.formula; its_terms = y.1 },
        λ T. subst AllPass e (x.1 (record { accepted = T.problem; formula = T.formula; room = room }, T.its_terms)),
      )

  -- a coefficient has 32 bits
  coefficients-fit : AllFit (formula_said ls).coefficients
  unfolding term_coefficient
  coefficients-fit t h = rw (coefficient_said ls F t h) (long-fits (drop 1 (frame_of (line_at ls (1 + m_said ls + t)))))

-- ---- no lines say two things (ReadBack.one_refusal-read)
refusal-not_solution : {k p : ℕ} {P : Problem} {f : Formula} {out : List TextLine} → OneRefusal k p out → SolutionLines P f out → ⊥
refusal-not_solution R Q = let e : ◌≡◌ {A = ℕ} 0xff 0x81 = sym R.line.framed.kind ∙ Q.sizes.framed.kind in omega arith

-- ---- the number and the place that printed lines tell, with the number 0 for an input that is taken, as the calls have it
pub data Tells (P : Problem) (f : Formula) (out : List TextLine) : (number place : ℕ) → Type 0 where
  a_refusal : {number place : ℕ} → OneRefusal number place out → Tells P f out number place
  a_solution : SolutionLines P f out → Tells P f out 0 0

-- no lines tell two answers
pub one_told : {P : Problem} {f : Formula} {out : List TextLine} {k p k' p' : ℕ} → Tells P f out k p → Tells P f out k' p' → (k ≡ k') × (p ≡ p')
one_told (a_refusal R) (a_refusal Q) = one_refusal-read R Q
one_told (a_refusal R) (a_solution Q) = absurd (refusal-not_solution R Q)
one_told (a_solution Q) (a_refusal R) = absurd (refusal-not_solution R Q)
one_told (a_solution Q) (a_solution _) = (refl, refl)

pub record Told (P : Problem) (f : Formula) (out : List TextLine) : Type 0 where
  pub number : ℕ
  pub place : ℕ
  pub tells : Tells P f out number place

module _ (input : List ℕ) (r : Text) (promise : Shows r (program input)) where
  abbrev ls : List TextLine
  ls = lines_of input

  abbrev out : List TextLine
  out = lines_of (shown r)

  text_is : (v : Verdict) → Answers ls v → shown r ≡ answered (problem_said ls) (formula_said ls) v
  text_is v A =
      let x = program-answered input r promise in
      x.text ∙ ap (answered (problem_said ls) (formula_said ls)) (sym (x.only v A))

  -- ---- the lines by the answer
  pub refusal-printed : (number place : ℕ) → Answers (lines_of input) (refused number place) → OneRefusal number place (lines_of (shown r))
  refusal-printed number place A =
      let L = refusal_limited A in
      rw (text_is (refused number place) A) (refusal-read-back number place L.one_byte L.two_bytes)

  pub solution_printed : Answers (lines_of input) taken → SolutionLines (problem_said (lines_of input)) (formula_said (lines_of input)) (lines_of (shown r))
  solution_printed A = rw (text_is taken A) (go A)
    where
      go : Answers ls taken → SolutionLines (problem_said ls) (formula_said ls) (lines_of (printed (problem_said ls) (formula_said ls)))
      go (accepted F a) =
          let T = (taken_if ls F).0 a in
          solution_read-back (problem_said ls) T.problem (formula_said ls) (coefficients-fit ls F) T.its_terms

  -- every output tells an answer
  pub always_told : Told (problem_said (lines_of input)) (formula_said (lines_of input)) (lines_of (shown r))
  always_told = go (program-answered input r promise).verdict (program-answered input r promise).given
    where
      go : (v : Verdict) → Answers ls v → Told (problem_said ls) (formula_said ls) out
      go (refused k p) A = record { number = k; place = p; tells = a_refusal (refusal-printed k p A) }
      go taken A = record { number = 0; place = 0; tells = a_solution (solution_printed A) }

  -- ---- and the answer by the lines
  pub refusal_exactly : (number place : ℕ) → OneRefusal number place (lines_of (shown r)) ↔ Answers (lines_of input) (refused number place)
  refusal_exactly number place = (λ R. go R (program-answered input r promise).verdict (program-answered input r promise).given, refusal-printed number place)
    where
      go : OneRefusal number place out → (v : Verdict) → Answers ls v → Answers ls (refused number place)
      go R (refused k p) A =
          let e = one_refusal-read R (refusal-printed k p A) in
          rw (e.0, e.1) A
      go R taken A = absurd (refusal-not_solution R (solution_printed A))

  -- 10: the first line that is bad or missing, and that line's number
  pub bad-line_exactly : (p : ℕ) → OneRefusal 10 p (lines_of (shown r)) ↔ FirstBadLine (lines_of input) p
  bad-line_exactly p = (λ R. go ((refusal_exactly 10 p).0 R), λ B. refusal-printed 10 p (refused_10 p B))
    where
      go : Answers ls (refused 10 p) → FirstBadLine ls p
      go (refused_10 q B) = B
      go (refused_by_check F k q D a b) = absurd (omega arith)

  -- .. so at place 0 exactly when line 0 is missing or not of its form
  pub first_line_exactly : OneRefusal 10 0 (lines_of (shown r)) ↔ (¬ GoodLine (lines_of input) 0)
  first_line_exactly = (
    λ R G. good-not-bad G ((bad-line_exactly 0).0 R).bad,
    λ d. (bad-line_exactly 0).1 (record { before = λ q h. absurd (omega arith); sizes = λ h. absurd (omega arith); bad = go d (dec_lt 0 (length ls)) }),
  )
    where
      go : ¬ GoodLine ls 0 → Dec (0 < length ls) → BadLine ls 0
      go d (yes h) = not_of_form h (λ F. d (h, F))
      go d (no h) = missing (omega arith) (omega arith)

  -- 1: the sizes are judged after line 0, whatever comes after it
  pub bad-sizes_exactly : (p : ℕ) → OneRefusal 1 p (lines_of (shown r)) ↔ (SizesRefused (lines_of input) × (p ≡ 0))
  bad-sizes_exactly p = (λ R. go ((refusal_exactly 1 p).0 R), λ S. rw S.1 (refusal-printed 1 0 (refused_1 S.0)))
    where
      go : {q : ℕ} → Answers ls (refused 1 q) → SizesRefused ls × (q ≡ 0)
      go (refused_1 S) = (S, refl)
      go (refused_by_check F k q D a b) = absurd (omega arith)

  -- 4 to 9: every line is of its form, and of the checks of the problem and the formula that they say the first that finds a fault decides
  pub check_exactly : (number place : ℕ) → 4 ≤ number → number ≤ 9
      → OneRefusal number place (lines_of (shown r)) ↔ (WellFormedInput (lines_of input) × DecidedBy (checks_of_program (lines_of input)) number place)
  check_exactly number place h k = (
    λ R. go h k ((refusal_exactly number place).0 R),
    λ x. refusal-printed number place (refused_by_check x.0 number place x.1 h k),
  )
    where
      go : {number place : ℕ} → 4 ≤ number → number ≤ 9 → Answers ls (refused number place) → WellFormedInput ls × DecidedBy (checks_of_program ls) number place
      go h k (refused_10 p B) = absurd (omega arith)
      go h k (refused_1 S) = absurd (omega arith)
      go h k (refused_by_check F number place D a b) = (F, D)

  -- no refusal has any other number: 0 is none, and 2 and 3 never come
  pub number-printed : (number place : ℕ) → OneRefusal number place (lines_of (shown r)) → (number ≡ 1) ⊎ ((4 ≤ number) × (number ≤ 10))
  number-printed number place R = go ((refusal_exactly number place).0 R)
    where
      go : {number place : ℕ} → Answers ls (refused number place) → (number ≡ 1) ⊎ ((4 ≤ number) × (number ≤ 10))
      go (refused_10 p B) = inr (omega arith, omega arith)
      go (refused_1 S) = inl refl
      go (refused_by_check F number place D a b) = inr (a, omega arith)

  -- taken: the problem and the formula that the lines say
  pub solution_exactly : SolutionLines (problem_said (lines_of input)) (formula_said (lines_of input)) (lines_of (shown r))
      ↔ (WellFormedInput (lines_of input) × Taken (problem_said (lines_of input)) (formula_said (lines_of input)))
  solution_exactly = (
    λ Q. go Q (program-answered input r promise).given,
    λ x. solution_printed (accepted x.0 ((taken_if ls x.0).1 x.1)),
  )
    where
      go : SolutionLines (problem_said ls) (formula_said ls) out → {v : Verdict} → Answers ls v
          → WellFormedInput ls × Taken (problem_said ls) (formula_said ls)
      go Q (refused_10 p B) = absurd (refusal-not_solution (refusal-printed 10 p (refused_10 p B)) Q)
      go Q (refused_1 S) = absurd (refusal-not_solution (refusal-printed 1 0 (refused_1 S)) Q)
      go Q (refused_by_check F k p D a b) = absurd (refusal-not_solution (refusal-printed k p (refused_by_check F k p D a b)) Q)
      go Q (accepted F a) = (F, (taken_if ls F).0 a)

  -- ---- what demand 1 says of a call, of the program where every line is of its form: whatever its lines tell is by those checks, in their order
  pub program-ordered : WellFormedInput (lines_of input) → (number place : ℕ)
      → Tells (problem_said (lines_of input)) (formula_said (lines_of input)) (lines_of (shown r)) number place
      → Ordered (checks_of_program (lines_of input)) number place (OneRefusal number place (lines_of (shown r)))
  program-ordered F number place told =
      ordered (checks_of_program ls) number place (OneRefusal number place out) (λ R. decides ((refusal_exactly number place).0 R))
      (translate_not_0 (problem_said ls) (formula_said ls) true true) (answer told)
    where
      decides : {number place : ℕ} → Answers ls (refused number place) → DecidedBy (checks_of_program ls) number place
      decides (refused_10 p B) = absurd (bad-not-good B F)
      decides (refused_1 S) = absurd (sizes-not-good S F)
      decides (refused_by_check _ number place D a b) = D

      answer : {number place : ℕ} → Tells (problem_said ls) (formula_said ls) out number place
          → (AllPass (checks_of_program ls) × (number ≡ 0) × (place ≡ 0)) ⊎ OneRefusal number place out
      answer (a_refusal R) = inr R
      answer (a_solution Q) = inl ((taken_if ls F).1 (solution_exactly.0 Q).1, refl, refl)
