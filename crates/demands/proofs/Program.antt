-- Demand 1 of the program: the order in which its input is judged (R9.6).
--
-- `promise` is what the `ensures` of frames::answer says, whatever the input's bytes are; `shown r` is the text that it printed. InputLines tells the
-- three kinds of input: a line is bad or missing, the sizes are out of range, or every line is of its form. In the third kind the problem and the
-- formula that the lines say are judged by the checks of `translate` in their order. Its number 2 cannot come, since the lengths fit
-- (InputSays.lengths-fit), nor can 3, since the program lends itself room enough, nor can 1 once more.
use mathlib.Core.Path.{◌≡◌, refl, ap, ap₂}
use mathlib.Core.Logic.{◌⊎◌, inl, inr}
use mathlib.Core.Bool.{true}
use mathlib.Core.List.{List}
use Prim.Native.Nat.{ℕ, zero, suc, ◌≤◌, ◌<◌}
use native.Mathlib.Nat.{mul-le-mul}
use native.Mathlib.Omega.{arith}
use lib.ListN.{length}
use lib.IntN.{ℤ}
use Rattle.rules.specs.Search.{none, found}
use Rattle.rules.specs.Problem.{Problem}
use Rattle.rules.specs.Stages.{run}
use Rattle.rules.specs.Formulas.{Formula}
use Rattle.rules.specs.Calls.{Check, Verdict, taken, refused, verdict, translate_verdict}
use Rattle.rules.specs.Calls.{sizes_check, moduli_check, entries_check, exponents_check, range_check, terms_check}
use Rattle.rules.specs.Frames.{TextLine, lines_of, Reading, answered, answer_to, program}
use Rattle.theory.proofs.Accepted.{AllPass}
use Rattle.formulas.specs.FormulaPromises.{RoomToTranslate}
use Rattle.arrayvec.specs.ArrayVec.{ArrayVec}
use Rattle.frames.specs.Output.{Shows}
use Rattle.demands.proofs.Order.{DecidedBy, EachFault, decider_has, one_refusal, not-taken-and-refused, taken_exactly, refused_exactly, translate_checks, term-number, term-decides_exactly}
use Rattle.demands.proofs.Limits.{translate_room_exactly}
use Rattle.demands.proofs.Table.{row_1, row_4, row_5, row_6, row_7, formula-lengths_exactly}
use Rattle.demands.proofs.Refusals.{checks_of_translate}
use Rattle.demands.proofs.InputLines.{FirstBadLine, SizesRefused, WellFormedInput, problem_said, formula_said, form_number}
use Rattle.demands.proofs.InputLines.{Read, line_refused, sizes-refused, all_read, one_first_bad, bad-not-sizes, bad-not-good, sizes-not-good}
use Rattle.demands.proofs.InputRead.{reading_is}
use Rattle.demands.proofs.InputSays.{lengths-fit}

-- ---- what was printed
-- the Text of `frames`, as a proof sees it
abbrev pub Text : Type 0
Text = ArrayVec ℕ

abbrev pub shown : Text → List ℕ
shown r = r.items

pub shown_is : {r : Text} {text : List ℕ} → Shows r text → shown r ≡ text
shown_is S = S.items_are

-- ---- the four answers
-- the checks that the problem and the formula of a good input meet, with the right lengths and room enough
abbrev pub checks_of_program : List TextLine → List Check
checks_of_program ls = translate_checks (problem_said ls) (formula_said ls) true true

pub data Answers (ls : List TextLine) : Verdict → Type 0 where
  -- 10 at the first line that is bad or missing
  refused_10 : (p : ℕ) → FirstBadLine ls p → Answers ls (refused 10 p)
  -- 1 right after the first line, whatever comes after it
  refused_1 : SizesRefused ls → Answers ls (refused 1 0)
  -- 4 to 9: the first check that finds a fault decides
  refused_by_check : WellFormedInput ls → (number place : ℕ) → DecidedBy (checks_of_program ls) number place → 4 ≤ number → number ≤ 9
      → Answers ls (refused number place)
  accepted : WellFormedInput ls → AllPass (checks_of_program ls) → Answers ls taken

-- ---- the checks are those of `translate` on the problem and the formula said, whatever outputs are lent with room enough
pub checks_of_translate_lem : (ls : List TextLine) → WellFormedInput ls → (kept out : List ℤ) → RoomToTranslate kept out
    → checks_of_translate (problem_said ls) (formula_said ls) kept out ≡ checks_of_program ls
checks_of_translate_lem ls F kept out R =
    ap₂ (translate_checks (problem_said ls) (formula_said ls)) ((formula-lengths_exactly (problem_said ls) (formula_said ls)).1 (lengths-fit ls F))
    ((translate_room_exactly kept out).1 R)

-- ---- which numbers and places come
-- 4 to 9; and a place that two bytes hold
abbrev Told : (number place : ℕ) → Type 0
Told number place = (4 ≤ number) × (number ≤ 9) × (place < 65536)

module _ (ls : List TextLine) (F : WellFormedInput ls) where
  abbrev P : Problem
  P = problem_said ls

  abbrev f : Formula
  f = formula_said ls

  matrix_size : length P.matrix ≤ 128
  matrix_size = omega (arith, (lengths-fit ls F).0.0, mul-le-mul {n₂ = 8} {m₂ = 16} F.sizes.m-high F.sizes.n-high)

  exponents_size : length f.exponents ≤ 1024
  exponents_size = omega (arith, (lengths-fit ls F).1, mul-le-mul {n₂ = 64} {m₂ = 16} (lengths-fit ls F).2 F.sizes.n-high)

  each-told : EachFault Told (checks_of_program ls)
  each-told = (sizes, (never, (never, (moduli, (entries, (exponents, (range, (formula, tt))))))))
    where
      sizes : (p : ℕ) → (sizes_check P).fault ≡ found p → Told 1 p
      sizes p e = absurd ((((row_1 P).given_exactly p).0 e).0 F.sizes)

      never : {k : ℕ} (p : ℕ) → none ≡ found p → Told k p
      never p e = let z : ◌≡◌ {A = ℕ} 0 1 = cc in absurd (omega arith)

      moduli : (p : ℕ) → (moduli_check P).fault ≡ found p → Told 4 p
      moduli p e = (omega arith, omega arith, omega (arith, (((row_4 P).given_exactly p).0 e).within, (lengths-fit ls F).0.1, F.sizes.m-high))

      entries : (p : ℕ) → (entries_check P).fault ≡ found p → Told 5 p
      entries p e = (omega arith, omega arith, omega (arith, (((row_5 P).given_exactly p).0 e).within, matrix_size))

      exponents : (p : ℕ) → (exponents_check f.exponents).fault ≡ found p → Told 6 p
      exponents p e = (omega arith, omega arith, omega (arith, (((row_6 f.exponents).given_exactly p).0 e).within, exponents_size))

      range : (p : ℕ) → (range_check (run P)).fault ≡ found p → Told 7 p
      range p e = (omega arith, omega arith, omega (arith, (((row_7 P).given_exactly p).0 e).1))

      number : {k : ℕ} → (k ≡ 8) ⊎ (k ≡ 9) → (4 ≤ k) × (k ≤ 9)
      number (inl e) = (omega arith, omega arith)
      number (inr e) = (omega arith, omega arith)

      formula : (p : ℕ) → (terms_check P (run P) f).fault ≡ found p → Told (terms_check P (run P) f).number p
      formula p e =
          let D = (term-decides_exactly P (run P) f (terms_check P (run P) f).number p).0 (e, refl) in
          let k = number (term-number P (run P) f p e) in
          (k.0, k.1, omega (arith, D.within, (lengths-fit ls F).2))

  judged : Answers ls (translate_verdict P f true true)
  unfolding translate_verdict
  judged = go (verdict (checks_of_program ls)) refl
    where
      go : (v : Verdict) → verdict (checks_of_program ls) ≡ v → Answers ls v
      go taken e = accepted F ((taken_exactly (checks_of_program ls)).0 e)
      go (refused number place) e =
          let D = (refused_exactly (checks_of_program ls) number place).0 e in
          let k = decider_has Told (checks_of_program ls) each-told number place D in
          refused_by_check F number place D k.0 k.1

-- ---- every input has one answer
pub one_verdict : {ls : List TextLine} {v w : Verdict} → Answers ls v → Answers ls w → v ≡ w
one_verdict (refused_10 p B) (refused_10 q D) = ap (refused 10) (one_first_bad B D)
one_verdict (refused_10 p B) (refused_1 S) = absurd (bad-not-sizes B S)
one_verdict (refused_10 p B) (refused_by_check F k q D a b) = absurd (bad-not-good B F)
one_verdict (refused_10 p B) (accepted F a) = absurd (bad-not-good B F)
one_verdict (refused_1 S) (refused_10 p B) = absurd (bad-not-sizes B S)
one_verdict (refused_1 S) (refused_1 S') = refl
one_verdict (refused_1 S) (refused_by_check F k q D a b) = absurd (sizes-not-good S F)
one_verdict (refused_1 S) (accepted F a) = absurd (sizes-not-good S F)
one_verdict (refused_by_check F k q D a b) (refused_10 p B) = absurd (bad-not-good B F)
one_verdict (refused_by_check F k q D a b) (refused_1 S) = absurd (sizes-not-good S F)
one_verdict {ls} (refused_by_check F k q D a b) (refused_by_check F' k' q' D' a' b') =
    let e = one_refusal (checks_of_program ls) k q k' q' D D' in ap₂ refused e.0 e.1
one_verdict {ls} (refused_by_check F k q D a b) (accepted F' a') =
    absurd (not-taken-and-refused (checks_of_program ls) a' (record { number = k; place = q; decided = D }))
one_verdict (accepted F a) (refused_10 p B) = absurd (bad-not-good B F)
one_verdict (accepted F a) (refused_1 S) = absurd (sizes-not-good S F)
one_verdict {ls} (accepted F a) (refused_by_check F' k q D a' b') =
    absurd (not-taken-and-refused (checks_of_program ls) a (record { number = k; place = q; decided = D }))
one_verdict (accepted F a) (accepted F' a') = refl

-- a refusal's line, or the printed lines
pub record ProgramAnswered (input : List ℕ) (r : Text) : Type 0 where
  pub verdict : Verdict
  pub given : Answers (lines_of input) verdict
  pub only : (v : Verdict) → Answers (lines_of input) v → v ≡ verdict
  pub text : shown r ≡ answered (problem_said (lines_of input)) (formula_said (lines_of input)) verdict

pub program-answered : (input : List ℕ) (r : Text) → Shows r (program input) → ProgramAnswered input r
unfolding program
program-answered input r promise = go (reading_is (lines_of input)) (shown_is promise)
  where
    by : {v : Verdict} → Answers (lines_of input) v → shown r ≡ answered (problem_said (lines_of input)) (formula_said (lines_of input)) v → ProgramAnswered input r
    by {v} A e = record { verdict = v; given = A; only = λ w B. one_verdict B A; text = e }

    go : {x : Reading} → Read (lines_of input) x → shown r ≡ answer_to x → ProgramAnswered input r
    go (line_refused p B) e = by (refused_10 p B) e
    go (sizes-refused S) e = by (refused_1 S) e
    go (all_read F) e = by (judged (lines_of input) F) e

-- ---- each number and place that comes fits the bytes that it is printed in
-- a refusal of line p has at most the 65th term's line for its place
bad-line-number : {ls : List TextLine} {p : ℕ} → FirstBadLine ls p → p ≤ 73
bad-line-number {p = zero} B = omega arith
bad-line-number {p = suc p} B = omega (arith, form_number (B.before p (omega arith)).1, (B.sizes (omega arith)).m-high)

pub record Limited (number place : ℕ) : Type 0 where
  pub one_byte : number < 256
  pub two_bytes : place < 65536

pub refusal_limited : {ls : List TextLine} {number place : ℕ} → Answers ls (refused number place) → Limited number place
refusal_limited (refused_10 p B) = record { one_byte = omega arith; two_bytes = omega (arith, bad-line-number B) }
refusal_limited (refused_1 S) = record { one_byte = omega arith; two_bytes = omega arith }
refusal_limited {ls} (refused_by_check F number place D a b) = record {
  one_byte = omega arith;
  two_bytes = (decider_has Told (checks_of_program ls) (each-told ls F) number place D).2;
}
