-- Demands 2 and 3 of the program, from its input and what it printed alone: H, V and W as printed are the right ones; the groups to the printed
-- exponents give each term of the input back, with its coefficient and in its place; and no other whole exponents give it.
--
-- `promise` is what the `ensures` of frames::answer says; `done` that the first printed line is of the kind `81`, so that the input was taken. ls are
-- the lines of the input and out the printed ones; lines, rows, columns, groups and terms count from 0.
use mathlib.Core.Path.{◌≡◌, refl, sym, ◌∙◌, ap, ap₂}
use mathlib.Core.List.{List, ◌∷◌}
use Prim.Native.Nat.{ℕ, suc, ◌+◌, ◌-◌, ◌<◌}
use native.Mathlib.Omega.{arith}
use lib.ListN.{length, drop}
use lib.IntN.{ℤ, pos, ◌*ℤ◌}
use Rattle.whole.specs.Lists.{nth, tab}
use Rattle.whole.specs.Matrix.{Matrix}
use Rattle.whole.specs.Sum.{sum}
use Rattle.whole.proofs.Lists.{nth-tab}
use Rattle.rules.specs.Problem.{Problem, s, N, columns}
use Rattle.rules.specs.Forms.{Right}
use Rattle.rules.specs.Steps.{start}
use Rattle.rules.specs.Stages.{run, H, U, W}
use Rattle.rules.specs.Formulas.{Formula, terms, term, d, translated, group}
use Rattle.rules.specs.Calls.{Verdict, taken, refused}
use Rattle.rules.specs.Bytes.{byte_at, long}
use Rattle.rules.specs.Frames.{TextLine, lines_of, frame_of, term_coefficient, term_exponents, program}
use Rattle.theory.proofs.SameEntries.{normal_same}
use Rattle.theory.proofs.Run.{run_right}
use Rattle.theory.proofs.Sequence.{Steps, steps_counted}
use Rattle.theory.proofs.Sequence as sequence
use Rattle.theory.proofs.Unique.{Alike, normal_unique}
use Rattle.theory.proofs.Translation.{translated-back, translated-only, of_groups}
use Rattle.frames.specs.Output.{Shows}
use Rattle.demands.proofs.NormalForms.{Accepted}
use Rattle.demands.proofs.Formulas.{back_same}
use Rattle.demands.proofs.InputLines.{line_at, m_said, n_said, WellFormedInput, problem_said, formula_said}
use Rattle.demands.proofs.InputSays.{terms_said, coefficient_said, term_said}
use Rattle.demands.proofs.Program.{Text, shown, Answers, program-answered}
use Rattle.demands.proofs.OutputLines.{numbers_on}
use Rattle.demands.proofs.ReadBack.{SolutionLines}
use Rattle.demands.proofs.Printout.{Taken, refusal-printed, solution_printed, solution_exactly}

-- ---- what is read off the printed lines
-- R9.7
abbrev pub m_on : List TextLine → ℕ
m_on out = byte_at (frame_of (line_at out 0)) 1

abbrev pub s_on : List TextLine → ℕ
s_on out = byte_at (frame_of (line_at out 0)) 3

abbrev pub r_on : List TextLine → ℕ
r_on out = byte_at (frame_of (line_at out 0)) 4

-- N = n + s, and d = N - r
abbrev pub width_on : List TextLine → ℕ
width_on out = byte_at (frame_of (line_at out 0)) 2 + s_on out

abbrev pub groups_on : List TextLine → ℕ
groups_on out = width_on out - r_on out

-- R9.8
abbrev pub h_on : List TextLine → Matrix
h_on out i j = nth (numbers_on (line_at out (1 + i))) j

abbrev pub v_on : List TextLine → Matrix
v_on out i j = nth (numbers_on (line_at out (1 + m_on out + i))) j

abbrev pub w_on : List TextLine → Matrix
w_on out i j = nth (numbers_on (line_at out (1 + m_on out + width_on out + i))) j

-- R9.9
abbrev pub term_on : List TextLine → (t : ℕ) → TextLine
term_on out t = line_at out (1 + m_on out + width_on out + width_on out + t)

abbrev pub coefficient_on : List TextLine → (t : ℕ) → ℤ
coefficient_on out t = nth (numbers_on (term_on out t)) 0

abbrev pub exponent_on : List TextLine → (t g : ℕ) → ℤ
exponent_on out t g = nth (numbers_on (term_on out t)) (suc g)

-- R6.6: the exponent of quantity j in the product of the groups to the exponents e
abbrev pub back_on : List TextLine → (e : ℕ → ℤ) → (j : ℕ) → ℤ
back_on out e j = sum (groups_on out) (λ g. v_on out (s_on out + j) (r_on out + g) *ℤ e g)

-- ---- demand 2, of the printed lines: they are right for the problem (section 6), and nothing else is
pub record ProblemPrinted (P : Problem) (out : List TextLine) : Type 0 where
  pub accepted : Accepted P
  pub m_is : m_on out ≡ P.m
  pub s_is : s_on out ≡ s P
  pub width_is : width_on out ≡ N P
  pub right : Right P (r_on out) (h_on out) (v_on out) (w_on out)
  pub only : (r' : ℕ) (H' U' W' : Matrix) → Right P r' H' U' W' → Alike P.m (N P) r' (r_on out) H' (h_on out) U' (v_on out) W' (w_on out)
  -- the count of the written steps, which run_steps P lists, and of any other list that leads to the same end
  pub steps : (x : Steps (N P) (start (columns P)) (run P).state) → long (drop 5 (frame_of (line_at out 0))) ≡ pos (sequence.taken x)

-- ---- the same by the definitions
module _ (P : Problem) (f : Formula) (out : List TextLine) (S : SolutionLines P f out) where
  width_is : width_on out ≡ N P
  width_is = ap₂ ◌+◌ S.sizes.n_is S.sizes.s_is

  groups_are : groups_on out ≡ d P (run P)
  groups_are = ap₂ ◌-◌ width_is S.sizes.r_is

  h_is : (i j : ℕ) → i < P.m → j < N P → h_on out i j ≡ H (run P) i j
  h_is i j a b = ap (λ (zs : List ℤ). nth zs j) (S.h-rows i a).reads ∙ nth-tab (N P) (λ j. H (run P) i j) j (pos 0) b

  v_is : (i j : ℕ) → i < N P → j < N P → v_on out i j ≡ U (run P) i j
  v_is i j a b =
      ap (λ (k : ℕ). nth (numbers_on (line_at out (1 + k + i))) j) S.sizes.m_is
      ∙ ap (λ (zs : List ℤ). nth zs j) (S.v-rows i a).reads ∙ nth-tab (N P) (λ j. U (run P) i j) j (pos 0) b

  w_is : (i j : ℕ) → i < N P → j < N P → w_on out i j ≡ W (run P) i j
  w_is i j a b =
      ap₂ (λ (k l : ℕ). nth (numbers_on (line_at out (1 + k + l + i))) j) S.sizes.m_is width_is
      ∙ ap (λ (zs : List ℤ). nth zs j) (S.w-rows i a).reads ∙ nth-tab (N P) (λ j. W (run P) i j) j (pos 0) b

  term-reads : (t : ℕ) → t < terms f → numbers_on (term_on out t) ≡ nth f.coefficients t ∷ tab (d P (run P)) (λ g. translated P (run P) (term P f t) g)
  term-reads t h =
      ap₂ (λ (k l : ℕ). numbers_on (line_at out (1 + k + l + l + t))) S.sizes.m_is width_is ∙ (S.its_terms t h).reads

  exponent_is : (t g : ℕ) → t < terms f → g < groups_on out → exponent_on out t g ≡ translated P (run P) (term P f t) g
  exponent_is t g h b =
      ap (λ (zs : List ℤ). nth zs (suc g)) (term-reads t h) ∙ nth-tab (d P (run P)) (λ g. translated P (run P) (term P f t) g) g (pos 0) (omega (arith, groups_are))

  group_is : (g j : ℕ) → g < groups_on out → j < P.n → v_on out (s_on out + j) (r_on out + g) ≡ group P (run P) g j
  unfolding group
  group_is g j b c =
      ap₂ (λ (k l : ℕ). v_on out (k + j) (l + g)) S.sizes.s_is S.sizes.r_is
      ∙ v_is (s P + j) ((run P).rank + g) (omega arith) (omega (arith, groups_are, (run_right P).hermite.rank))

  back_is : (e e' : ℕ → ℤ) → ((g : ℕ) → g < groups_on out → e g ≡ e' g) → (j : ℕ) → j < P.n → back_on out e j ≡ of_groups P (run P) e' j
  back_is e e' same j b = back_same P (groups_on out) (λ g. v_on out (s_on out + j) (r_on out + g)) e e' j groups_are (λ g c. group_is g j c b) same

-- ---- a taken input
module _ (input : List ℕ) (r : Text) (promise : Shows r (program input)) (done : byte_at (frame_of (line_at (lines_of (shown r)) 0)) 0 ≡ 0x81) where
  abbrev ls : List TextLine
  ls = lines_of input

  abbrev out : List TextLine
  out = lines_of (shown r)

  abbrev P : Problem
  P = problem_said ls

  abbrev f : Formula
  f = formula_said ls

  its_lines : SolutionLines P f out
  its_lines = go (program-answered input r promise).verdict (program-answered input r promise).given
    where
      go : (v : Verdict) → Answers ls v → SolutionLines P f out
      go taken A = solution_printed input r promise A
      go (refused k p) A =
          let e : ◌≡◌ {A = ℕ} 0xff 0x81 = sym (refusal-printed input r promise k p A).line.framed.kind ∙ done in
          absurd (omega arith)

  good : WellFormedInput ls
  good = ((solution_exactly input r promise).0 its_lines).0

  is_taken : Taken P f
  is_taken = ((solution_exactly input r promise).0 its_lines).1

  -- ---- demand 2
  pub problem-printed : ProblemPrinted (problem_said (lines_of input)) (lines_of (shown r))
  problem-printed =
      let z = its_lines.sizes in
      let right : Right P (r_on out) (h_on out) (v_on out) (w_on out)
      = rw z.r_is (normal_same (h_is P f out its_lines) (v_is P f out its_lines) (w_is P f out its_lines) (run_right P)) in
      record {
        accepted = is_taken.problem;
        m_is = z.m_is;
        s_is = z.s_is;
        width_is = width_is P f out its_lines;
        right = right;
        only = λ r' H' U' W' R. normal_unique R right;
        steps = λ x. z.steps_are ∙ ap pos (steps_counted x ∙ omega arith);
      }

  -- ---- demand 3
  -- a line for each term of the input, in order
  pub as_many-terms : length (lines_of (shown r))
      ≡ 1 + m_on (lines_of (shown r)) + width_on (lines_of (shown r)) + width_on (lines_of (shown r)) + (length (lines_of input) - 1 - m_said (lines_of input))
  as_many-terms = omega (arith, its_lines.count, its_lines.sizes.m_is, width_is P f out its_lines, terms_said ls good)

  -- term t is line 1 + m + t of the input
  module _ (t : ℕ) (there : 1 + m_said (lines_of input) + t < length (lines_of input)) where
    within : t < terms f
    within = omega (arith, terms_said ls good)

    -- coefficients and order are kept
    pub coefficient_kept : coefficient_on (lines_of (shown r)) t ≡ term_coefficient (line_at (lines_of input) (1 + m_said (lines_of input) + t))
    coefficient_kept = ap (λ (zs : List ℤ). nth zs 0) (term-reads P f out its_lines t within) ∙ coefficient_said ls good t within

    -- each term comes back
    pub printed-formula_returns : (j : ℕ) → j < n_said (lines_of input)
        → back_on (lines_of (shown r)) (exponent_on (lines_of (shown r)) t) j
        ≡ nth (term_exponents (n_said (lines_of input)) (line_at (lines_of input) (1 + m_said (lines_of input) + t))) j
    printed-formula_returns j b =
        back_is P f out its_lines (exponent_on out t) (translated P (run P) (term P f t)) (λ g c. exponent_is P f out its_lines t g within c) j b
        ∙ translated-back P (run P) (run_right P) (term P f t) (is_taken.its_terms t within).0 j b
        ∙ term_said ls good t within j b

    -- by no other whole exponents
    pub no_other_printed : (e : ℕ → ℤ)
        → ((j : ℕ) → j < n_said (lines_of input) → back_on (lines_of (shown r)) e j
        ≡ nth (term_exponents (n_said (lines_of input)) (line_at (lines_of input) (1 + m_said (lines_of input) + t))) j)
        → (g : ℕ) → g < groups_on (lines_of (shown r)) → e g ≡ exponent_on (lines_of (shown r)) t g
    no_other_printed e same g b =
        let c : g < d P (run P) = omega (arith, groups_are P f out its_lines) in
        let given : (j : ℕ) → j < P.n → of_groups P (run P) e j ≡ term P f t j
        = λ j h. sym (back_is P f out its_lines e e (λ g _. refl) j h) ∙ same j h ∙ sym (term_said ls good t within j h) in
        translated-only P (run P) (run_right P) (term P f t) is_taken.problem.well_formed.moduli (is_taken.its_terms t within).0 e given g c
        ∙ sym (exponent_is P f out its_lines t g within b)
