-- Demands 1 and 3 of glaukemis_translate, over bytes (R1.4).
-- Demand 1 is of the bytes. A call whose byte lengths are multiples of four does to the numbers that the bytes are (numbers_of of rules/specs/Bytes) what
-- `translate` promises, so that demand 3 is of those numbers.
--
-- `promise` is what the call's `ensures` says, whatever m, n and the lent bytes are; kept and out are the lent outputs before the call, kept₁ and out₁
-- after it.
use mathlib.Core.Path.{◌≡◌, refl, ◌∙◌, ap, ap₂, subst}
use mathlib.Core.Logic.{◌≢◌, ◌↔◌, ◌⊎◌, inl, inr}
use mathlib.Core.Bool.{Bool, true, ◌&&◌}
use mathlib.Core.List.{List}
use Prim.Native.Nat.{ℕ, ◌+◌, ◌*◌, ◌<◌}
use native.Mathlib.Omega.{arith}
use lib.Dec.{leb}
use lib.ListN.{length}
use lib.IntN.{ℤ}
use Rattle.whole.specs.Lists.{nth}
use Rattle.rules.specs.Limits.{room_coefficients, room_exponents}
use Rattle.rules.specs.Problem.{Problem}
use Rattle.rules.specs.Stages.{run}
use Rattle.rules.specs.Formulas.{Formula, terms, term, d, translated}
use Rattle.rules.specs.Calls.{Check, Verdict, taken, refused, verdict, inputs_check, outputs_check, translate_verdict, problem_fits, formula_fits}
use Rattle.rules.specs.Calls.{build_of, translate_of, translated_to, translated_in, translated_exponents}
use Rattle.rules.specs.Bytes.{bytes_of, whole_numbers, numbers_in, numbers_of}
use Rattle.rules.specs.Bench.{problem_of, formula_of, has_room, bench_build_of, bench_translate_verdict, bench_translate_of}
use Rattle.whole.proofs.Tests.{and_both}
use Rattle.theory.proofs.Grid.{length-grid}
use Rattle.theory.proofs.Accepted.{AllPass}
use Rattle.theory.proofs.Run.{run_right}
use Rattle.theory.proofs.Sizes.{room_for_exponents}
use Rattle.scaling.specs.declared.BuildAnswer.{BuildAnswer}
use Rattle.formulas.specs.declared.TranslateAnswer.{TranslateAnswer}
use Rattle.scaling.specs.BuildPromise.{Builds}
use Rattle.formulas.specs.FormulaPromises.{Translates}
use Rattle.theory.proofs.Bytes.{length-longs}
use Rattle.demands.proofs.Order.{taken_exactly, refused_exactly, TermDecides, translate_checks, translate_not_0}
use Rattle.demands.proofs.Limits.{both}
use Rattle.demands.proofs.Table.{Row, NotAt0, row_at, FormulaLengths, formula-lengths_exactly}
use Rattle.demands.proofs.Refusals.{Ordered, ordered, TranslateRefused, checks_of_translate}
use Rattle.demands.proofs.Buffers.{KeepsRest}
use Rattle.demands.proofs.Formulas.{Translatable, Asked, all_pass_exactly, FormulaTranslated, translated_exactly, else_term_refused, formula-translated, back_in, first_formula_returns, no_other_exponents}
use Rattle.demands.proofs.Bytes.{AllFit, numbers-filled, bytes-keep, numbers_fit, grid-fits}
use Rattle.demands.proofs.CBuild.{Whole, RoomIn, whole_exactly, room_exactly, room_same, c_build_is_build, c_build_whole}

-- ---- demand 1
-- its checks, with R1.5: a buffer that ends inside a number has a wrong length
abbrev pub inputs_of_c_translate : (m n : ℕ) (matrix moduli cs es : List ℕ) → Bool
inputs_of_c_translate m n matrix moduli cs es =
    whole_numbers matrix && whole_numbers moduli && whole_numbers cs && whole_numbers es
    && problem_fits (problem_of m n matrix moduli) && formula_fits (problem_of m n matrix moduli) (formula_of cs es)

abbrev pub outputs_of_c_translate : (kept out : List ℕ) → Bool
outputs_of_c_translate kept out = has_room room_coefficients kept && has_room room_exponents out

abbrev pub checks_of_c_translate : (m n : ℕ) (matrix moduli cs es kept out : List ℕ) → List Check
checks_of_c_translate m n matrix moduli cs es kept out =
    translate_checks (problem_of m n matrix moduli) (formula_of cs es) (inputs_of_c_translate m n matrix moduli cs es) (outputs_of_c_translate kept out)

-- 2 and 3 of the table, in bytes
pub record InputsInBytes (m n : ℕ) (matrix moduli cs es : List ℕ) : Type 0 where
  pub matrix-whole : Whole matrix
  pub moduli-whole : Whole moduli
  pub coefficients-whole : Whole cs
  pub exponents-whole : Whole es
  pub lengths : FormulaLengths (problem_of m n matrix moduli) (formula_of cs es)

pub record OutputsInBytes (kept out : List ℕ) : Type 0 where
  pub kept-room : RoomIn 64 kept
  pub out-room : RoomIn 1024 out

pub row_2_c_translate : (m n : ℕ) (matrix moduli cs es : List ℕ) → Row (inputs_check (inputs_of_c_translate m n matrix moduli cs es)) 2
    (InputsInBytes m n matrix moduli cs es) (NotAt0 (InputsInBytes m n matrix moduli cs es))
row_2_c_translate m n matrix moduli cs es =
    row_at 0 2 (inputs_of_c_translate m n matrix moduli cs es) (InputsInBytes m n matrix moduli cs es) (to, back)
  where
    P : Problem
    P = problem_of m n matrix moduli

    f : Formula
    f = formula_of cs es

    to : inputs_of_c_translate m n matrix moduli cs es ≡ true → InputsInBytes m n matrix moduli cs es
    to e =
        let w₁ = whole_numbers matrix in
        let w₂ = whole_numbers moduli in
        let w₃ = whole_numbers cs in
        let w₄ = whole_numbers es in
        let t₅ = and_both (w₁ && w₂ && w₃ && w₄ && problem_fits P) (formula_fits P f) e in
        let t₄ = and_both (w₁ && w₂ && w₃ && w₄) (problem_fits P) t₅.0 in
        let t₃ = and_both (w₁ && w₂ && w₃) w₄ t₄.0 in
        let t₂ = and_both (w₁ && w₂) w₃ t₃.0 in
        let t₁ = and_both w₁ w₂ t₂.0 in
        record {
          matrix-whole = (whole_exactly matrix).0 t₁.0;
          moduli-whole = (whole_exactly moduli).0 t₁.1;
          coefficients-whole = (whole_exactly cs).0 t₂.1;
          exponents-whole = (whole_exactly es).0 t₃.1;
          lengths = (formula-lengths_exactly P f).0 (both t₄.1 t₅.1);
        }

    back : InputsInBytes m n matrix moduli cs es → inputs_of_c_translate m n matrix moduli cs es ≡ true
    back I =
        let w₁ = (whole_exactly matrix).1 I.matrix-whole in
        let w₂ = (whole_exactly moduli).1 I.moduli-whole in
        let w₃ = (whole_exactly cs).1 I.coefficients-whole in
        let w₄ = (whole_exactly es).1 I.exponents-whole in
        let l = and_both (problem_fits P) (formula_fits P f) ((formula-lengths_exactly P f).1 I.lengths) in
        both (both (both (both (both w₁ w₂) w₃) w₄) l.0) l.1

pub row_3_c_translate : (kept out : List ℕ)
    → Row (outputs_check (outputs_of_c_translate kept out)) 3 (OutputsInBytes kept out) (NotAt0 (OutputsInBytes kept out))
row_3_c_translate kept out = row_at 0 3 (outputs_of_c_translate kept out) (OutputsInBytes kept out) (
  λ e. let a = and_both (has_room 64 kept) (has_room 1024 out) e in
      record { kept-room = (room_exactly 64 kept).0 a.0; out-room = (room_exactly 1024 out).0 a.1 },
  λ O. both ((room_exactly 64 kept).1 O.kept-room) ((room_exactly 1024 out).1 O.out-room),
)

-- every byte length is a multiple of four
pub record WholeToTranslate (matrix moduli cs es kept out : List ℕ) : Type 0 where
  pub matrix-whole : Whole matrix
  pub moduli-whole : Whole moduli
  pub coefficients-whole : Whole cs
  pub exponents-whole : Whole es
  pub kept_whole : Whole kept
  pub out-whole : Whole out

-- the exponents of a formula that is translated have 32 bits
exponents-fit : (P : Problem) (f : Formula) → ((t : ℕ) → t < terms f → Translatable P (term P f t))
    → AllFit (translated_exponents P f)
unfolding translated_exponents
exponents-fit P f h = grid-fits (terms f) (d P (run P)) (λ t g. translated P (run P) (term P f t) g) (λ t g a b. (h t a).1 g b)

module _ (m n : ℕ) (matrix moduli cs es kept out : List ℕ) (a : TranslateAnswer) (kept₁ out₁ : List ℕ)
    (promise : Translates (bench_translate_of m n matrix moduli cs es kept out) a kept₁ out₁) where
  abbrev P : Problem
  P = problem_of m n matrix moduli

  abbrev f : Formula
  f = formula_of cs es

  abbrev checks : List Check
  checks = checks_of_c_translate m n matrix moduli cs es kept out

  by_verdict : Translates (translated_in bytes_of P f kept out (verdict checks)) a kept₁ out₁
  unfolding bench_translate_of bench_translate_verdict translate_verdict
  by_verdict = promise

  pub c_translate_ordered : Ordered (checks_of_c_translate m n matrix moduli cs es kept out) a.number a.place
      (TranslateRefused (checks_of_c_translate m n matrix moduli cs es kept out) kept out a kept₁ out₁)
  c_translate_ordered =
      ordered checks a.number a.place (TranslateRefused checks kept out a kept₁ out₁) (λ R. R.decided)
      (translate_not_0 P f (inputs_of_c_translate m n matrix moduli cs es) (outputs_of_c_translate kept out)) (go (verdict checks) refl by_verdict)
    where
      go : (x : Verdict) → verdict checks ≡ x → Translates (translated_in bytes_of P f kept out x) a kept₁ out₁
          → (AllPass checks × (a.number ≡ 0) × (a.place ≡ 0)) ⊎ TranslateRefused checks kept out a kept₁ out₁
      go taken e B = inl ((taken_exactly checks).0 e, B.number, B.place)
      go (refused number place) e B = inr (record {
        decided = (refused_exactly checks a.number a.place).0 (rw (B.number, B.place) e);
        d = B.d;
        kept-held = B.kept;
        translated-held = B.translated;
      })

  -- ---- the same call on the numbers
  verdict_same : WholeToTranslate matrix moduli cs es kept out → verdict checks ≡ verdict (checks_of_translate P f (numbers_of kept) (numbers_of out))
  verdict_same F =
      let w₁ = (whole_exactly matrix).1 F.matrix-whole in
      let w₂ = (whole_exactly moduli).1 F.moduli-whole in
      let w₃ = (whole_exactly cs).1 F.coefficients-whole in
      let w₄ = (whole_exactly es).1 F.exponents-whole in
      let i : inputs_of_c_translate m n matrix moduli cs es ≡ problem_fits P && formula_fits P f
      = ap (λ (b : Bool). b && problem_fits P && formula_fits P f) (ap₂ ◌&&◌ (ap₂ ◌&&◌ (ap₂ ◌&&◌ w₁ w₂) w₃) w₄) in
      let o : outputs_of_c_translate kept out ≡ leb room_coefficients (length (numbers_of kept)) && leb room_exponents (length (numbers_of out))
      = ap₂ ◌&&◌ (room_same room_coefficients kept F.kept_whole) (room_same room_exponents out F.out-whole) in
      ap₂ (λ (x y : Bool). verdict (translate_checks P f x y)) i o

  -- a call whose byte lengths are multiples of four is the call `translate` on the numbers that the bytes are
  pub c_translate_is_translate : WholeToTranslate matrix moduli cs es kept out
      → Translates (translate_of (problem_of m n matrix moduli) (formula_of cs es) (numbers_of kept) (numbers_of out)) a (numbers_of kept₁) (numbers_of out₁)
  unfolding translate_of translate_verdict
  c_translate_is_translate F =
      go (verdict on_numbers) refl (subst (λ (x : Verdict). Translates (translated_in bytes_of P f kept out x) a kept₁ out₁) (verdict_same F) by_verdict)
    where
      on_numbers : List Check
      on_numbers = checks_of_translate P f (numbers_of kept) (numbers_of out)

      go : (x : Verdict) → verdict on_numbers ≡ x → Translates (translated_in bytes_of P f kept out x) a kept₁ out₁
          → Translates (translated_to P f (numbers_of kept) (numbers_of out) x) a (numbers_of kept₁) (numbers_of out₁)
      go taken e B =
          let A = (all_pass_exactly P f (numbers_of kept) (numbers_of out)).0 ((taken_exactly on_numbers).0 e) in
          let L = A.0.accepted.well_formed in
          record {
            number = B.number;
            place = B.place;
            d = B.d;
            kept = ap numbers_of B.kept ∙ numbers-filled f.coefficients kept (numbers_fit cs)
                (omega (arith, A.0.formula.few, A.0.room.kept, length-longs (numbers_in kept) kept));
            translated = ap numbers_of B.translated ∙ numbers-filled (translated_exponents P f) out (exponents-fit P f A.1)
                (omega (arith, room_for_exponents P L (run_right P) f A.0.formula.few, A.0.room.translated, length-longs (numbers_in out) out));
          }
      go (refused number place) e B = record {
        number = B.number;
        place = B.place;
        d = B.d;
        kept = ap numbers_of B.kept;
        translated = ap numbers_of B.translated;
      }

  -- an accepted call's byte lengths are multiples of four
  pub c_translate_whole : a.number ≡ 0 → WholeToTranslate matrix moduli cs es kept out
  c_translate_whole e =
      let p = c_translate_ordered.accepts_exactly.0 e in
      let I = (row_2_c_translate m n matrix moduli cs es).passes_exactly.0 p.1.0 in
      let O = (row_3_c_translate kept out).passes_exactly.0 p.1.1.0 in
      record {
        matrix-whole = I.matrix-whole;
        moduli-whole = I.moduli-whole;
        coefficients-whole = I.coefficients-whole;
        exponents-whole = I.exponents-whole;
        kept_whole = O.kept-room.0;
        out-whole = O.out-room.0;
      }

  -- ---- demand 3
  -- translated exactly when all terms are free and none has a translated exponent beyond M
  pub c-translated_exactly : WholeToTranslate matrix moduli cs es kept out
      → Asked (problem_of m n matrix moduli) (formula_of cs es) (numbers_of kept) (numbers_of out)
      → (a.number ≡ 0) ↔ ((t : ℕ) → t < terms (formula_of cs es) → Translatable (problem_of m n matrix moduli) (term (problem_of m n matrix moduli) (formula_of cs es) t))
  c-translated_exactly F A =
      translated_exactly P f (numbers_of kept) (numbers_of out) a (numbers_of kept₁) (numbers_of out₁) (c_translate_is_translate F) A

  pub c_else_term_refused : WholeToTranslate matrix moduli cs es kept out
      → Asked (problem_of m n matrix moduli) (formula_of cs es) (numbers_of kept) (numbers_of out) → a.number ≢ 0
      → TermDecides (problem_of m n matrix moduli) (run (problem_of m n matrix moduli)) (formula_of cs es) a.number a.place
  c_else_term_refused F A =
      else_term_refused P f (numbers_of kept) (numbers_of out) a (numbers_of kept₁) (numbers_of out₁) (c_translate_is_translate F) A

  -- coefficients and order are kept, in the numbers that the bytes are
  pub c-formula-translated : a.number ≡ 0
      → FormulaTranslated (problem_of m n matrix moduli) (formula_of cs es) (numbers_of kept) (numbers_of out) a (numbers_of kept₁) (numbers_of out₁)
  c-formula-translated e =
      formula-translated P f (numbers_of kept) (numbers_of out) a (numbers_of kept₁) (numbers_of out₁) (c_translate_is_translate (c_translate_whole e)) e

  -- and every byte after the coefficients and after the exponents is untouched
  pub c_translate_rest : a.number ≡ 0
      → KeepsRest (4 * terms (formula_of cs es)) kept kept₁ × KeepsRest (4 * (terms (formula_of cs es) * a.d)) out out₁
  unfolding translated_exponents
  c_translate_rest e =
      let B = subst (λ (x : Verdict). Translates (translated_in bytes_of P f kept out x) a kept₁ out₁)
      ((taken_exactly checks).1 (c_translate_ordered.accepts_exactly.0 e)) by_verdict in
      let F = c-formula-translated e in
      let L = F.asked.accepted.well_formed in
      let few = F.asked.formula.few in
      let l = length-grid (terms f) (d P (run P)) (λ t g. translated P (run P) (term P f t) g) in (
        rw B.kept (bytes-keep (terms f) f.coefficients kept refl (omega (arith, few, F.asked.room.kept, length-longs (numbers_in kept) kept))),
        rw (B.d, B.translated) (bytes-keep (terms f * d P (run P)) (translated_exponents P f) out l
            (omega (arith, l, room_for_exponents P L (run_right P) f few, F.asked.room.translated, length-longs (numbers_in out) out))),
      )

  -- the same problem built, in the bytes h, v, w
  module _ (h v w : List ℕ) (r : BuildAnswer) (h₁ v₁ w₁ : List ℕ) (builds : Builds (bench_build_of m n matrix moduli h v w) r h₁ v₁ w₁)
      (built : r.number ≡ 0) (done : a.number ≡ 0) where
    built-numbers : Builds (build_of P (numbers_of h) (numbers_of v) (numbers_of w)) r (numbers_of h₁) (numbers_of v₁) (numbers_of w₁)
    built-numbers =
        c_build_is_build m n matrix moduli h v w r h₁ v₁ w₁ builds (c_build_whole m n matrix moduli h v w r h₁ v₁ w₁ builds built)

    translated-numbers : Translates (translate_of P f (numbers_of kept) (numbers_of out)) a (numbers_of kept₁) (numbers_of out₁)
    translated-numbers = c_translate_is_translate (c_translate_whole done)

    -- the groups to the translated exponents give each term back
    pub c_first_formula_returns : (t j : ℕ) → t < terms (formula_of cs es) → j < n
        → back_in (problem_of m n matrix moduli) r (numbers_of v₁) a.d (λ g. nth (numbers_of out₁) (t * a.d + g)) j ≡ nth (numbers_of es) (t * n + j)
    c_first_formula_returns =
        first_formula_returns P (numbers_of h) (numbers_of v) (numbers_of w) r (numbers_of h₁) (numbers_of v₁) (numbers_of w₁) built-numbers built
        f (numbers_of kept) (numbers_of out) a (numbers_of kept₁) (numbers_of out₁) translated-numbers done

    -- and no other whole exponents do
    pub c_no_other_exponents : (t : ℕ) → t < terms (formula_of cs es) → (e : ℕ → ℤ)
        → ((j : ℕ) → j < n → back_in (problem_of m n matrix moduli) r (numbers_of v₁) a.d e j ≡ nth (numbers_of es) (t * n + j))
        → (g : ℕ) → g < a.d → e g ≡ nth (numbers_of out₁) (t * a.d + g)
    c_no_other_exponents =
        no_other_exponents P (numbers_of h) (numbers_of v) (numbers_of w) r (numbers_of h₁) (numbers_of v₁) (numbers_of w₁) built-numbers built
        f (numbers_of kept) (numbers_of out) a (numbers_of kept₁) (numbers_of out₁) translated-numbers done
