-- What the two calls answer to what was read, and that the printed lines are those of the definitions.
-- Assumes nothing.
use mathlib.Core.Path.{◌≡◌, refl, sym, ap, ap₂, ◌∙◌, subst}
use mathlib.Core.Bool.{Bool, true, ◌&&◌}
use mathlib.Core.List.{List, ◌++◌}
use Prim.Native.Nat.{ℕ, ◌+◌, ◌*◌, ◌≤◌}
use native.Mathlib.Omega.{arith}
use borrow.Author.Tests.{le-leb}
use lib.Dec.{leb}
use lib.ListN.{length, take, drop, replicate, length-replicate, length-take}
use lib.Seq.{take_at}
use lib.IntN.{ℤ, pos}
use Rattle.std.specs.Prelude.{Result, Ok, Err, IsErr}
use Rattle.std.specs.Result.{IsErrAnd}
use Rattle.arrayvec.specs.ArrayVec.{ArrayVec}
use Rattle.rules.specs.Problem.{Problem, N}
use Rattle.rules.specs.Stages.{run}
use Rattle.rules.specs.Formulas.{Formula, d, terms}
use Rattle.rules.specs.Calls.{Verdict, taken, refused, translate_verdict, build_verdict, problem_fits, formula_fits}
use Rattle.rules.specs.Calls.{contents_h, contents_v, contents_w, translated_exponents, filled, built, build_of}
use Rattle.rules.specs.Calls.{Translated, translated_to, translate_of}
use Rattle.rules.specs.Calls as calls
use Rattle.rules.specs.Frames.{row_lines, term_lines, sizes_line, printed, answered, refusal_line}
use Rattle.scaling.specs.BuildPromise.{Builds, RoomToBuild}
use Rattle.formulas.specs.FormulaPromises.{Translates, RoomToTranslate}
use Rattle.theory.proofs.Grid.{length-grid}
use Rattle.theory.proofs.Refusals.{build_taken, translate_not_0}
use Rattle.checks.specs.declared.Refusal.{Refusal}
use Rattle.checks.specs.Refusals.{number_of, place_of}
use Rattle.scaling.specs.declared.Built.{Built}
use Rattle.scaling.specs.declared.BuildAnswer.{BuildAnswer}
use Rattle.formulas.specs.declared.TranslateAnswer.{TranslateAnswer}
use Rattle.frames.specs.declared.input.Input.{Input}
use Rattle.frames.specs.Input.{problem_in, formula_in}
use Rattle.frames.specs.Output.{Prints, Room, solution_text, sizes_text, rows_text}
use Rattle.frames.proofs.Printed.{table-text}
use Rattle.frames.proofs.Fits.{few-moduli, problem-fits, formula-fits}

-- ---- the arrays that the code lends for the outputs have room
abbrev pub fresh : (count : ℕ) → List ℤ
fresh count = replicate count (pos 0)

pub room : (count : ℕ) → length (fresh count) ≡ count
room count = length-replicate count (pos 0)

at-least : (count : ℕ) → count ≤ length (fresh count)
at-least count = omega (arith, room count)

pub room-for-terms : RoomToTranslate (fresh 64) (fresh 1024)
room-for-terms = record { kept = at-least 64; translated = at-least 1024 }

pub room-for-rows : RoomToBuild (fresh 192) (fresh 576) (fresh 576)
room-for-rows = record { h = at-least 192; v = at-least 576; w = at-least 576 }

-- a refusal that is handed on prints its line
pub refused-prints : (r : Result Unit Refusal) (e : Refusal) (x : ArrayVec ℕ) {text : List ℕ}
    → IsErr r × IsErrAnd r (λ x. x ≡ e) → text ≡ refusal_line (number_of e) (place_of e) → Prints r x text
refused-prints (Ok _) e x h g = absurd h.1
refused-prints (Err _) e x h g = rw h.1 g

-- the first k entries of a lent array are what it was filled with
pub record Front (k : ℕ) (after contents : List ℤ) : Type 0 where
  pub is : take k after ≡ contents
  pub long : length contents ≡ k
  pub room : k ≤ length after

filled-front : (contents lent after : List ℤ) {k : ℕ} → after ≡ filled contents lent → length contents ≡ k → Front k after contents
filled-front contents lent after {k} e l =
    let is : take k after ≡ contents = rw e (take_at contents (drop (length contents) lent) k l) in
    record { is = is; long = l; room = omega (arith, ap length is, length-take k after) }

-- a formula's translation was taken: d, and at the front of two arrays the coefficients and the translated exponents
pub record IsTranslated (P : Problem) (f : Formula) (groups : ℕ) (kept translated : List ℤ) : Type 0 where
  pub verdict : translate_verdict P f true true ≡ taken
  pub d_is : groups ≡ d P (run P)
  pub coefficients : Front (terms f) kept f.coefficients
  pub exponents : Front (terms f * groups) translated (translated_exponents P f)

module _ (x : Input) where
  abbrev P : Problem
  P = problem_in x

  abbrev f : Formula
  f = formula_in x

  -- ---- the translation
  module _ {kept₀ translated₀ kept translated : List ℤ} {t : TranslateAnswer} (long : RoomToTranslate kept₀ translated₀)
      (h : Translates (translate_of (problem_in x) (formula_in x) kept₀ translated₀) t kept translated) where
    translation_is : Translates (translated_to P f kept₀ translated₀ (translate_verdict P f true true)) t kept translated
    unfolding translate_of
    translation_is =
        let inputs : problem_fits P && formula_fits P f ≡ true = ap₂ ◌&&◌ (problem-fits x) (formula-fits x) in
        let outputs : leb 64 (length kept₀) && leb 1024 (length translated₀) ≡ true
        = ap₂ ◌&&◌ (le-leb 64 (length kept₀) long.kept) (le-leb 1024 (length translated₀) long.translated) in
        let of_checks = λ (i o : Bool). translated_to P f kept₀ translated₀ (translate_verdict P f i o) in
        subst (λ (b : Translated ℤ). Translates b t kept translated) (ap₂ of_checks inputs outputs) h

    pub refused-text : (t.number ≡ 0 → ⊥)
        → answered P f (translate_verdict P f true true) ≡ refusal_line t.number t.place
    refused-text n = go (translate_verdict P f true true) translation_is
      where
        go : (v : Verdict) → Translates (translated_to P f kept₀ translated₀ v) t kept translated
            → answered P f v ≡ refusal_line t.number t.place
        go taken y = absurd (n y.number)
        go (refused number place) y = rw (y.number, y.place)

    pub is_translated : t.number ≡ 0 → IsTranslated P f t.d kept translated
    unfolding translated_exponents
    is_translated n = go (translate_verdict P f true true) refl translation_is
      where
        go : (v : Verdict) → translate_verdict P f true true ≡ v
            → Translates (translated_to P f kept₀ translated₀ v) t kept translated → IsTranslated P f t.d kept translated
        go taken e y = record {
          verdict = e;
          d_is = y.d;
          coefficients = filled-front f.coefficients kept₀ kept y.kept refl;
          exponents = rw y.d
              (filled-front (translated_exponents P f) translated₀ translated y.translated (length-grid (terms f) (d P (run P)) _));
        }
        go (refused number place) e y = absurd (translate_not_0 P true true f number place e (sym y.number ∙ n))

  -- ---- the build
  module _ {kept translated : List ℤ} {groups : ℕ}
      (t : IsTranslated (problem_in x) (formula_in x) groups kept translated)
      {h₀ v₀ w₀ h v w : List ℤ} {a : BuildAnswer} (long : RoomToBuild h₀ v₀ w₀)
      (y : Builds (build_of (problem_in x) h₀ v₀ w₀) a h v w) where
    pub build_is : Builds (built P h₀ v₀ w₀ taken) a h v w
    unfolding build_of
    build_is =
        let lent : leb 192 (length h₀) && leb 576 (length v₀) ≡ true
        = ap₂ ◌&&◌ (le-leb 192 (length h₀) long.h) (le-leb 576 (length v₀) long.v) in
        let outputs : leb 192 (length h₀) && leb 576 (length v₀) && leb 576 (length w₀) ≡ true
        = ap₂ ◌&&◌ lent (le-leb 576 (length w₀) long.w) in
        let e : build_of P h₀ v₀ w₀ ≡ built P h₀ v₀ w₀ taken
        = ap₂ (λ (i o : Bool). built P h₀ v₀ w₀ (build_verdict P i o)) (problem-fits x) outputs
        ∙ ap (built P h₀ v₀ w₀) (build_taken P true true f t.verdict) in
        subst (λ (r : calls.Built ℤ). Builds r a h v w) e y

    abbrev b : Built
    b = record { rank = a.rank; moduli = a.moduli; steps = a.steps }

    abbrev columns : ℕ
    columns = x.n + a.moduli

    columns_are : columns ≡ N P
    columns_are = ap (λ (k : ℕ). x.n + k) build_is.moduli

    h-front : Front (x.m * columns) h (contents_h P)
    unfolding contents_h
    h-front = rw columns_are (filled-front (contents_h P) h₀ h build_is.h (length-grid x.m (N P) _))

    v-front : Front (columns * columns) v (contents_v P)
    unfolding contents_v
    v-front = rw columns_are (filled-front (contents_v P) v₀ v build_is.v (length-grid (N P) (N P) _))

    w-front : Front (columns * columns) w (contents_w P)
    unfolding contents_w
    w-front = rw columns_are (filled-front (contents_w P) w₀ w build_is.w (length-grid (N P) (N P) _))

    pub solution_room : length translated ≡ 1024 → Room x b groups h v w kept translated
    solution_room e = record {
      few-columns = omega (arith, build_is.moduli, few-moduli x, x.sized.few-columns);
      few-exponents = omega (arith, t.exponents.room);
      h-room = h-front.room;
      v-room = v-front.room;
      w-room = w-front.room;
      kept-room = t.coefficients.room;
      translated-room = t.exponents.room;
    }

    table_is : (kind count : ℕ) {zs contents : List ℤ} → Front (count * columns) zs contents
        → rows_text kind columns (take (count * columns) zs) ≡ row_lines kind count columns contents
    table_is kind count {zs} {contents} i =
        ap (rows_text kind columns) i.is
        ∙ table-text kind count columns contents (omega (arith, x.sized.some-columns)) i.long

    pub solution_text_lem : solution_text x b groups h v w kept translated
        ≡ answered P f (translate_verdict P f true true)
    unfolding solution_text sizes_text sizes_line printed
    solution_text_lem =
        let sizes : sizes_text x.m x.n b ≡ sizes_line P = rw (build_is.moduli, build_is.rank, build_is.steps) in
        let h-rows = rw columns_are at (table_is 0x82 x.m h-front) in
        let v-rows = rw columns_are at (table_is 0x83 columns v-front) in
        let w-rows = rw columns_are at (table_is 0x84 columns w-front) in
        let lines : term_lines groups (take (terms f) kept) (take (terms f * groups) translated)
        ≡ term_lines (d P (run P)) f.coefficients (translated_exponents P f)
        = rw (t.coefficients.is, t.exponents.is, t.d_is) in
        rw columns_are (ap₂ ◌++◌ (ap₂ ◌++◌ (ap₂ ◌++◌ (ap₂ ◌++◌ sizes h-rows) v-rows) w-rows) lines)
        ∙ ap (answered P f) (sym t.verdict)
