-- From the translation of the formula that the code hears to the translation of the bytes: the verdicts agree, a refusal leaves all as it was, and
-- what a taken call writes. Assumes nothing.
use Rattle.std.proofs.Common.{◌≡◌, refl, sym, ap, ap₂, ◌∙◌, subst, Bool, true, ◌&&◌, List, [], ◌∷◌, ℕ, ◌*◌, arith, leb, length, ℤ, Result, Ok, Err}
use Rattle.std.proofs.lemmas.Bool.{and_parts}
use Rattle.rules.specs.Bytes.{bytes_of, whole_numbers}
use Rattle.rules.specs.Limits.{sizes_in_range}
use Rattle.rules.specs.Problem.{Problem, WellFormed}
use Rattle.rules.specs.Stages.{run}
use Rattle.rules.specs.Formulas.{Formula, d, terms, term, translated, WellFormedFormula}
use Rattle.rules.specs.Calls.{Check, Verdict, taken, refused, translate_verdict, translate_of, translated_to, translated_in, problem_fits, formula_fits}
use Rattle.rules.specs.Calls.{moduli_check, entries_check, exponents_check, range_check, terms_check, filled, translated_exponents}
use Rattle.rules.specs.Bench.{problem_of, has_room, bench_translate_verdict, bench_translate_of}
use Rattle.rules.specs.Bench as bench
use Rattle.theory.proofs.Run.{run_right}
use Rattle.theory.proofs.Sizes.{room_for_exponents}
use Rattle.theory.proofs.Accepted.{sizes-passed, translate_accepted}
use Rattle.theory.proofs.Refusals.{translate_not_0}
use Rattle.theory.proofs.Grid.{length-grid}
use Rattle.checks.specs.declared.Refusal.{Refusal}
use Rattle.checks.specs.Checks.{given}
use Rattle.formulas.specs.FormulaPromises.{Translates, lent_formula, translate_answer}
use Rattle.bench.specs.Words.{Decoded, room_of}
use Rattle.checks.proofs.Refusals.{refusal_not-0}
use Rattle.bench.proofs.Verdicts.{bool_same, verdicts_agree, first_passed}
use Rattle.bench.proofs.Inputs.{problem-heard, problem-read, formula-heard, formula-read}
use Rattle.bench.proofs.Outputs.{room_same, Written, filled-written}

-- the checks from 4 on
abbrev later : Problem → Formula → List Check
later P f = moduli_check P ∷ entries_check P ∷ exponents_check f.exponents ∷ range_check (run P) ∷ terms_check P (run P) f ∷ []

-- one call: what was heard of the bytes, what was handed on for the outputs, and what formulas::translate answered
pub record Called (m n : ℕ) (matrix moduli cs es kept translated : List ℕ) (a p c e x y : List ℤ) (r : Result ℕ Refusal)
    (x₁ y₁ : List ℤ) : Type 0 where
  pub reads-matrix : Decoded matrix 129 a
  pub reads-moduli : Decoded moduli 9 p
  pub reads-coefficients : Decoded cs 65 c
  pub reads-exponents : Decoded es 1025 e
  pub lent-kept : length x ≡ room_of kept 64
  pub lent-translated : length y ≡ room_of translated 1024
  pub translates : Translates (translate_of (given m n a p) (lent_formula c e) x y) (translate_answer r) x₁ y₁

-- what a taken call has to write, and that with it written the bytes' translation is met
pub record Taken (m n : ℕ) (matrix moduli cs es kept translated : List ℕ) (count d : ℕ) (x₁ y₁ : List ℤ) : Type 0 where
  pub written-kept : Written 64 x₁ (bench.formula_of cs es).coefficients count
  pub written-translated : Written 1024 y₁ (translated_exponents (problem_of m n matrix moduli) (bench.formula_of cs es)) (count * d)
  pub translates : Translates (bench_translate_of m n matrix moduli cs es kept translated) (translate_answer (Ok d))
      (filled (bytes_of (bench.formula_of cs es).coefficients) kept)
      (filled (bytes_of (translated_exponents (problem_of m n matrix moduli) (bench.formula_of cs es))) translated)

module _ {m n : ℕ} {matrix moduli cs es kept out : List ℕ} {a p c e x y : List ℤ} {r : Result ℕ Refusal} {x₁ y₁ : List ℤ}
    (K : Called m n matrix moduli cs es kept out a p c e x y r x₁ y₁) where
  abbrev P' : Problem
  P' = given m n a p

  abbrev P : Problem
  P = problem_of m n matrix moduli

  abbrev f' : Formula
  f' = lent_formula c e

  abbrev f : Formula
  f = bench.formula_of cs es

  abbrev inputs' : Bool
  inputs' = problem_fits P' && formula_fits P' f'

  abbrev inputs : Bool
  inputs = whole_numbers matrix && whole_numbers moduli && whole_numbers cs && whole_numbers es && problem_fits P && formula_fits P f

  abbrev outputs' : Bool
  outputs' = leb 64 (length x) && leb 1024 (length y)

  abbrev outputs : Bool
  outputs = has_room 64 kept && has_room 1024 out

  outputs_same : outputs' ≡ outputs
  outputs_same = rw (room_same kept 64 x (omega arith) K.lent-kept, room_same out 1024 y (omega arith) K.lent-translated)

  -- ---- the same problem and formula
  abbrev Same : Type 0
  Same = (P' ≡ P) × (f' ≡ f)

  fits_same : Same → problem_fits P' && formula_fits P' f' ≡ problem_fits P && formula_fits P f
  fits_same s = ap₂ (λ (Q : Problem) (g : Formula). problem_fits Q && formula_fits Q g) s.0 s.1

  all-heard : sizes_in_range m n ≡ true → inputs' ≡ true → Same × (inputs ≡ true)
  all-heard o i =
      let l = sizes-passed m n o in
      let t = and_parts (problem_fits P') (formula_fits P' f') i in
      let u = problem-heard m n K.reads-matrix K.reads-moduli l t.0 in
      let v = formula-heard P' K.reads-coefficients K.reads-exponents l.n-high t.1 in
      let s : Same = (u.2, v.2) in
      (s, rw (u.0, u.1, v.0, v.1) (sym (fits_same s) ∙ i))

  all_read : sizes_in_range m n ≡ true → inputs ≡ true → inputs' ≡ true
  all_read o i =
      let l = sizes-passed m n o in
      let w₁ = whole_numbers matrix in
      let w₂ = whole_numbers moduli in
      let w₃ = whole_numbers cs in
      let w₄ = whole_numbers es in
      let t₅ = and_parts (w₁ && w₂ && w₃ && w₄ && problem_fits P) (formula_fits P f) i in
      let t₄ = and_parts (w₁ && w₂ && w₃ && w₄) (problem_fits P) t₅.0 in
      let t₃ = and_parts (w₁ && w₂ && w₃) w₄ t₄.0 in
      let t₂ = and_parts (w₁ && w₂) w₃ t₃.0 in
      let t₁ = and_parts w₁ w₂ t₂.0 in
      let q = problem-read m n K.reads-matrix K.reads-moduli l t₁.0 t₁.1 t₄.1 in
      let g = formula-read P K.reads-coefficients K.reads-exponents l.n-high t₂.1 t₃.1 t₅.1 in
      fits_same (q, g) ∙ rw t₄.1 t₅.1

  verdict_same : translate_verdict P' f' inputs' outputs' ≡ bench_translate_verdict m n matrix moduli cs es kept out
  unfolding translate_verdict bench_translate_verdict
  verdict_same = rw outputs_same (verdicts_agree (sizes_in_range m n) inputs' inputs outputs (later P' f') (later P f)
      (λ o. bool_same inputs' inputs (λ i. (all-heard o i).1) (all_read o))
      (λ o i. let s = (all-heard o i).0 in ap₂ later s.0 s.1))

  translates : Translates (translated_to P' f' x y (translate_verdict P' f' inputs' outputs')) (translate_answer r) x₁ y₁
  unfolding translate_of
  translates = K.translates

  pub refusal : {e : Refusal} → r ≡ Err e → Translates (bench_translate_of m n matrix moduli cs es kept out) (translate_answer r) kept out
  unfolding bench_translate_of
  refusal {e} h = go (translate_verdict P' f' inputs' outputs') (rw h at translates) verdict_same
    where
      go : (u : Verdict) → Translates (translated_to P' f' x y u) (translate_answer (Err e)) x₁ y₁ → u ≡ bench_translate_verdict m n matrix moduli cs es kept out
          → Translates (translated_in bytes_of P f kept out (bench_translate_verdict m n matrix moduli cs es kept out)) (translate_answer r) kept out
      go taken B i = absurd (refusal_not-0 e B.number)
      go (refused number place) B i = rw (← i, h) (record { number = B.number; place = B.place; d = B.d; kept = refl; translated = refl })

  verdict-taken : {k : ℕ} → r ≡ Ok k → translate_verdict P' f' inputs' outputs' ≡ taken
  unfolding translate_verdict
  verdict-taken {k} h = go (translate_verdict P' f' inputs' outputs') (rw h at translates) refl
    where
      go : (u : Verdict) → Translates (translated_to P' f' x y u) (translate_answer (Ok k)) x₁ y₁ → translate_verdict P' f' inputs' outputs' ≡ u → u ≡ taken
      go taken B i = refl
      go (refused number place) B i =
          absurd (translate_not_0 P' inputs' outputs' f' number place i (sym B.number))

  taken_writes : {count k : ℕ} → Translates (translated_to P f x y taken) (translate_answer (Ok k)) x₁ y₁ → count ≡ terms f → WellFormed P → WellFormedFormula P f
      → bench_translate_verdict m n matrix moduli cs es kept out ≡ taken → Taken m n matrix moduli cs es kept out count k x₁ y₁
  unfolding bench_translate_of translated_exponents
  taken_writes {count} {k} B l G F i =
      let j : length (translated_exponents P f) ≡ count * k
      = length-grid (terms f) (d P (run P)) (λ t g. translated P (run P) (term P f t) g) ∙ ap₂ (λ (i j : ℕ). i * j) (sym l) (sym B.d) in
      record {
        written-kept = filled-written 64 count x₁ f.coefficients x (sym l) F.few B.kept;
        written-translated = filled-written 1024 (count * k) y₁ (translated_exponents P f) y j
            (room_for_exponents P G (run_right P) f F.few) B.translated;
        translates = rw i (record { number = B.number; place = B.place; d = B.d; kept = refl; translated = refl });
      }

  pub success : {k : ℕ} → r ≡ Ok k → Taken m n matrix moduli cs es kept out (length c) k x₁ y₁
  unfolding translate_of translate_verdict
  success {k} h =
      let v = verdict-taken h in
      let t = first_passed (sizes_in_range m n) inputs' outputs' (later P' f') v in
      let s = (all-heard t.0 t.1).0 in
      let g = ap₂ (λ (Q : Problem) (g : Formula). translate_verdict Q g (problem_fits Q && formula_fits Q g) outputs') s.0 s.1 in
      let A = translate_accepted P f outputs' (sym g ∙ v) in
      let B = subst (λ (u : Verdict). Translates (translated_to P' f' x y u) (translate_answer (Ok k)) x₁ y₁) v (rw h at translates) in
      let B₁ = subst (λ (Q : Problem). Translates (translated_to Q f' x y taken) (translate_answer (Ok k)) x₁ y₁) s.0 B in
      let B₂ = subst (λ (g : Formula). Translates (translated_to P g x y taken) (translate_answer (Ok k)) x₁ y₁) s.1 B₁ in
      taken_writes B₂ (ap terms s.1) A.0 A.1 (sym verdict_same ∙ v)
