-- R1.4 and R1.5: the build and the translation over bytes. A buffer that ends inside a number has a wrong length. All else is as in Calls.
use Rattle.std.specs.Prelude.{Bool, ◌&&◌, List, ℕ, leb}
use Rattle.rules.specs.Limits.{room_h, room_v, room_w, room_coefficients, room_exponents}
use Rattle.rules.specs.Problem.{Problem}
use Rattle.rules.specs.Formulas.{Formula}
use Rattle.rules.specs.Calls.{Verdict, build_verdict, translate_verdict, problem_fits, formula_fits, Built, built_in, Translated, translated_in}
use Rattle.rules.specs.Bytes.{bytes_of, whole_numbers, numbers_in, numbers_of}

-- the problem and the formula that the lent bytes say
abbrev pub problem_of : (m n : ℕ) (matrix moduli : List ℕ) → Problem
problem_of m n matrix moduli = record { m = m; n = n; matrix = numbers_of matrix; moduli = numbers_of moduli }

abbrev pub formula_of : (coefficients exponents : List ℕ) → Formula
formula_of cs es = record { coefficients = numbers_of cs; exponents = numbers_of es }

-- whether a lent output of bytes has room for so many numbers
abbrev pub has_room : (room : ℕ) → List ℕ → Bool
has_room room bs = whole_numbers bs && leb room (numbers_in bs)

-- ---- glaukemis_build
unfoldable pub bench_build_verdict : (m n : ℕ) (matrix moduli h v w : List ℕ) → Verdict
bench_build_verdict m n matrix moduli h v w =
    let P : Problem = problem_of m n matrix moduli in
    build_verdict P (whole_numbers matrix && whole_numbers moduli && problem_fits P) (has_room room_h h && has_room room_v v && has_room room_w w)

unfoldable pub bench_build_of : (m n : ℕ) (matrix moduli h v w : List ℕ) → Built ℕ
bench_build_of m n matrix moduli h v w = built_in bytes_of (problem_of m n matrix moduli) h v w (bench_build_verdict m n matrix moduli h v w)

-- ---- glaukemis_translate; the last two are the outputs
unfoldable pub bench_translate_verdict : (m n : ℕ) (matrix moduli coefficients exponents out_c out_e : List ℕ) → Verdict
bench_translate_verdict m n matrix moduli cs es out_c out_e =
    let P : Problem = problem_of m n matrix moduli in
    let f : Formula = formula_of cs es in
    translate_verdict P f
    (whole_numbers matrix && whole_numbers moduli && whole_numbers cs && whole_numbers es && problem_fits P && formula_fits P f)
    (has_room room_coefficients out_c && has_room room_exponents out_e)

unfoldable pub bench_translate_of : (m n : ℕ) (matrix moduli coefficients exponents out_c out_e : List ℕ) → Translated ℕ
bench_translate_of m n matrix moduli cs es out_c out_e =
    translated_in bytes_of (problem_of m n matrix moduli) (formula_of cs es) out_c out_e (bench_translate_verdict m n matrix moduli cs es out_c out_e)
