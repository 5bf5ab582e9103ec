-- What the code makes of lent bytes: their numbers, or a list longer than any right one; and which problems and formulas come of it. Assumes nothing.
use Rattle.std.proofs.Common.{◌≡◌, ap₂, true, List, ℕ, ◌*◌, ◌<◌, ◌≤◌, mul-le-mul, arith, lt-ltb, length, ℤ}
use Rattle.std.proofs.lemmas.Bool.Decides.{nat_tests}
use Rattle.rules.specs.Bytes.{whole_numbers, numbers_in, numbers_of}
use Rattle.rules.specs.Problem.{Problem}
use Rattle.rules.specs.Calls.{problem_fits, formula_fits}
use Rattle.rules.specs.Bench.{problem_of}
use Rattle.rules.specs.Bench as bench
use Rattle.checks.specs.Checks.{given}
use Rattle.formulas.specs.FormulaPromises.{lent_formula}
use Rattle.theory.proofs.Accepted.{Sizes, lengths-passed, formula-lengths}
use Rattle.bench.specs.Words.{Decoded}
use Rattle.theory.proofs.Bytes.{length-longs}

-- ---- one list, of fewer numbers than there is room for
module _ {s : List ℕ} {room : ℕ} {xs : List ℤ} (D : Decoded s room xs) where
  heard : length xs < room → (whole_numbers s ≡ true) × (xs ≡ numbers_of s)
  heard h = grind (arith, nat_tests, D.wrong, D.numbers)

  read : whole_numbers s ≡ true → length (numbers_of s) < room → xs ≡ numbers_of s
  read w h = D.numbers (rw (w, lt-ltb (numbers_in s) room (omega (arith, length-longs (numbers_in s) s))))

-- ---- problems
module _ (m n : ℕ) {matrix moduli : List ℕ} {a p : List ℤ} (A : Decoded matrix 129 a) (Q : Decoded moduli 9 p) (L : Sizes m n) where
  few : m * n ≤ 128
  few = mul-le-mul L.m-high L.n-high

  both : a ≡ numbers_of matrix → p ≡ numbers_of moduli → given m n a p ≡ problem_of m n matrix moduli
  both e f = ap₂ (given m n) e f

  pub problem-heard : problem_fits (given m n a p) ≡ true
      → (whole_numbers matrix ≡ true) × (whole_numbers moduli ≡ true) × (given m n a p ≡ problem_of m n matrix moduli)
  problem-heard e =
      let t = lengths-passed (given m n a p) e in
      let x = heard A (omega (arith, t.0, few)) in
      let y = heard Q (omega (arith, t.1, L.m-high)) in
      (x.0, y.0, both x.1 y.1)

  pub problem-read : whole_numbers matrix ≡ true → whole_numbers moduli ≡ true → problem_fits (problem_of m n matrix moduli) ≡ true
      → given m n a p ≡ problem_of m n matrix moduli
  problem-read v w e =
      let t = lengths-passed (problem_of m n matrix moduli) e in
      both (read A v (omega (arith, t.0, few))) (read Q w (omega (arith, t.1, L.m-high)))

-- ---- formulas
module _ (P : Problem) {cs es : List ℕ} {c e : List ℤ} (C : Decoded cs 65 c) (E : Decoded es 1025 e) (l : P.n ≤ 16) where
  pub formula-heard : formula_fits P (lent_formula c e) ≡ true
      → (whole_numbers cs ≡ true) × (whole_numbers es ≡ true) × (lent_formula c e ≡ bench.formula_of cs es)
  formula-heard f =
      let t = formula-lengths P (lent_formula c e) f in
      let x = heard C (omega (arith, t.1)) in
      let y = heard E (omega (arith, t.0, mul-le-mul t.1 l)) in
      (x.0, y.0, ap₂ lent_formula x.1 y.1)

  pub formula-read : whole_numbers cs ≡ true → whole_numbers es ≡ true → formula_fits P (bench.formula_of cs es) ≡ true
      → lent_formula c e ≡ bench.formula_of cs es
  formula-read v w f =
      let t = formula-lengths P (bench.formula_of cs es) f in
      ap₂ lent_formula (read C v (omega (arith, t.1))) (read E w (omega (arith, t.0, mul-le-mul t.1 l)))
