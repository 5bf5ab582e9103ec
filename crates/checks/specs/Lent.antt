-- A problem as it is lent to the code, and its rows with a modulus.
use Rattle.std.specs.Prelude.{List, ℕ, length, take, ℤ}
use Rattle.rules.specs.Problem.{Problem, modulus_rows_from}

-- there is a modulus for each row, so that the rows need not be counted apart
abbrev pub lent_problem : (n : ℕ) (matrix moduli : List ℤ) → Problem
lent_problem n matrix moduli = record { m = length moduli; n = n; matrix = matrix; moduli = moduli }

-- the rows with a modulus among the first eight
abbrev pub first8 : (moduli : List ℤ) → List ℕ
first8 moduli = modulus_rows_from 0 (take 8 moduli)
