-- R1.1 and section 5 of the rules: a problem and its matrix C.
-- Rows and columns count from 0.
use Rattle.std.specs.Prelude.{◌≡◌, true, false, List, [], ◌∷◌, ◌++◌, map, ℕ, suc, ◌+◌, ◌*◌, ◌≤◌, eqb, length, get_or, ℤ, pos, neg_ℤ, nat_abs, ◌≤ℤ◌}
use Rattle.whole.specs.Lists.{nth, tab}
use Rattle.whole.specs.Matrix.{Matrix}
use Rattle.rules.specs.Limits.{is_zero}

-- R1.1. The matrix stands row after row.
pub record Problem : Type 0 where
  pub m : ℕ
  pub n : ℕ
  pub matrix : List ℤ
  pub moduli : List ℤ

abbrev pub entry : Problem → Matrix
entry P i j = nth P.matrix (i * P.n + j)

abbrev pub modulus : Problem → ℕ → ℤ
modulus P i = nth P.moduli i

-- R2.1 to R2.3, with as many entries and moduli as m and n say.
-- Past the end of a list nth is 0, so that each i may be asked.
pub record WellFormed (P : Problem) : Type 0 where
  pub m-low : 1 ≤ P.m
  pub m-high : P.m ≤ 8
  pub n-low : 1 ≤ P.n
  pub n-high : P.n ≤ 16
  pub matrix : length P.matrix ≡ P.m * P.n
  pub moduli : length P.moduli ≡ P.m
  pub entries : (i : ℕ) → nat_abs (nth P.matrix i) ≤ 1000
  pub moduli-low : (i : ℕ) → pos 0 ≤ℤ nth P.moduli i
  pub moduli-high : (i : ℕ) → nat_abs (nth P.moduli i) ≤ 1000

-- the rows with a modulus (R2.4), from the top row down; i is the row of the first modulus listed
unfoldable pub modulus_rows_from : (i : ℕ) → List ℤ → List ℕ
modulus_rows_from i [] = []
modulus_rows_from i (p ∷ ps) = elim (is_zero p) [ true ↦ modulus_rows_from (suc i) ps | false ↦ i ∷ modulus_rows_from (suc i) ps ]

abbrev pub modulus_rows : Problem → List ℕ
modulus_rows P = modulus_rows_from 0 P.moduli

-- R5.1: how many rows have a modulus, and how many columns C has
abbrev pub s : Problem → ℕ
s P = length (modulus_rows P)

abbrev pub N : Problem → ℕ
N P = P.n + s P

-- R5.2: the column of row i
abbrev pub modulus_column : Problem → ℕ → List ℤ
modulus_column P i = tab P.m (λ r. elim (eqb i r) [ true ↦ neg_ℤ (modulus P i) | false ↦ pos 0 ])

abbrev pub modulus_columns : Problem → List (List ℤ)
modulus_columns P = map (modulus_column P) (modulus_rows P)

abbrev pub quantity_columns : Problem → List (List ℤ)
quantity_columns P = tab P.n (λ j. tab P.m (λ i. entry P i j))

-- R5.3
unfoldable pub columns : Problem → List (List ℤ)
columns P = modulus_columns P ++ quantity_columns P

unfoldable pub C : Problem → Matrix
C P i j = nth (get_or (columns P) j []) i
