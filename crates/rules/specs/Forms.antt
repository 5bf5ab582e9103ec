-- Section 6 of the rules: what is right, without a word of how it is found.
-- Rows and columns count from 0. antt keeps the word V for itself, so the multiplier V is written U.
use Rattle.std.specs.Prelude.{◌≡◌, ℕ, ◌+◌, ◌-◌, ◌≤◌, ◌<◌, ℤ, pos, ◌≤ℤ◌, ◌<ℤ◌}
use Rattle.whole.specs.Matrix.{Matrix, mul, δ}
use Rattle.rules.specs.Problem.{Problem, N, C}

-- 0 ≤ x < pivot
pub record InRange (x pivot : ℤ) : Type 0 where
  pub low : pos 0 ≤ℤ x
  pub high : x <ℤ pivot

-- Column Hermite form: H has m rows and n columns, its rank is r, the pivot of column j stands in row (row j).
pub record Hermite (m n r : ℕ) (H : Matrix) (row : ℕ → ℕ) : Type 0 where
  -- R6.1; that a column below r is not zero follows from `positive`
  pub rank : r ≤ n
  pub rest : (i j : ℕ) → i < m → r ≤ j → j < n → H i j ≡ pos 0
  -- R6.2: where the pivots stand
  pub within : (j : ℕ) → j < r → row j < m
  pub below : (i j : ℕ) → j < r → row j < i → i < m → H i j ≡ pos 0
  -- R6.2: their rows rise
  pub rising : (j l : ℕ) → j < l → l < r → row j < row l
  -- R6.3
  pub positive : (j : ℕ) → j < r → pos 0 <ℤ H (row j) j
  -- R6.4
  pub right : (j l : ℕ) → j < l → l < r → InRange (H (row j) l) (H (row j) j)

-- the columns of U from column r on
abbrev pub from : ℕ → Matrix → Matrix
from r U i j = U i (r + j)

-- R6.5, V is normal: C has m rows and N columns, H is its Hermite form of rank r, and W is the inverse of V.
pub record Normal (m N r : ℕ) (C H U W : Matrix) : Type 0 where
  -- the pivot rows of H, and those of the last d = N - r columns of V
  pub rows : ℕ → ℕ
  pub last_rows : ℕ → ℕ
  -- C·V is H, in Hermite form
  pub product : (i j : ℕ) → i < m → j < N → mul N C U i j ≡ H i j
  pub hermite : Hermite m N r H rows
  -- W is the inverse of V, on either side
  pub inverse_right : (i j : ℕ) → i < N → j < N → mul N U W i j ≡ δ i j
  pub inverse_left : (i j : ℕ) → i < N → j < N → mul N W U i j ≡ δ i j
  -- the columns from r on are in Hermite form by themselves; none of them is zero, since V has an inverse
  pub last_columns : Hermite N (N - r) (N - r) (from r U) last_rows
  -- and the columns below r are in range at their pivots
  pub first_columns : (j k : ℕ) → j < N - r → k < r → InRange (U (last_rows j) k) (U (last_rows j) (r + j))

-- r, H, V and W are right for the problem
abbrev pub Right : Problem → (r : ℕ) (H U W : Matrix) → Type 0
Right P r H U W = Normal P.m (N P) r (C P) H U W
