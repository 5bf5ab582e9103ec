-- The code's work state as the definition's: line i is column i of T, column i of V, row i of W.
use Rattle.std.specs.Prelude.{◌≡◌, ◌≢◌, false, List, [], ◌∷◌, ℕ, zero, suc, ◌+◌, ◌*◌, ◌<◌, ◌≤◌, length, ℤ}
use Rattle.whole.specs.Lists.{nth}
use Rattle.rules.specs.Steps as steps
use Rattle.rules.specs.Steps.{Line, State, on_t, on_v, get}
use Rattle.scaling.specs.declared.work.Table.{Table}
use Rattle.scaling.specs.declared.work.Table.TheVariants.{T, V}
use Rattle.scaling.specs.declared.work.Work.{Work}

-- count entries, from an index on, with a stride
unfoldable pub pick : List ℤ → (at stride count : ℕ) → List ℤ
pick xs at stride zero = []
pick xs at stride (suc k) = nth xs at ∷ pick xs (at + stride) stride k

unfoldable pub line_of : (m n : ℕ) → (t v w : List ℤ) → ℕ → Line
line_of m n t v w i = record { t = pick t i n m; v = pick v i n n; w = pick w (i * n) 1 n }

-- lines i, i + 1, .., count of them
unfoldable pub lines_from : (m n : ℕ) → (t v w : List ℤ) → (i count : ℕ) → List Line
lines_from m n t v w i zero = []
lines_from m n t v w i (suc k) = line_of m n t v w i ∷ lines_from m n t v w (suc i) k

unfoldable pub state_of : Work → State
state_of s = record { lines = lines_from s.m s.cols s.t s.v s.w 0 s.cols; steps = s.steps; over = s.over }

-- s has m rows and n columns, and is what the definition's state u is, or both are over
pub record Tracks (m n : ℕ) (s : Work) (u : State) : Type 0 where
  pub rows : s.m ≡ m
  pub cols : s.cols ≡ n
  pub flag : s.over ≡ u.over
  pub same : s.over ≡ false → state_of s ≡ u

-- s has m rows and n columns, and is what u is, where nothing can be over
pub record Same (m n : ℕ) (s : Work) (u : State) : Type 0 where
  pub rows : s.m ≡ m
  pub cols : s.cols ≡ n
  pub clear : s.over ≡ false
  pub same : state_of s ≡ u

-- a count that is never reached: no column step is left out of it
abbrev pub most : ℕ
most = 18_446_744_073_709_551_615

-- no value is beyond M; a column, with a step left to count
pub record One (i : ℕ) (s : Work) : Type 0 where
  pub clear : s.over ≡ false
  pub i_in : i < s.cols
  pub room : s.steps < most

-- two columns
pub record Two (i j : ℕ) (s : Work) : Type 0 where
  pub clear : s.over ≡ false
  pub i_in : i < s.cols
  pub j_in : j < s.cols
  pub apart : i ≢ j
  pub room : s.steps < most

-- the columns from a on come to the front
pub record Reorders (a : ℕ) (s : Work) : Type 0 where
  pub clear : s.over ≡ false
  pub some : 0 < s.cols
  pub a_in : a ≤ s.cols

-- ---- the table that a stage looks at
abbrev pub table_for : Table → steps.Table
table_for T = on_t
table_for V = on_v

abbrev pub entries_for : Table → Work → List ℤ
entries_for T s = s.t
entries_for V s = s.v

-- its rows
abbrev pub height_for : Table → Work → ℕ
height_for T s = s.m
height_for V s = s.cols

-- xs is row k of it
pub record RowOf (which : Table) (k : ℕ) (s : Work) (xs : List ℤ) : Type 0 where
  pub whole : length xs ≡ s.cols
  pub entry : (c : ℕ) → c < s.cols → get (table_for which) (state_of s) k c ≡ nth xs c
