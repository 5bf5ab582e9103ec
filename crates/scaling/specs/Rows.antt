-- (A), (B), a row, all rows and stage 3, on the code's state. row is the row's number, lo to a are the active columns.
use Rattle.std.specs.Prelude.{◌≡◌, false, ℕ, ◌+◌, ◌-◌, ◌*◌, ◌<◌, ◌≤◌, ℤ}
use Rattle.rules.specs.Search.{found, smallest, total, each}
use Rattle.rules.specs.Stages.{size, adds, next, eliminate, reduce, row, rows, Progress}
use Rattle.scaling.specs.declared.work.Table.{Table}
use Rattle.scaling.specs.declared.work.Work.{Work}
use Rattle.scaling.specs.WorkState.{state_of, Tracks, most, table_for, height_for}

abbrev pub sizes_in : Table → Work → (row c : ℕ) → ℕ
sizes_in which s row c = size (table_for which) (state_of s) row c

-- the sum of the absolute values in the active columns: no more repetitions of (A) than this
abbrev pub left : Table → Work → (row lo a : ℕ) → ℕ
left which s row lo a = total (sizes_in which s row) lo a

-- what holds before a repetition of (A): it adds q times column p to column j
pub record Ready (which : Table) (row lo a p j : ℕ) (q : ℤ) (s : Work) : Type 0 where
  pub clear : s.over ≡ false
  pub row_in : row < height_for which s
  pub a_in : a ≤ s.cols
  pub adds : next (table_for which) lo a row (state_of s) ≡ adds p j q
  pub room : s.steps + left which s row lo a ≤ most

pub record Eliminated (which : Table) (row lo a : ℕ) (s r : Work) : Type 0 where
  pub tracks : Tracks s.m s.cols r (eliminate (table_for which) lo a row (state_of s))
  pub counted : r.over ≡ false → r.steps ≤ s.steps + left which s row lo a

-- the pivot's column b, and what is left to count
pub record Pivot (which : Table) (row b : ℕ) (s : Work) (more : ℕ) : Type 0 where
  pub clear : s.over ≡ false
  pub row_in : row < height_for which s
  pub b_in : b < s.cols
  pub filled : 0 < sizes_in which s row b
  pub room : s.steps + more ≤ most

-- columns lo to hi, none of them b
pub record Apart (n b lo hi : ℕ) : Type 0 where
  pub order : lo ≤ hi
  pub upto : hi ≤ n
  pub apart : (c : ℕ) → lo ≤ c → c < hi → b ≡ c → ⊥

pub record AllReduced (which : Table) (row b lo hi : ℕ) (s r : Work) : Type 0 where
  pub tracks : Tracks s.m s.cols r (each (reduce (table_for which) row b) lo hi (state_of s))
  pub counted : r.over ≡ false → r.steps ≤ s.steps + s.cols

-- no row takes more steps than this: 24 columns of at most M, and (B)
abbrev pub per_row : ℕ
per_row = 51_539_607_600

-- the definition's progress, from the code's state with a columns active
abbrev pub progress : Work → (a : ℕ) → Progress
progress s a = record { state = state_of s; a = a }

pub record RowBegun (which : Table) (k lo a p : ℕ) (s : Work) : Type 0 where
  pub clear : s.over ≡ false
  pub row_in : k < height_for which s
  pub a_in : a ≤ s.cols
  pub smallest : smallest (sizes_in which s k) lo a ≡ found p
  pub room : s.steps + per_row ≤ most

pub record RowDone (which : Table) (k lo a : ℕ) (s r : Work) : Type 0 where
  pub tracks : Tracks s.m s.cols r (row (table_for which) s.cols lo k (progress s a)).state
  pub less : (row (table_for which) s.cols lo k (progress s a)).a ≡ a - 1
  pub counted : r.over ≡ false → r.steps ≤ s.steps + per_row

pub record RowsBegun (which : Table) (lo : ℕ) (s : Work) : Type 0 where
  pub clear : s.over ≡ false
  pub lo_in : lo ≤ s.cols
  pub room : s.steps + height_for which s * per_row ≤ most

pub record RowsDone (which : Table) (lo : ℕ) (s r : Work) (a : ℕ) : Type 0 where
  pub upto : a ≤ s.cols
  pub tracks : Tracks s.m s.cols r (rows (table_for which) s.cols lo (height_for which s) (progress s s.cols)).state
  pub active : r.over ≡ false → a ≡ (rows (table_for which) s.cols lo (height_for which s) (progress s s.cols)).a
  pub counted : r.over ≡ false → r.steps ≤ s.steps + height_for which s * per_row

pub record Stage3Begun (r : ℕ) (s : Work) : Type 0 where
  pub clear : s.over ≡ false
  pub r_in : r ≤ s.cols
  pub room : s.steps + s.cols * s.cols ≤ most
