-- The searches in a row, and in a column of a table.
use Rattle.std.specs.Prelude.{◌≡◌, ◌≢◌, Bool, true, false, cond, not, List, ℕ, ◌+◌, ◌*◌, ◌<◌, ◌≤◌, eqb, ltb, length, ℤ, neg_ℤ, nat_abs, Option, Some, None, IfSome, MatchOption}
use Rattle.whole.specs.Division.{floor_z}
use Rattle.whole.specs.Lists.{nth}
use Rattle.rules.specs.Limits.{is_zero}
use Rattle.rules.specs.Search.{first, last}
use Rattle.rules.specs.Stages.{is_other}
use Rattle.checks.specs.Checks.{finding}

-- the absolute values of the row
abbrev pub sizes : List ℤ → (c : ℕ) → ℕ
sizes row c = nat_abs (nth row c)

-- column j is one of lo to hi, and not 0 there
pub record FilledAt (row : List ℤ) (lo hi j : ℕ) : Type 0 where
  pub low : lo ≤ j
  pub high : j < hi
  pub filled : 0 < sizes row j

-- r is the lowest column that is not 0, where there is one
pub record Filled (row : List ℤ) (lo hi : ℕ) (r : Option ℕ) : Type 0 where
  pub is : finding r ≡ first (λ c. not (eqb (sizes row c) 0)) lo hi
  pub inside : IfSome r (FilledAt row lo hi)

-- the same of the columns other than p
pub record AnOther (row : List ℤ) (p lo hi j : ℕ) : Type 0 where
  pub low : lo ≤ j
  pub high : j < hi
  pub apart : j ≢ p
  pub filled : 0 < sizes row j

-- r is what the search for another column found
pub record Other (row : List ℤ) (p lo hi : ℕ) (r : Option ℕ) : Type 0 where
  pub is : finding r ≡ first (is_other (sizes row) p) lo hi
  pub inside : IfSome r (AnOther row p lo hi)

-- the column to keep of two: the one found so far, if any, and column j
abbrev pub better_of : (ℕ → ℕ) → (best : Option ℕ) → (j : ℕ) → Option ℕ
better_of f None j = cond (eqb (f j) 0) None (Some j)
better_of f (Some b) j = cond (eqb (f j) 0) (Some b) (cond (ltb (f j) (f b)) (Some j) (Some b))

-- what `better` may read
pub record Comparable (row : List ℤ) (best : Option ℕ) (j : ℕ) : Type 0 where
  pub j_in : j < length row
  pub best_in : IfSome best (λ b. b < length row)

-- two columns of the row, the first not 0 there
pub record Divisible (row : List ℤ) (p j : ℕ) : Type 0 where
  pub p_in : p < length row
  pub j_in : j < length row
  pub filled : 0 < sizes row p

-- the columns up to hi, and the pivot's column b
pub record Divisors (row : List ℤ) (b hi : ℕ) : Type 0 where
  pub b_in : b < length row
  pub upto : hi ≤ length row
  pub filled : 0 < sizes row b

-- whether nothing is to be added to column c for it to be in range at the pivot in column b
abbrev pub in_range : List ℤ → (b c : ℕ) → Bool
in_range row b c = is_zero (neg_ℤ (floor_z (nth row c) (nth row b)))

-- columns lo to hi are in range
abbrev pub AllInRange : List ℤ → (b lo hi : ℕ) → Type 0
AllInRange row b lo hi = (c : ℕ) → lo ≤ c → c < hi → in_range row b c ≡ true

-- column c is the lowest of lo to hi that is not in range
pub record LowestOut (row : List ℤ) (b lo hi c : ℕ) : Type 0 where
  pub low : lo ≤ c
  pub high : c < hi
  pub out : in_range row b c ≡ false
  pub lower : AllInRange row b lo c

-- r is the lowest column that is not in range, where there is one
pub record Unreduced (row : List ℤ) (b lo hi : ℕ) (r : Option ℕ) : Type 0 where
  pub all : MatchOption r (AllInRange row b lo hi) (LowestOut row b lo hi)

-- r is the row of the lowest entry of column c that is not 0, of n rows of n columns
pub record Lowest (xs : List ℤ) (n c : ℕ) (r : Option ℕ) : Type 0 where
  pub is : finding r ≡ last (λ k. not (eqb (nat_abs (nth xs (c + k * n))) 0)) n
  pub inside : IfSome r (λ k. (k < n) × (0 < nat_abs (nth xs (c + k * n))))
