-- A monomial, sums of products, and what is asked of a row.
use Rattle.std.specs.Prelude.{◌≡◌, List, ℕ, ◌<◌, ◌≤◌, length, ℤ, nat_abs, ◌*ℤ◌}
use Rattle.whole.specs.Lists.{nth}
use Rattle.whole.specs.Sum.{sum}
use Rattle.rules.specs.Problem.{Problem, modulus}
use Rattle.rules.specs.Formulas.{weight}

-- n exponents, each within the limit of R2.6
pub record Monomial (n : ℕ) (es : List ℤ) : Type 0 where
  pub long : length es ≡ n
  pub small : (j : ℕ) → nat_abs (nth es j) ≤ 10_000

-- how large a row times a monomial can be: 16 times 1000 times 10,000
abbrev pub most_row_times : ℕ
most_row_times = 160_000_000

-- as many numbers as a row of W has at most; those of b are no larger than a row times a monomial
pub record Factors (a b : List ℤ) : Type 0 where
  pub few : length a ≤ 24
  pub same : length b ≡ length a
  pub small : (c : ℕ) → nat_abs (nth b c) ≤ most_row_times

-- the sum of the products, entry by entry
abbrev pub dot_of : (a b : List ℤ) → ℤ
dot_of a b = sum (length a) (λ j. nth a j *ℤ nth b j)

-- r is the weight in row i, and no larger than that
pub record Weight (P : Problem) (v : ℕ → ℤ) (i : ℕ) (r : ℤ) : Type 0 where
  pub is : r ≡ weight P v i
  pub small : nat_abs r ≤ most_row_times

-- a row with a modulus
pub record Modulus (P : Problem) (i : ℕ) : Type 0 where
  pub row : i < P.m
  pub filled : 0 < nat_abs (modulus P i)
