-- The sizes of what is read, which every Input keeps.
use Rattle.std.specs.Prelude.{◌≡◌, List, ℕ, ◌*◌, ◌≤◌, length, ℤ}
use Rattle.rules.specs.Limits.{most_terms}

pub record Sized (m n : ℕ) (moduli matrix coefficients exponents : List ℤ) : Type 0 where
  pub some-rows : 1 ≤ m
  pub few-rows : m ≤ 8
  pub some-columns : 1 ≤ n
  pub few-columns : n ≤ 16
  pub few-terms : length coefficients ≤ most_terms
  pub moduli-length : length moduli ≡ m
  pub matrix-length : length matrix ≡ m * n
  pub exponents-length : length exponents ≡ length coefficients * n
