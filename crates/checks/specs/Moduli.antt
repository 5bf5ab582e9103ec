-- The rows with a modulus, as the code lists them.
use Rattle.std.specs.Prelude.{◌≡◌, List, ℕ, ◌<◌, ◌≤◌, length, get_or, take, ℤ}
use Rattle.rules.specs.Problem.{modulus_rows_from}
use Rattle.checks.specs.declared.lent.ModulusRows.{ModulusRows}

-- the rows that q lists
abbrev pub listed : ModulusRows → List ℕ
listed q = take q.s q.rows

-- q lists the rows with a modulus among the first eight, with zeros behind them
pub record ListsFirst8 (moduli : List ℤ) (q : ModulusRows) : Type 0 where
  pub long : length q.rows ≡ 8
  pub count : q.s ≡ length (modulus_rows_from 0 (take 8 moduli))
  pub few : q.s ≤ 8
  pub rows : (c : ℕ) → c < q.s → get_or q.rows c 0 ≡ get_or (modulus_rows_from 0 (take 8 moduli)) c 0
  pub rest : (c : ℕ) → q.s ≤ c → get_or q.rows c 0 ≡ 0
