-- What the reading of lent readings does.
use Rattle.std.specs.Prelude.{◌≡◌, List, ℕ, ◌≤◌, ◌<◌, length, Float}
use Rattle.rules.specs.Gauges.{read}

pub record Gathered (lent values : List Float) (count : ℕ) : Type 0 where
  pub all : length lent ≤ 16 → count ≡ length lent
  pub many : 16 < length lent → count ≡ 17
  pub same : (j : ℕ) → j < length lent → j < 16 → read values j ≡ read lent j
