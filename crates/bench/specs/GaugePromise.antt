-- What `glaukemis_gauge` answers, held to what rules/specs/Gauges says of it. The other calls have the promises of the calls below them: Builds,
-- Weighs, Translates, over bytes or numbers.
use Rattle.std.specs.Prelude.{◌≡◌}
use Rattle.rules.specs.Gauges as rules
use Rattle.bench.specs.declared.GaugeAnswer.{GaugeAnswer}

pub record Gauges (b : rules.GaugeAnswer) (r : GaugeAnswer) : Type 0 where
  pub number : r.number ≡ b.number
  pub place : r.place ≡ b.place
  pub value : r.value ≡ b.value
