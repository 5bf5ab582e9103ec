-- From the readings that the code gathers to those that were lent: the answer is the same. Assumes nothing.
use Rattle.std.proofs.Common.{◌≡◌, List, ℕ, arith, Float}
use Rattle.std.proofs.lemmas.Bool.Decides.{nat_tests}
use Rattle.rules.specs.Problem.{Problem}
use Rattle.rules.specs.Gauges.{lent_readings, gauge_of}
use Rattle.theory.proofs.Gauges.{Alike, gauge_alike}
use Rattle.bench.specs.Readings.{Gathered}

module _ {lent values : List Float} {count : ℕ} (G : Gathered lent values count) where
  alike : (n : ℕ) → Alike n (record { values = values; count = count }) (lent_readings lent)
  alike n = record { counts = λ h. grind (arith, nat_tests, G.all, G.many); values = λ h e j l. G.same j (grind (arith, G.all, G.many)) (omega arith) }

  pub gathered_same : (P : Problem) (g : ℕ) → gauge_of P (record { values = values; count = count }) g ≡ gauge_of P (lent_readings lent) g
  gathered_same P g = gauge_alike P (record { values = values; count = count }) (lent_readings lent) g (alike P.n)
