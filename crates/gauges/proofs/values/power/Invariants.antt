use Rattle.gauges.proofs.Units.{Made}
use Rattle.gauges.proofs.values.power.Given as goal

abbrev pub invariant-loop : goal.invariant-loop
invariant-loop l = Made l.x l.start l.e l.counter l.r
