use Rattle.gauges.specs.Gauging.{column, Exponents}
use Rattle.gauges.proofs.groups.Groups.exponents.Given as goal

abbrev pub invariant-loop-j : goal.invariant-loop-j
invariant-loop-j l = Exponents l.j (column l.self.v.now l.self.first l.self.cols l.group) l.exponents.items
