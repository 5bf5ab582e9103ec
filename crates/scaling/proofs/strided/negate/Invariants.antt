use Rattle.std.proofs.Common.{◌≡◌}
use Rattle.scaling.specs.Strided.{neg_f}
use Rattle.scaling.proofs.strided.negate.Given as goal

abbrev pub invariant-loop-k : goal.invariant-loop-k
invariant-loop-k l = l.a ≡ neg_f l.fn.a l.at l.stride l.k
