use Rattle.std.proofs.Common.{◌≡◌}
use Rattle.scaling.specs.Strided.{swap_f}
use Rattle.scaling.proofs.strided.swap.Given as goal

abbrev pub invariant-loop-k : goal.invariant-loop-k
invariant-loop-k l = l.a ≡ swap_f l.fn.a l.one l.two l.stride l.k
