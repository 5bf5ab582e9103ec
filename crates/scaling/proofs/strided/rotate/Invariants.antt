use Rattle.std.proofs.Common.{◌≡◌}
use Rattle.scaling.specs.Strided.{rotate_f}
use Rattle.scaling.proofs.strided.rotate.Given as goal

abbrev pub invariant-loop-k : goal.invariant-loop-k
invariant-loop-k g l = l.a ≡ rotate_f l.fn.a l.fn.a l.width l.by l.k
