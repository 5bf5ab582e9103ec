use Rattle.std.proofs.Common.{◌≡◌, false}
use Rattle.scaling.specs.Strided.{add_f, add_o}
use Rattle.scaling.proofs.strided.add.Given as goal

abbrev pub invariant-loop-k : goal.invariant-loop-k
invariant-loop-k l = (l.a ≡ add_f l.fn.a l.to l.from l.stride l.q l.k) × (add_o l.fn.a l.to l.from l.stride l.q l.k ≡ false)
