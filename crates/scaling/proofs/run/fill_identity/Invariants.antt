use Rattle.scaling.proofs.Diagonal.{Diagonal}
use Rattle.scaling.proofs.run.fill_identity.Given as goal

abbrev pub invariant-loop-i : goal.invariant-loop-i
invariant-loop-i l = Diagonal l.n l.i l.a l.fn.a
