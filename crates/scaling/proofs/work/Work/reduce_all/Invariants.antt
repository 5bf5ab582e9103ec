use Rattle.scaling.proofs.Settling.{Reducing}
use Rattle.scaling.proofs.work.Work.reduce_all.Given as goal

-- the state is the definition's at the columns done
abbrev pub invariant-loop-c : goal.invariant-loop-c
invariant-loop-c l = Reducing l.which l.row l.b l.lo l.c l.fn.self l.self
