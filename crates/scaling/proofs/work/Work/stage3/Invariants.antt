use Rattle.scaling.proofs.ThirdStage.{Third}
use Rattle.scaling.proofs.work.Work.stage3.Given as goal

-- what is left to do after the columns done is what the whole was at the start
abbrev pub invariant-loop-c : goal.invariant-loop-c
invariant-loop-c l = Third l.r l.c l.fn.self l.self
