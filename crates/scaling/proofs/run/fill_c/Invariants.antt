use Rattle.std.proofs.Common.{◌≡◌, take}
use Rattle.whole.specs.Lists.{tab}
use Rattle.checks.specs.Checks.{problem_of}
use Rattle.scaling.proofs.MatrixC.{entry_at}
use Rattle.scaling.proofs.run.fill_c.Given as goal

abbrev pub invariant-loop-k : goal.invariant-loop-k
invariant-loop-k l = take l.k l.entry-items ≡ tab l.k (entry_at (problem_of l.p) l.cols)
