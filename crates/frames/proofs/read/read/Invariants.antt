use Rattle.std.proofs.Common.{length}
use Rattle.frames.proofs.Progress.{RowsRead, TermsRead}
use Rattle.frames.proofs.read.read.Given as goal

-- where the reading stands after i matrix lines, and after some term lines
abbrev pub invariant-loop-i : goal.invariant-loop-i
invariant-loop-i l = RowsRead l.text l.m l.n l.i l.moduli.items l.matrix.items l.rest

abbrev pub invariant-loop-rest : goal.invariant-loop-rest
invariant-loop-rest l = TermsRead l.text l.m l.n l.moduli.items l.matrix.items l.coefficients.items l.exponents.items l.rest

abbrev pub decreases-loop-rest : goal.decreases-loop-rest
decreases-loop-rest l = length l.rest
