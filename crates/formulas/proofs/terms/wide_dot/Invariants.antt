use Rattle.formulas.proofs.Sums.{Begun}
use Rattle.formulas.proofs.terms.wide_dot.Given as goal

-- the sum of the products so far
abbrev pub invariant-loop-i : goal.invariant-loop-i
invariant-loop-i l = Begun l.a l.b l.i l.sum
