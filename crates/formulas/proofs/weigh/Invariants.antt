use Rattle.std.proofs.Common.{◌≡◌, ◌++◌, length, take, drop}
use Rattle.whole.specs.Lists.{tab}
use Rattle.rules.specs.Formulas.{weight}
use Rattle.formulas.specs.Term.{problem_at, v_at}
use Rattle.formulas.proofs.weigh.Given as goal

-- the first i entries are the weights, the others are as they were
abbrev pub invariant-loop-i : goal.invariant-loop-i
invariant-loop-i l = l.x-items ≡ tab l.i (weight (problem_at l.term) (v_at l.term)) ++ drop l.i (take (length l.moduli) l.fn.weights)
