use Rattle.std.proofs.Common.{◌≡◌, ◌+◌}
use Rattle.whole.specs.Lists.{tab}
use Rattle.rules.specs.Problem.{s}
use Rattle.rules.specs.Formulas.{k_then_v}
use Rattle.formulas.specs.Term.{problem_at, v_at}
use Rattle.formulas.proofs.terms.Term.k_then_v.Given as goal

-- the entries of k so far
abbrev pub invariant-loop-i : goal.invariant-loop-i
invariant-loop-i l = l.e.items ≡ tab l.i-index (k_then_v (problem_at l.self) (v_at l.self))

-- k, and the exponents so far
abbrev pub invariant-loop-z : goal.invariant-loop-z
invariant-loop-z l =
    l.e.items ≡ tab (s (problem_at l.self) + l.z-index) (k_then_v (problem_at l.self) (v_at l.self))
