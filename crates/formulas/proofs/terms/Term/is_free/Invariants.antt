use Rattle.std.proofs.Common.{◌≡◌}
use Rattle.rules.specs.Search.{none, first}
use Rattle.formulas.specs.Term.{problem_at, v_at}
use Rattle.formulas.proofs.Weighing.{weighs}
use Rattle.formulas.proofs.terms.Term.is_free.Given as goal

-- no row before i has a weight that is not 0
abbrev pub invariant-loop-i : goal.invariant-loop-i
invariant-loop-i l = first (weighs (problem_at l.self) (v_at l.self)) 0 l.i ≡ none
