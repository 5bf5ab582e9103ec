use Rattle.std.proofs.Common.{◌≡◌}
use Rattle.rules.specs.Search.{none, first}
use Rattle.formulas.specs.Translation.{problem_in, formula_in}
use Rattle.formulas.proofs.Judging.{bad}
use Rattle.formulas.proofs.translation.Translation.judge_all.Given as goal

-- no term before t is refused
abbrev pub invariant-loop-t : goal.invariant-loop-t
invariant-loop-t l = first (bad (problem_in l.self) (formula_in l.self)) 0 l.t ≡ none
