use Rattle.std.proofs.Common.{◌≡◌, ◌++◌, drop}
use Rattle.whole.specs.Lists.{tab}
use Rattle.rules.specs.Stages.{run}
use Rattle.rules.specs.Formulas.{translated}
use Rattle.formulas.specs.Translation.{problem_in, v_in}
use Rattle.formulas.proofs.translation.Translation.write_term.Given as goal

-- the first g exponents are written, the other entries are as they were
abbrev pub invariant-loop-g : goal.invariant-loop-g
invariant-loop-g l = l.out ≡ tab l.g (translated (problem_in l.self) (run (problem_in l.self)) (v_in l.self l.t)) ++ drop l.g l.fn.out
