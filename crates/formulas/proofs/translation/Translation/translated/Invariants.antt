use Rattle.std.proofs.Common.{◌≡◌, ◌-◌}
use Rattle.whole.specs.Lists.{tab}
use Rattle.rules.specs.Stages.{run}
use Rattle.rules.specs.Formulas.{translated}
use Rattle.formulas.specs.Translation.{problem_in, v_in}
use Rattle.formulas.proofs.translation.Translation.translated.Given as goal

-- the exponents in the groups before row i of W
abbrev pub invariant-loop-i : goal.invariant-loop-i
invariant-loop-i l = l.x.items ≡ tab (l.i - l.self.rank) (translated (problem_in l.self) (run (problem_in l.self)) (v_in l.self l.t))
