use Rattle.std.proofs.Common.{◌∙◌, ap, sym}
use Rattle.checks.specs.Refusals.{told}
use Rattle.formulas.specs.Translation.{problem_in, formula_in}
use Rattle.formulas.proofs.Judging.{all-taken}
use Rattle.formulas.proofs.translation.Translation.translate.Goals as goal

pub write_all-requires-clause-taken : goal.write_all-requires-clause-taken
write_all-requires-clause-taken c =
    all-taken (problem_in c.args.self.now) (formula_in c.args.self.now) (sym (ap told c.in_ok-judge_all.was) ∙ c.judge_all.ensures)
