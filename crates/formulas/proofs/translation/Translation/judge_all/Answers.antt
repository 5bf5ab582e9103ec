use Rattle.std.proofs.lemmas.Result.{err_from_is_err_and}
use Rattle.formulas.specs.Translation.{problem_in, formula_in}
use Rattle.formulas.proofs.Judging.{none_yet, taken_here, refused-here}
use Rattle.formulas.proofs.translation.Translation.judge_all.Goals as goal

pub loop-t-init : goal.loop-t-init
loop-t-init c = none_yet (problem_in c.args.self.now) (formula_in c.args.self.now)

pub returns-in_err-judge : goal.returns-in_err-judge
returns-in_err-judge c =
    let p = err_from_is_err_and c.from_residual.result c.from_residual.ensures.1 in
    let s = c.args.self.now in
    rw (p.1, p.2) (refused-here (problem_in s) (formula_in s) c.loop-t.t (rw c.in_err-judge.was at c.judge.ensures) c.loop-t-test.true c.loop-t.invariant)

pub loop-t-preserved : goal.loop-t-preserved
loop-t-preserved c =
    let s = c.args.self.now in
    taken_here (problem_in s) (formula_in s) c.loop-t.t (rw c.in_ok-judge.was at c.judge.ensures) c.loop-t.invariant
