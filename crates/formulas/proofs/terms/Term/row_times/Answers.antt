use Rattle.std.proofs.Common.{rules, ◌≡◌, ◌∙◌}
use mir.Syntax.{w64}
use mir.Val.{SFits}
use mir.Facts.{to_z-of_z}
use Rattle.rules.specs.Formulas.{row_times}
use Rattle.formulas.specs.Term.{problem_at, v_at}
use Rattle.formulas.proofs.Weighing.{row_is, row_size}
use Rattle.formulas.proofs.terms.Term.row_times.Goals as goal
use Rattle.formulas.proofs.terms.Term.row_times.Goals.{After-dot}

is_row : (c : After-dot) → c.dot.result ≡ row_times (problem_at c.args.self.now) (v_at c.args.self.now) c.args.i
is_row c =
    let t = c.args.self.now in
    c.dot.ensures ∙ row_is t.problem.now.well_formed t.monomial c.args.i c.requires

pub returns-clause-is : goal.returns-clause-is
returns-clause-is c =
    let f : SFits w64 c.dot.result = search rules in
    rw (to_z-of_z f) (is_row (goal.at.returns-clause-is c).After-dot)

pub returns-clause-small : goal.returns-clause-small
returns-clause-small c =
    let f : SFits w64 c.dot.result = search rules in
    let t = c.args.self.now in
    rw (to_z-of_z f, is_row (goal.at.returns-clause-small c).After-dot) (row_size t.problem.now.well_formed t.monomial c.args.i)
