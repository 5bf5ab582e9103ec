use Rattle.std.proofs.Common.{refl, ◌∙◌}
use Rattle.frames.specs.Input.{problem_in, formula_in}
use Rattle.checks.proofs.Refusals.{refusal_not-0}
use Rattle.frames.proofs.Solved.{room, room-for-terms, room-for-rows, refused-prints, refused-text}
use Rattle.frames.proofs.Solved.{IsTranslated, is_translated, build_is, solution_room, solution_text_lem}
use Rattle.frames.proofs.solve.solve.Goals as goal
use Rattle.frames.proofs.solve.solve.Goals.{After-build}

pub returns-in_err-d : goal.returns-in_err-d
returns-in_err-d c =
    let t =
    rw (c.in_err-d.was, c.deref.ensures.0, c.deref-2.ensures.0, c.deref-3.ensures.0, c.deref-4.ensures.0)
    at c.translate.ensures in
    refused-prints c.from_residual.result c.in_err-d.field-0.0 _ c.from_residual.ensures
    (refused-text c.args.x.now room-for-terms t (refusal_not-0 c.in_err-d.field-0.0))

-- the translation was taken
translated : (c : After-build)
    → IsTranslated (problem_in c.args.x.now) (formula_in c.args.x.now) c.in_ok-d.d c.translate.new.kept
    c.translate.new.translated
translated c =
    let t =
    rw (c.in_ok-d.was, c.deref.ensures.0, c.deref-2.ensures.0, c.deref-3.ensures.0, c.deref-4.ensures.0)
    at c.translate.ensures in
    is_translated c.args.x.now room-for-terms t refl

-- and so is the build
pub returns-in_err-built : goal.returns-in_err-built
returns-in_err-built c =
    let t = (goal.at.returns-in_err-built c).After-build in
    let y = rw (c.in_err-built.was, c.deref-5.ensures.0, c.deref-6.ensures.0) at c.build.ensures in
    absurd (refusal_not-0 c.in_err-built.field-0.0 (build_is c.args.x.now (translated t) room-for-rows y).number)

pub solution-requires : goal.solution-requires
solution-requires c =
    let t = (goal.at.solution-requires c).After-build in
    let y = rw (c.in_ok-built.was, c.deref-5.ensures.0, c.deref-6.ensures.0) at c.build.ensures in
    solution_room c.args.x.now (translated t) room-for-rows y (c.translate.auto.translated ∙ room 1024)

pub returns : goal.returns
returns c =
    let t = (goal.at.returns c).After-build in
    let y = rw (c.in_ok-built.was, c.deref-5.ensures.0, c.deref-6.ensures.0) at c.build.ensures in
    rw (solution_text_lem c.args.x.now (translated t) room-for-rows y) at c.solution.ensures
