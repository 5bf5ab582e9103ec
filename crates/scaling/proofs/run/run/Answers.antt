-- `run`: each call does a stage of the definition's run, and where a state is over the definition's end is too.
use Rattle.std.proofs.Common.{◌∙◌}
use Rattle.std.proofs.lemmas.Result.{err_from_is_err_and}
use Rattle.scaling.proofs.Running.{first_begun, refused-first, reorders, second-begun, refused-second, third_begun, refused-third, ran}
use Rattle.scaling.proofs.run.run.Goals as goal

pub rows-one-requires : goal.rows-one-requires
rows-one-requires c = first_begun c.args.p.now.well_formed c.start.ensures

pub returns-in_err-in_range : goal.returns-in_err-in_range
returns-in_err-in_range c =
    let f = err_from_is_err_and c.from_residual.result c.from_residual.ensures.1 in
    let h = c.in_err-in_range.ensures in
    rw f.1 (refused-first c.args.p.now.well_formed c.start.ensures c.rows-one.ensures (f.2 ∙ h.0) h.1)

pub reorder-requires : goal.reorder-requires
reorder-requires c = reorders c.args.p.now.well_formed c.start.ensures c.rows-one.ensures c.in_ok-in_range.ensures

pub rows-two-requires : goal.rows-two-requires
rows-two-requires c = second-begun c.args.p.now.well_formed c.start.ensures c.rows-one.ensures c.in_ok-in_range.ensures c.reorder.ensures

pub returns-in_err-in_range-2 : goal.returns-in_err-in_range-2
returns-in_err-in_range-2 c =
    let r = c.from_residual-in_err-in_range-2 in
    let f = err_from_is_err_and r.result r.ensures.1 in
    let h = c.in_err-in_range-2.ensures in
    rw f.1 (refused-second c.args.p.now.well_formed c.start.ensures c.rows-one.ensures c.in_ok-in_range.ensures c.reorder.ensures
    c.rows-two.ensures (f.2 ∙ h.0) h.1)

pub stage3-work-requires : goal.stage3-work-requires
stage3-work-requires c =
    third_begun c.args.p.now.well_formed c.start.ensures c.rows-one.ensures c.in_ok-in_range.ensures c.reorder.ensures c.rows-two.ensures
    c.in_ok-in_range-2.ensures

pub returns-in_err-in_range-3 : goal.returns-in_err-in_range-3
returns-in_err-in_range-3 c =
    let r = c.from_residual-in_err-in_range-3 in
    let f = err_from_is_err_and r.result r.ensures.1 in
    let h = c.in_err-in_range-3.ensures in
    rw f.1 (refused-third c.args.p.now.well_formed c.start.ensures c.rows-one.ensures c.in_ok-in_range.ensures c.reorder.ensures
    c.rows-two.ensures c.in_ok-in_range-2.ensures c.stage3-work.ensures (f.2 ∙ h.0) h.1)

pub returns : goal.returns
returns c =
    ran c.args.p.now.well_formed c.start.ensures c.rows-one.ensures c.in_ok-in_range.ensures c.reorder.ensures c.rows-two.ensures
    c.in_ok-in_range-2.ensures c.stage3-work.ensures c.in_ok-in_range-3.ensures
