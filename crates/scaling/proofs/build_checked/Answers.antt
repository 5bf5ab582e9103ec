-- `build_checked`: what is copied out is H, V and W.
use Rattle.std.proofs.Common.{arith}
use Rattle.checks.specs.Checks.{problem_of}
use Rattle.checks.proofs.Listing.{rows_counted}
use Rattle.theory.proofs.Sizes.{N-le_24}
use Rattle.scaling.proofs.Building.{rank-few, builds-taken}
use Rattle.scaling.proofs.build_checked.Goals as goal

pub overflow_cast-result : goal.overflow_cast-result
overflow_cast-result c =
    let p = c.args.p.now in
    omega (arith, N-le_24 (problem_of p) p.well_formed, rank-few p.well_formed c.in_ok-work.ensures)

pub returns : goal.returns
returns c =
    let p = c.args.p.now in
    builds-taken p.well_formed c.in_ok-work.ensures _ _ _
    c.copy_from_slice.ensures.after c.copy_from_slice-2.ensures.after c.copy_from_slice-3.ensures.after
    (rows_counted p)
