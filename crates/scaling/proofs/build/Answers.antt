-- `build`: the checks say the verdict, and where they pass the build of the problem does the rest.
use Rattle.std.proofs.Common.{rules}
use Rattle.std.proofs.lemmas.Result.{err_from_is_err_and}
use Rattle.scaling.proofs.BuildCall.{Known, build_refused, build_passed}
use Rattle.scaling.proofs.build.Goals as goal
use Rattle.scaling.proofs.build.Goals.{After-problem}

-- what is known once the checks have answered
known : (c : After-problem) → Known c.args.m c.args.n c.args.matrix.now c.args.moduli.now c.args.h.now c.args.v.now c.args.w.now c.if-v-ge-ROOM_V.outputs c.problem.result
known c = record { room = search rules; tells = c.problem.ensures }

pub returns-in_err-p : goal.returns-in_err-p
returns-in_err-p c =
    let f = err_from_is_err_and c.from_residual.result c.from_residual.ensures.1 in
    rw (f.1, f.2) (build_refused (known (goal.at.returns-in_err-p c).After-problem) c.in_err-p.was)

pub returns : goal.returns
returns c = build_passed (known (goal.at.returns c).After-problem) c.in_ok-p.was c.build_checked.ensures
