use Rattle.std.proofs.Common.{◌*◌, ◌≡◌, ◌≤◌, arith, mul-le-mul}
use Rattle.scaling.proofs.Diagonal.{diagonal-more, diagonal-holds}
use Rattle.scaling.proofs.run.fill_identity.Goals as goal

pub loop-i-preserved : goal.loop-i-preserved
loop-i-preserved c =
    let n = c.args.n in
    let square : n * n ≤ 576 = mul-le-mul c.requires c.requires in
    diagonal-more n c.loop-i.i c.loop-i.invariant c.loop-i-test.true (omega (arith, square))

pub returns : goal.returns
returns c =
    let all : c.loop-i.i ≡ c.args.n = omega arith in
    diagonal-holds c.args.n (rw all at c.loop-i.invariant)
