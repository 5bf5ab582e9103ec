use Rattle.std.proofs.Common.{add-one, rules}
use mir.Facts.{to_z-of_z}
use mir.Syntax.{w32}
use mir.Val.{SFits}
use Rattle.whole.specs.Lists.{nth}
use Rattle.scaling.specs.Strided.{rotate_f, rotate_from}
use Rattle.scaling.proofs.strided.rotate.Goals as goal

pub loop-k-preserved : goal.loop-k-preserved
unfolding rotate_f
loop-k-preserved g c =
    let x : SFits w32 (nth c.args.a.now (rotate_from c.args.width c.args.by c.loop-k.k)) = search rules in
    rw (add-one, to_z-of_z x, c.loop-k.invariant)
