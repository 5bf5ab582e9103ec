use Rattle.std.proofs.Common.{pos, get_or, arith}
use Rattle.std.proofs.lemmas.Int.{to_z-of_z}
use mir.Syntax.{w32}
use mir.Val.{SFits}
use borrow.Author.Rules.{rules}
use Rattle.frames.proofs.Writes.{next-fits, next-printed}
use Rattle.frames.proofs.Printed.{next-number}
use Rattle.frames.proofs.print.numbers.Goals as goal

pub hex-requires : goal.hex-requires
hex-requires c =
    let z : SFits w32 (get_or c.args.zs.now c.loop-z.z-index (pos 0)) = search rules in
    rw (c.four_bytes.ensures, to_z-of_z w32 _ z)
    (next-fits c.loop-z.invariant (next-number c.args.zs.now c.loop-z.z-index (omega arith)) c.requires)

pub loop-z-preserved : goal.loop-z-preserved
loop-z-preserved c =
    let z : SFits w32 (get_or c.args.zs.now c.loop-z.z-index (pos 0)) = search rules in
    next-printed c.loop-z.invariant (next-number c.args.zs.now c.loop-z.z-index (omega arith))
    (rw (c.hex.ensures, c.four_bytes.ensures, to_z-of_z w32 _ z))
