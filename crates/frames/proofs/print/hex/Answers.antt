use Rattle.std.proofs.Common.{arith}
use Rattle.frames.proofs.Writes.{next-fits}
use Rattle.frames.proofs.Printed.{next-byte}
use Rattle.frames.proofs.print.hex.Goals as goal

pub push-requires : goal.push-requires
push-requires c =
    let room = next-fits c.loop-b.invariant (next-byte c.args.bs.now c.loop-b.b-index (omega arith)) c.requires in
    omega arith

pub push-requires-in-loop-b : goal.push-requires-in-loop-b
push-requires-in-loop-b c =
    let room = next-fits c.loop-b.invariant (next-byte c.args.bs.now c.loop-b.b-index (omega arith)) c.requires in
    omega arith
