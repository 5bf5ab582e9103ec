use Rattle.std.proofs.Common.{pos, get_or, length, arith}
use Rattle.std.proofs.lemmas.Int.{to_z-of_z}
use mir.Syntax.{w32}
use mir.Val.{SFits}
use borrow.Author.Rules.{rules}
use Rattle.frames.proofs.Writes.{next-fits, next-printed}
use Rattle.frames.proofs.Printed.{next-term, after-inside}
use Rattle.frames.proofs.print.terms.Goals as goal

pub term-requires : goal.term-requires
term-requires c =
    let z : SFits w32 (get_or c.args.cs.now c.loop-z.z-index (pos 0)) = search rules in
    rw (to_z-of_z w32 _ z, c.split_at.ensures.front)
    (next-fits c.loop-z.invariant.printing
    (next-term c.args.d c.args.cs.now c.loop-z.z-index c.loop-z.rest.now (omega arith)) c.requires.room)

pub loop-z-preserved : goal.loop-z-preserved
loop-z-preserved c =
    let z : SFits w32 (get_or c.args.cs.now c.loop-z.z-index (pos 0)) = search rules in
    rw c.split_at.ensures.back (record {
      inside = after-inside (length c.args.cs.now) c.loop-z.z-index c.args.d c.loop-z.rest.now (omega arith)
          c.loop-z.invariant.inside;
      printing = next-printed c.loop-z.invariant.printing
          (next-term c.args.d c.args.cs.now c.loop-z.z-index c.loop-z.rest.now (omega arith))
          (rw (c.term.ensures, to_z-of_z w32 _ z, c.split_at.ensures.front));
    })
