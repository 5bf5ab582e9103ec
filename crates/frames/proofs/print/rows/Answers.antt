use Rattle.std.proofs.Common.{◌∙◌, arith}
use Rattle.frames.specs.Output.{kind_byte}
use Rattle.frames.proofs.Writes.{next-fits, next-printed, all-printed}
use Rattle.frames.proofs.Printed.{next-row, rows_none}
use Rattle.frames.proofs.print.rows.Goals as goal

pub row-requires : goal.row-requires
row-requires c =
    let s = c.in-Some.ensures.steps in
    let width = s.1.1 ∙ c.loop-zs.invariant.size in
    next-fits c.loop-zs.invariant.printing
    (next-row (kind_byte c.args.kind) c.args.width _ c.in-Some.zs.now _ c.requires.width_positive s.1.0 width)
    c.requires.room

pub loop-zs-preserved : goal.loop-zs-preserved
loop-zs-preserved c =
    let s = c.in-Some.ensures.steps in
    let width = s.1.1 ∙ c.loop-zs.invariant.size in record {
      size = s.0 ∙ c.loop-zs.invariant.size;
      printing = next-printed c.loop-zs.invariant.printing
          (next-row (kind_byte c.args.kind) c.args.width _ c.in-Some.zs.now _ c.requires.width_positive s.1.0 width)
          c.row.ensures;
    }

pub returns : goal.returns
returns c =
    let s = c.in-None.ensures.steps in
    all-printed c.loop-zs.invariant.printing
    (rows_none (kind_byte c.args.kind) c.args.width _ (omega (arith, s.1.0, c.loop-zs.invariant.size)))
