use Rattle.std.proofs.Common.{◌≡◌}
use Rattle.frames.specs.Output.{kind_byte, rows_text}
use Rattle.frames.proofs.Writes.{Printing}
use Rattle.frames.proofs.print.rows.Given as goal

-- the rows that are left are to come
abbrev pub invariant-loop-zs : goal.invariant-loop-zs
invariant-loop-zs l = record {
  size : l.zs-iterator.size ≡ l.width;
  printing : Printing l.fn.out.items (rows_text (kind_byte l.kind) l.width l.zs) l.out.items
      (rows_text (kind_byte l.kind) l.width l.zs-iterator.rest.now);
}
