use Rattle.std.proofs.Common.{drop}
use Rattle.rules.specs.Bytes.{bytes_of}
use Rattle.rules.specs.Frames as frames
use Rattle.frames.proofs.Writes.{Printing}
use Rattle.frames.proofs.print.numbers.Given as goal

-- the numbers from z-index on are to come
abbrev pub invariant-loop-z : goal.invariant-loop-z
invariant-loop-z l =
    Printing l.fn.out.items (frames.hex (bytes_of l.zs)) l.out.items (frames.hex (bytes_of (drop l.z-index l.zs)))
