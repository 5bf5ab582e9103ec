use Rattle.std.proofs.Common.{drop}
use Rattle.rules.specs.Frames as frames
use Rattle.frames.proofs.Writes.{Printing}
use Rattle.frames.proofs.print.hex.Given as goal

-- the digits of the bytes from b-index on are to come
abbrev pub invariant-loop-b : goal.invariant-loop-b
invariant-loop-b l = Printing l.fn.out.items (frames.hex l.bs) l.out.items (frames.hex (drop l.b-index l.bs))
