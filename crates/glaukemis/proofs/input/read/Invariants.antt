-- What is held stands at the start of the buffer, and is what the input gave; each read leaves less room.
use Rattle.std.proofs.Common.{length, ◌-◌, ◌≤◌, take}
use Rattle.std.specs.Io.KnownBytes.{Consumes}
use Rattle.glaukemis.proofs.input.read.Given as goal

abbrev pub invariant-loop-len : goal.invariant-loop-len
invariant-loop-len g l = (l.len ≤ length l.buf) × Consumes (g.R.Read.remaining l.fn.input) (g.R.Read.remaining l.input) (take l.len l.buf)

abbrev pub decreases-loop-len : goal.decreases-loop-len
decreases-loop-len g l = length l.initial.buf - l.len
