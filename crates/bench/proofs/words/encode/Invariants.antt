-- The first i numbers stand at the front, the bytes behind are those of the entry.
use Rattle.std.proofs.Common.{◌≡◌, take}
use Rattle.rules.specs.Bytes.{bytes_of}
use Rattle.rules.specs.Calls.{filled}
use Rattle.bench.proofs.words.encode.Given as goal

abbrev pub invariant-loop-i : goal.invariant-loop-i
invariant-loop-i l = l.out ≡ filled (bytes_of (take l.i l.xs)) l.fn.out
