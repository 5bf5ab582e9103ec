-- The first i numbers are those of the first i words.
use Rattle.std.proofs.Common.{◌≡◌, map, take}
use Rattle.rules.specs.Bytes.{long}
use Rattle.bench.proofs.words.decode.Given as goal

abbrev pub invariant-loop-i : goal.invariant-loop-i
invariant-loop-i l = take l.i l.numbers ≡ map long (take l.i l.words)
