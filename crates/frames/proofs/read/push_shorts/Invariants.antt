use Rattle.std.proofs.Common.{◌≡◌, ◌++◌, ◌/◌, length}
use Rattle.rules.specs.Bytes.{shorts}
use Rattle.frames.proofs.Pairs.{PairsLeft}
use Rattle.frames.proofs.read.push_shorts.Given as goal

-- with the numbers of the bytes that are left the list is what it will be
abbrev pub invariant-loop-pair : goal.invariant-loop-pair
invariant-loop-pair g l =
    (l.pair-iterator.size ≡ 2)
    × PairsLeft shorts l.list.items (l.initial.list.items ++ shorts (length l.bytes / 2) l.bytes) g.row.N l.pair-iterator.rest.now
