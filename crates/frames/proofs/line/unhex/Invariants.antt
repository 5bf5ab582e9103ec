use Rattle.std.proofs.Common.{◌≡◌, ◌/◌, length}
use Rattle.rules.specs.Frames.{all_digits, unhex}
use Rattle.frames.proofs.Pairs.{PairsLeft}
use Rattle.frames.proofs.line.unhex.Given as goal

-- the pairs behind are digits; with the bytes of the pairs that are left the list is what it will be
abbrev pub invariant-loop-pair : goal.invariant-loop-pair
invariant-loop-pair l =
    (l.pair-iterator.size ≡ 2)
    × (all_digits l.pair-iterator.rest.now ≡ all_digits l.digits)
    × PairsLeft unhex l.bytes.items (unhex (length l.digits / 2) l.digits) 37 l.pair-iterator.rest.now
