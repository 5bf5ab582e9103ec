use Rattle.std.proofs.Common.{◌-◌, ◌*◌, ◌≤◌, length, drop}
use Rattle.rules.specs.Frames.{term_lines}
use Rattle.frames.proofs.Writes.{Printing}
use Rattle.frames.proofs.print.terms.Given as goal

-- the terms from z-index on are to come
abbrev pub invariant-loop-z : goal.invariant-loop-z
invariant-loop-z l = record {
  inside : (length l.cs - l.z-index) * l.d ≤ length l.rest;
  printing : Printing l.fn.out.items (term_lines l.d l.cs l.es) l.out.items
      (term_lines l.d (drop l.z-index l.cs) l.rest);
}
