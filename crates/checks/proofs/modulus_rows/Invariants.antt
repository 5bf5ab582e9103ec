use Rattle.checks.proofs.Listing.{Listed}
use Rattle.checks.proofs.modulus_rows.Given as goal

abbrev pub invariant-loop-i : goal.invariant-loop-i
invariant-loop-i l = Listed l.first l.i l.listed
