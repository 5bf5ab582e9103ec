use Rattle.scaling.specs.Rows.{left}
use Rattle.scaling.proofs.work.Work.+eliminate.Given as goal

-- each repetition makes the sum of the absolute values in the active columns smaller
abbrev pub decreases-eliminate : goal.decreases-eliminate
decreases-eliminate l = left l.which l.self l.row l.lo l.a
