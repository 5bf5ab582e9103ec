use Rattle.std.proofs.Common.{◌≡◌}
use Rattle.scaling.specs.Scan.{sizes}
use Rattle.scaling.proofs.RowScan.{Best}
use Rattle.scaling.proofs.AllRows.{Rowed}
use Rattle.scaling.proofs.work.Work.rows.Given as goal

-- best is the best column of those before the columns that are left
abbrev pub invariant-loop-j : goal.invariant-loop-j
invariant-loop-j l = record { best : Best (sizes l.x) l.lo l.a l.columns.start l.best; end : l.columns.end ≡ l.a }

-- what is left to do after the rows done is what the whole was at the start
abbrev pub invariant-rows : goal.invariant-rows
invariant-rows l = Rowed l.which l.lo l.k l.fn.self l.self l.a
