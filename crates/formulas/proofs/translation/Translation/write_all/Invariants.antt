use Rattle.std.proofs.Common.{◌≡◌, ◌++◌, drop}
use Rattle.whole.specs.Lists.{nth, tab}
use Rattle.formulas.specs.Translation.{problem_in, formula_in, groups_in}
use Rattle.formulas.proofs.GridRows.{begun}
use Rattle.formulas.proofs.Judging.{exponents_of}
use Rattle.formulas.proofs.translation.Translation.write_all.Given as goal

-- the coefficients and the exponents of the terms before t are written, the other entries are as they were
abbrev pub invariant-loop-t : goal.invariant-loop-t
invariant-loop-t l =
    (l.out ≡ begun (groups_in l.self) (exponents_of (problem_in l.self) (formula_in l.self)) l.fn.out l.t)
    × (l.kept ≡ tab l.t (nth l.self.coefficients.now) ++ drop l.t l.fn.kept)
