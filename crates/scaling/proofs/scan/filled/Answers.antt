use Rattle.std.proofs.Common.{◌≡◌, ℕ, false, true, not, eqb, rules, tests, arith}
use Rattle.std.proofs.lemmas.Iterator.{first_from_Range}
use Rattle.scaling.specs.Scan.{sizes}
use Rattle.scaling.proofs.Finding.{filled_of}
use Rattle.scaling.proofs.scan.filled.Goals as goal

pub returns : goal.returns
returns c =
    let a = c.args in
    let test = λ (j : ℕ). not (eqb (sizes a.row.now j) 0) in
    filled_of a.row.now a.lo a.hi c.find.result (first_from_Range _ _ _ _ (λ j. test j ≡ true) (λ j. test j ≡ false) c.find.ensures.ran
    (λ x q k. search (rules, tests)) (λ x q k. (search rules, grind (arith, tests))))
