use Rattle.std.proofs.Common.{◌≡◌, false, true, rules, tests, arith}
use Rattle.std.proofs.lemmas.Iterator.{first_from_Range}
use Rattle.scaling.specs.Scan.{in_range}
use Rattle.scaling.proofs.Finding.{unreduced_of}
use Rattle.scaling.proofs.scan.unreduced.Goals as goal

pub returns : goal.returns
returns c =
    let a = c.args in
    let test = in_range a.row.now a.b in
    unreduced_of a.row.now a.b a.lo a.hi c.find.result (first_from_Range _ _ _ _ (λ j. test j ≡ false) (λ j. test j ≡ true) c.find.ensures.ran
    (λ x q k. search (rules, tests)) (λ x q k. (search rules, grind (arith, tests))))
