use Rattle.std.proofs.Common.{◌≡◌, false, true, rules, tests, arith}
use Rattle.std.proofs.lemmas.Iterator.{first_from_Range}
use Rattle.rules.specs.Stages.{is_other}
use Rattle.scaling.specs.Scan.{sizes}
use Rattle.scaling.proofs.Finding.{other_of}
use Rattle.scaling.proofs.scan.other.Goals as goal

pub returns : goal.returns
returns c =
    let a = c.args in
    let test = is_other (sizes a.row.now) a.p in
    other_of a.row.now a.p a.lo a.hi c.find.result (first_from_Range _ _ _ _ (λ j. test j ≡ true) (λ j. test j ≡ false) c.find.ensures.ran
    (λ x q k. search (rules, tests)) (λ x q k. (search rules, grind (arith, tests))))
