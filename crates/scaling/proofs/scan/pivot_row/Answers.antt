use Rattle.std.proofs.Common.{◌+◌, ◌*◌, ◌<◌, not, eqb, nat_abs, ℕ, ap, length, rules, tests, arith}
use Rattle.whole.specs.Lists.{nth}
use Rattle.scaling.proofs.Places.{cell}
use Rattle.scaling.proofs.Finding.{serves_down, last_from_down, lowest_of}
use Rattle.scaling.proofs.scan.pivot_row.Goals as goal

pub find-requires-clause-callable : goal.find-requires-clause-callable
find-requires-clause-callable c = serves_down (λ x q k. search (rules, tests)) (λ x high.
    let a = c.args in
    let i : a.c + x * a.cols < length a.v.now = omega (arith, cell {j = a.c} {n = a.cols} {k = x} {m = a.cols} c.requires.0 (omega (arith, ap (λ r. r.end) c.rev.ensures.source))) in
    search rules)

pub returns : goal.returns
returns c =
    let a = c.args in
    let test = λ (k : ℕ). not (eqb (nat_abs (nth a.v.now (a.c + k * a.cols))) 0) in
    lowest_of a.v.now a.cols a.c c.find.result (rw c.rev.ensures.source at (last_from_down _ _ _ _ test c.find.ensures.ran (ap (λ r. r.start) c.rev.ensures.source)
    (λ x q k. search (rules, tests)) (λ x q k. (search rules, grind (arith, tests)))))
