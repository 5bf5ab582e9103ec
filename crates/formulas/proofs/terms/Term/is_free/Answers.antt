use Rattle.std.proofs.Common.{rules, ◌≡◌, length, add-one, arith, ap, sym, of_z, w64}
use mir.Val.{SFits}
use borrow.Author.Tests.{eq-eqb, ne_eqb}
use Rattle.rules.specs.Formulas.{is_none, is_free}
use Rattle.theory.proofs.Loops.{first_start, first_more, first_hit}
use Rattle.formulas.proofs.Weighing.{tested}
use Rattle.formulas.proofs.terms.Term.is_free.Goals as goal

pub loop-i-init : goal.loop-i-init
loop-i-init c = first_start _ 0 0 (omega arith)

pub returns-then-weight-ne0 : goal.returns-then-weight-ne0
unfolding is_free
returns-then-weight-ne0 c =
    let fits : SFits w64 c.weight.result = search rules in
    sym (ap is_none (first_hit _ 0 c.loop-i.i (length c.args.self.now.problem.now.moduli.now) (omega arith) c.loop-i-test.true c.loop-i.invariant
    (tested c.weight.ensures fits (ne_eqb (of_z w64 c.weight.result) 0 c.if-weight-ne0.true))))

pub loop-i-preserved : goal.loop-i-preserved
loop-i-preserved c =
    let fits : SFits w64 c.weight.result = search rules in
    rw add-one (first_more _ 0 c.loop-i.i (omega arith) c.loop-i.invariant
    (tested c.weight.ensures fits (eq-eqb (of_z w64 c.weight.result) 0 c.if-weight-ne0.false)))

pub returns : goal.returns
unfolding is_free
returns c =
    let e : c.loop-i.i ≡ length c.args.self.now.problem.now.moduli.now = omega arith in
    sym (ap is_none (rw e at c.loop-i.invariant))
