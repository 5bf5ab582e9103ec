use Rattle.std.proofs.Common.{◌≡◌, ◌≤◌, nat_abs, length, take, refl, arith, ◌∙◌}
use Rattle.std.proofs.lemmas.Result.{err_from_is_err_and}
use Rattle.rules.specs.Limits.{M}
use Rattle.rules.specs.Formulas.{weight}
use Rattle.scaling.proofs.Filling.{front-turn}
use Rattle.formulas.specs.Term.{problem_at, v_at}
use Rattle.formulas.proofs.Sums.{narrowed}
use Rattle.formulas.proofs.WeighCall.{weigh_refused, monomial, all_written, weigh_passed}
use Rattle.formulas.proofs.weigh.Goals as goal

pub returns-in_err-problem : goal.returns-in_err-problem
returns-in_err-problem c =
    let p = err_from_is_err_and c.from_residual.result c.from_residual.ensures.1 in
    rw (p.1, p.2) (weigh_refused c.args.weights.now c.formula.ensures c.in_err-problem.was)

pub new-term-requires : goal.new-term-requires
new-term-requires c = monomial c.args.weights.now c.formula.ensures c.in_ok-problem.was

pub loop-i-init : goal.loop-i-init
loop-i-init c = refl

pub loop-i-preserved : goal.loop-i-preserved
loop-i-preserved c =
    let t = c.new-term.result in
    let small : nat_abs c.weight.result ≤ M = omega (arith, c.weight.ensures.small) in
    front-turn (take (length c.args.moduli.now) c.args.weights.now) (weight (problem_at t) (v_at t)) c.loop-i.i c.loop-i.invariant
    (narrowed c.weight.result small ∙ c.weight.ensures.is) (omega arith)

pub returns : goal.returns
returns c =
    let e = rw (c.new-term.ensures.of_problem, c.new-term.ensures.of_exponents) at c.loop-i.invariant in
    let all : c.loop-i.i ≡ length (take (length c.args.moduli.now) c.args.weights.now) = omega arith in
    weigh_passed c.args.weights.now c.formula.ensures c.in_ok-problem.was (all_written c.args.weights.now c.formula.ensures c.in_ok-problem.was c.loop-i.i all e)
