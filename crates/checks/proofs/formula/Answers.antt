-- `formula`: the last check, of the exponents.
use Rattle.std.proofs.Common.{length, subst, refl, sym, ap, ◌∙◌, [], ◌∷◌}
use Rattle.rules.specs.Limits.{exponent_in_range}
use Rattle.rules.specs.Calls.{exponents_check}
use Rattle.checks.specs.Checks.{finding, terms_fit, TellsTo5}
use Rattle.checks.proofs.Found.{out-position}
use Rattle.checks.proofs.Verdicts.{refuses-here, says-next, past_5}
use Rattle.checks.proofs.formula.Goals as goal
use Rattle.checks.proofs.formula.Goals.{After-first_out}

-- the problem's checks, with the formula's lengths among them
told : (c : After-first_out) → TellsTo5 c.args.m c.args.n c.args.matrix.now c.args.moduli.now (terms_fit c.args.n c.args.terms (length c.args.exponents.now)) c.args.outputs c.problem.result
told c = subst (λ x. TellsTo5 c.args.m c.args.n c.args.matrix.now c.args.moduli.now x c.args.outputs c.problem.result) c.formula_fits-more.ensures c.problem.ensures

pub returns-in-Some : goal.returns-in-Some
returns-in-Some c =
    let t = (goal.at.returns-in-Some c).After-first_out in
    let e = exponents_check c.args.exponents.now in
    record {
      says = rw (past_5 (told t) t.in_ok-checked.was (e ∷ [])) (refuses-here e [] c.in-Some.i
          ((out-position exponent_in_range c.args.exponents.now) ∙ ap finding (sym c.first_out.ensures ∙ c.in-Some.is)));
      same = tt;
    }

pub returns-in-None : goal.returns-in-None
returns-in-None c =
    let t = (goal.at.returns-in-None c).After-first_out in
    let e = exponents_check c.args.exponents.now in
    record {
      says = rw (past_5 (told t) t.in_ok-checked.was (e ∷ [])) (says-next e []
          ((out-position exponent_in_range c.args.exponents.now) ∙ ap finding (sym c.first_out.ensures ∙ c.in-None.is)) refl);
      same = (rw t.in_ok-checked.was at (told t).same);
    }
