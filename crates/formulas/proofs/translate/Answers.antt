use Rattle.std.proofs.Common.{◌≡◌, ◌&&◌, leb, length, refl, subst}
use Rattle.std.proofs.lemmas.Result.{err_from_is_err_and}
use borrow.Author.Tests.{le-leb, lt-leb}
use Rattle.rules.specs.Limits.{room_coefficients, room_exponents}
use Rattle.checks.specs.Checks.{TellsTo6}
use Rattle.formulas.proofs.Built.{solved}
use Rattle.formulas.proofs.TranslateCall.{well_formed, translate_refused, translate_refused_at_7, translate_passed}
use Rattle.formulas.proofs.translate.Goals as goal
use Rattle.formulas.proofs.translate.Goals.{After-formula, then-kept-ge-ROOM_COEFFICIENTS, else-kept-ge-ROOM_COEFFICIENTS}

-- checks 1 to 6, with the tests of the outputs written out
told : (c : After-formula) → TellsTo6 c.args.m c.args.n c.args.matrix.now c.args.moduli.now (length c.args.coefficients.now) c.args.exponents.now
    (leb room_coefficients (length c.args.kept.now) && leb room_exponents (length c.args.translated.now)) c.formula.result
told c =
    let both : c.if-kept-ge-ROOM_COEFFICIENTS.outputs ≡ leb room_coefficients (length c.args.kept.now) && leb room_exponents (length c.args.translated.now) =
    elim c.if-kept-ge-ROOM_COEFFICIENTS.branch [
      | then-kept-ge-ROOM_COEFFICIENTS w ↦ rw (le-leb 64 (length c.args.kept.now) w.if-kept-ge-ROOM_COEFFICIENTS.true) w.outputs-is
      | else-kept-ge-ROOM_COEFFICIENTS w ↦ rw (w.outputs-is, lt-leb 64 (length c.args.kept.now) w.if-kept-ge-ROOM_COEFFICIENTS.false)
    ] in
    subst (λ x. TellsTo6 c.args.m c.args.n c.args.matrix.now c.args.moduli.now (length c.args.coefficients.now) c.args.exponents.now x c.formula.result) both
    c.formula.ensures

pub returns-in_err-problem : goal.returns-in_err-problem
returns-in_err-problem c =
    let p = err_from_is_err_and c.from_residual.result c.from_residual.ensures.1 in
    rw (p.1, p.2) (translate_refused c.args.coefficients.now c.args.kept.now c.args.translated.now
    (told (goal.at.returns-in_err-problem c).After-formula) c.in_err-problem.was)

pub returns-in_err-built : goal.returns-in_err-built
returns-in_err-built c =
    let p = err_from_is_err_and c.from_residual-in_err-built.result c.from_residual-in_err-built.ensures.1 in
    rw (p.1, p.2) (translate_refused_at_7 c.args.coefficients.now c.args.kept.now c.args.translated.now
    (told (goal.at.returns-in_err-built c).After-formula) c.in_ok-problem.was (record { builds = c.build.ensures; room = refl }) c.in_err-built.was)

pub invariant_of-translation-clause-formula : goal.invariant_of-translation-clause-formula
invariant_of-translation-clause-formula c =
    well_formed c.args.coefficients.now c.args.kept.now c.args.translated.now (told (goal.at.invariant_of-translation-clause-formula c).After-formula) c.in_ok-problem.was

pub invariant_of-translation-clause-solved : goal.invariant_of-translation-clause-solved
invariant_of-translation-clause-solved c =
    solved (told (goal.at.invariant_of-translation-clause-solved c).After-formula) c.in_ok-problem.was (record { builds = c.build.ensures; room = refl }) c.in_ok-built.was
    c.build.auto.w

pub returns : goal.returns
returns c =
    translate_passed c.args.coefficients.now c.args.kept.now c.args.translated.now (told (goal.at.returns c).After-formula) c.in_ok-problem.was
    (record { builds = c.build.ensures; room = refl }) c.in_ok-built.was c.translate.ensures
