use Rattle.std.proofs.Common.{rules, ◌≡◌, ◌≢◌, ◌∙◌, pos, refl, sym, ap₂, arith, to_z, of_z}
use mir.Syntax.{w32, w64}
use mir.Val.{SFits}
use mir.Facts.{to_z-of_z}
use lib.Signed.{rem_z}
use borrow.Author.Tests.{eq-eqb, ne_eqb}
use Rattle.whole.proofs.Tests.{passed, failed}
use Rattle.whole.proofs.Order.{fits}
use Rattle.whole.proofs.Division.{rem-le}
use Rattle.rules.specs.Problem.{Problem, modulus}
use Rattle.theory.proofs.Weights.{weight_without, weight_with}
use Rattle.theory.proofs.Limits.{is_zero?}
use Rattle.formulas.specs.Term.{problem_at, v_at}
use Rattle.checks.proofs.Values.{zero_bits}
use Rattle.formulas.proofs.Weighing.{is_weight}
use Rattle.formulas.proofs.terms.Term.weight.Goals as goal

pub returns-then-p-eq0 : goal.returns-then-p-eq0
returns-then-p-eq0 c =
    let t = c.args.self.now in
    let P : Problem = problem_at t in
    let p : SFits w32 (modulus P c.args.i) = search rules in
    let r : SFits w64 c.row_times-x.result = search rules in
    let z : modulus P c.args.i ≡ pos 0 = passed (is_zero? (modulus P c.args.i)) (sym (zero_bits w32 refl (modulus P c.args.i) p) ∙ eq-eqb _ _ c.if-p-eq0.true) in
    is_weight t.problem.now.well_formed t.monomial c.args.i _
    (to_z-of_z r ∙ c.row_times-x.ensures.is ∙ sym (weight_without P (v_at t) c.args.i z))

pub returns-else-p-eq0 : goal.returns-else-p-eq0
returns-else-p-eq0 c =
    let t = c.args.self.now in
    let P : Problem = problem_at t in
    let p : SFits w32 (modulus P c.args.i) = search rules in
    let r : SFits w64 c.row_times-x.result = search rules in
    let q : SFits w64 c.from.result = search rules in
    let d : modulus P c.args.i ≢ pos 0 = failed (is_zero? (modulus P c.args.i)) (sym (zero_bits w32 refl (modulus P c.args.i) p) ∙ ne_eqb _ _ c.if-p-eq0.false) in
    let w : SFits w64 (rem_z c.row_times-x.result c.from.result) = fits w64 _ (omega (arith, c.row_times-x.ensures.small, rem-le c.row_times-x.result c.from.result)) in
    is_weight t.problem.now.well_formed t.monomial c.args.i _
    (ap₂ (λ x y. to_z w64 (of_z w64 (rem_z x y))) (to_z-of_z r) (to_z-of_z q) ∙ to_z-of_z w
    ∙ ap₂ rem_z c.row_times-x.ensures.is (c.from.ensures ∙ to_z-of_z p) ∙ sym (weight_with P (v_at t) c.args.i d))
