use Rattle.std.proofs.Common.{rules, ◌≡◌, ◌<◌, ◌+◌, ℕ, ℤ, get_or, arith, ap, sym, ◌∙◌, w32, w64}
use mir.Val.{SFits}
use mir.Facts.{to_z-of_z}
use lib.Signed.{quot_z}
use Rattle.rules.specs.Problem.{Problem, modulus, s}
use Rattle.rules.specs.Formulas.{row_times, k_of, k_then_v}
use Rattle.theory.proofs.Weights.{k_then_v_first, k_then_v-rest}
use Rattle.formulas.specs.Term.{problem_at, v_at}
use Rattle.formulas.proofs.Written.{tab-push}
use Rattle.formulas.proofs.KThenV.{listed-modulus}
use Rattle.formulas.proofs.terms.Term.k_then_v.Goals as goal

pub k_of-requires : goal.k_of-requires
k_of-requires c =
    let e = c.modulus_rows-i-items.ensures.value in
    rw e (listed-modulus c.args.self.now.problem.now.well_formed c.loop-i.i-index (rw e at c.loop-i-test.true))

pub loop-i-preserved : goal.loop-i-preserved
unfolding k_of
loop-i-preserved c =
    let P : Problem = problem_at c.args.self.now in
    let v : ℕ → ℤ = v_at c.args.self.now in
    let e = c.modulus_rows-i-items.ensures.value in
    let within : c.loop-i.i-index < s P = rw e at c.loop-i-test.true in
    let fits : SFits w64 c.k_of.result = search rules in
    tab-push c.loop-i.i-index (k_then_v P v) c.push.ensures.items c.loop-i.invariant
    (to_z-of_z fits ∙ c.k_of.ensures ∙ ap (λ l. quot_z (row_times P v (get_or l c.loop-i.i-index 0)) (modulus P (get_or l c.loop-i.i-index 0))) e
    ∙ sym (k_then_v_first P v c.loop-i.i-index within))

pub loop-z-preserved : goal.loop-z-preserved
loop-z-preserved c =
    let P : Problem = problem_at c.args.self.now in
    let v : ℕ → ℤ = v_at c.args.self.now in
    let j : ℕ = c.loop-z.z-index in
    let one_more : s P + (j + 1) ≡ s P + j + 1 = omega arith in
    let narrow : SFits w32 (v j) = search rules in
    let fits : SFits w64 c.from.result = search rules in
    rw one_more (tab-push (s P + j) (k_then_v P v) c.push-in-loop-z.ensures.items c.loop-z.invariant
    (to_z-of_z fits ∙ c.from.ensures ∙ to_z-of_z narrow ∙ sym (k_then_v-rest P v j)))
