use Rattle.std.proofs.Common.{rules, ◌≡◌, ◌+◌, ◌-◌, ◌*◌, ℕ, arith, ◌∙◌, w64}
use mir.Val.{SFits}
use mir.Facts.{to_z-of_z}
use Rattle.whole.specs.Lists.{tab}
use Rattle.whole.proofs.Lists.{tab-cong}
use Rattle.rules.specs.Problem.{Problem, N}
use Rattle.rules.specs.Stages.{run}
use Rattle.rules.specs.Formulas.{k_then_v, translated}
use Rattle.theory.proofs.Sizes.{LimitedExponents}
use Rattle.formulas.specs.declared.translation.Translation.{Translation}
use Rattle.formulas.specs.Translation.{problem_in, v_in}
use Rattle.formulas.proofs.Weighing.{nth-part}
use Rattle.formulas.proofs.Written.{tab-push}
use Rattle.formulas.proofs.KThenV.{k_then_v-alike}
use Rattle.formulas.proofs.Translating.{factors, exponent_is}
use Rattle.formulas.proofs.translation.Translation.translated.Goals as goal
use Rattle.formulas.proofs.translation.Translation.translated.Goals.{After-deref}

small : (s : Translation) (t : ℕ) → LimitedExponents (problem_in s) (v_in s t)
small s t j l = s.formula.small (t * s.problem.now.n + j)

lifted : (c : After-deref) → c.deref.result.now ≡ tab (N (problem_in c.args.self.now)) (k_then_v (problem_in c.args.self.now) (v_in c.args.self.now c.args.t))
lifted c =
    let P : Problem = problem_in c.args.self.now in
    c.deref.ensures.0 ∙ (rw (c.term.ensures.of_problem, c.term.ensures.of_exponents) at c.k_then_v-e.ensures)
    ∙ tab-cong (N P) _ _ (k_then_v-alike P (λ j l. nth-part c.args.self.now.exponents.now (c.args.t * P.n) P.n j l))

pub wide_dot-requires : goal.wide_dot-requires
wide_dot-requires c =
    let s = c.args.self.now in
    factors s.problem.now.well_formed s.solved c.columns-n.ensures.value (v_in s c.args.t) (small s c.args.t)
    (lifted (goal.at.wide_dot-requires c).After-deref) c.loop-i.i c.loop-i-test.true

pub loop-i-preserved : goal.loop-i-preserved
loop-i-preserved c =
    let s = c.args.self.now in
    let P : Problem = problem_in s in
    let g : ℕ = c.loop-i.i - s.rank in
    let next : c.loop-i.i + 1 - s.rank ≡ g + 1 = omega arith in
    let fits : SFits w64 c.wide_dot.result = search rules in
    rw next (tab-push g (translated P (run P) (v_in s c.args.t)) c.push.ensures.items c.loop-i.invariant (to_z-of_z fits ∙ c.wide_dot.ensures
    ∙ exponent_is s.problem.now.well_formed s.solved c.columns-n.ensures.value (v_in s c.args.t) (small s c.args.t)
    (lifted (goal.at.loop-i-preserved c).After-deref) c.loop-i.i c.loop-i-test.true c.loop-i.auto.i))
