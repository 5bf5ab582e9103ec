use Rattle.std.proofs.Common.{◌≡◌, ◌≤◌, ◌<◌, ℕ, ℤ, pos, nat_abs, length, arith, ap, ◌∙◌}
use Rattle.whole.specs.Lists.{nth}
use Rattle.whole.proofs.Lists.{length-tab, nth-tab}
use Rattle.rules.specs.Limits.{M}
use Rattle.rules.specs.Stages.{run}
use Rattle.rules.specs.Formulas.{translated}
use Rattle.theory.proofs.Accepted.{term-accepted}
use Rattle.scaling.proofs.Filling.{front-turn}
use Rattle.formulas.specs.declared.translation.Translation.{Translation}
use Rattle.formulas.specs.Translation.{problem_in, v_in, groups_in}
use Rattle.formulas.proofs.Sums.{narrows, narrowed}
use Rattle.formulas.proofs.translation.Translation.write_term.Goals as goal
use Rattle.formulas.proofs.translation.Translation.write_term.Goals.{After-deref}

abbrev exponent : Translation → (t g : ℕ) → ℤ
exponent s t = translated (problem_in s) (run (problem_in s)) (v_in s t)

within : (c : After-deref) → c.loop-g.g < groups_in c.args.self.now
within c = omega (arith, c.requires.long)

value : (c : After-deref) → nth c.deref.result.now c.loop-g.g ≡ exponent c.args.self.now c.args.t c.loop-g.g
value c =
    ap (λ l. nth l c.loop-g.g) (c.deref.ensures.0 ∙ c.translated-x.ensures)
    ∙ nth-tab (groups_in c.args.self.now) (exponent c.args.self.now c.args.t) c.loop-g.g (pos 0) (within c)

small : (c : After-deref) → nat_abs (exponent c.args.self.now c.args.t c.loop-g.g) ≤ M
small c =
    let s = c.args.self.now in
    (term-accepted (problem_in s) (run (problem_in s)) (v_in s c.args.t) c.requires.taken).1 c.loop-g.g (within c)

pub bounds-deref-g : goal.bounds-deref-g
bounds-deref-g c =
    let s = c.args.self.now in
    omega (arith, ap length (c.deref.ensures.0 ∙ c.translated-x.ensures), length-tab (groups_in s) (exponent s c.args.t), within (goal.at.bounds-deref-g c).After-deref)

pub overflow_cast-y : goal.overflow_cast-y
overflow_cast-y c =
    let f = (goal.at.overflow_cast-y c).After-deref in
    rw (value f) (narrows (exponent c.args.self.now c.args.t c.loop-g.g) (small f))

pub loop-g-preserved : goal.loop-g-preserved
loop-g-preserved c =
    let f = (goal.at.loop-g-preserved c).After-deref in
    let s = c.args.self.now in
    front-turn c.args.out.now (exponent s c.args.t) c.loop-g.g c.loop-g.invariant
    (rw (value f) (narrowed (exponent s c.args.t c.loop-g.g) (small f))) (omega arith)
