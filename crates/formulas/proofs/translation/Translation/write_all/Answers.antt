use Rattle.std.proofs.Common.{◌≡◌, ◌+◌, ◌-◌, ◌*◌, ◌++◌, ℕ, ℤ, pos, List, length, drop, arith, ap, sym, ◌∙◌, rules}
use mir.Facts.{to_z-of_z}
use lib.Seq.{take-length}
use mir.Syntax.{w32}
use mir.Val.{SFits}
use Rattle.whole.specs.Lists.{nth}
use Rattle.rules.specs.Formulas.{terms}
use Rattle.rules.specs.Calls.{filled, grid, translated_exponents}
use Rattle.theory.proofs.Grid.{length-grid}
use Rattle.whole.specs.Matrix.{Matrix}
use Rattle.scaling.proofs.Filling.{front-turn, filled-front}
use Rattle.formulas.specs.Translation.{problem_in, formula_in, groups_in}
use Rattle.formulas.proofs.GridRows.{row_written}
use Rattle.formulas.proofs.Judging.{exponents_of}
use Rattle.formulas.proofs.translation.Translation.write_all.Goals as goal

pub loop-t-preserved : goal.loop-t-preserved
loop-t-preserved c =
    let s = c.args.self.now in
    let t : ℕ = c.loop-t.t in
    let one : (t + 1) * groups_in s - t * groups_in s ≡ groups_in s = omega arith in
    let entry : SFits w32 (nth s.coefficients.now t) = search rules in (
      rw (c.groups-d.ensures, one, c.write_term.ensures, c.loop-t.invariant.0)
          (row_written (groups_in s) (exponents_of (problem_in s) (formula_in s)) c.args.out.now t),
      front-turn c.args.kept.now (nth s.coefficients.now) t c.loop-t.invariant.1 (to_z-of_z entry)
          (omega (arith, s.formula.few, c.requires.room.kept)),
    )

pub returns-clause-kept_after : goal.returns-clause-kept_after
returns-clause-kept_after c =
    let cs : List ℤ = c.args.self.now.coefficients.now in
    let all : c.loop-t.t ≡ length cs = omega arith in
    (rw all at c.loop-t.invariant.1)
    ∙ filled-front (length cs) cs c.args.kept.now (pos 0) (omega arith) ∙ ap (λ l. filled l c.args.kept.now) (take-length cs)

pub returns-clause-out_after : goal.returns-clause-out_after
unfolding translated_exponents
returns-clause-out_after c =
    let s = c.args.self.now in
    let A : Matrix = exponents_of (problem_in s) (formula_in s) in
    let all : c.loop-t.t ≡ terms (formula_in s) = omega arith in
    (rw all at c.loop-t.invariant.0)
    ∙ ap (λ k. grid (terms (formula_in s)) (groups_in s) A ++ drop k c.args.out.now) (sym (length-grid (terms (formula_in s)) (groups_in s) A))
