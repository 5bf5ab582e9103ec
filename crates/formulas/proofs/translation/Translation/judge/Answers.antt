use Rattle.std.proofs.Common.{rules, tests, ◌≡◌, ◌*◌, sym, ap, ◌∙◌}
use Rattle.std.specs.List.{list_any}
use Rattle.std.proofs.lemmas.Iterator.{YieldsList-from_slice}
use Rattle.std.proofs.lemmas.Iterator.Search.{any_from_yields_List}
use Rattle.rules.specs.Limits.{beyond}
use Rattle.rules.specs.Problem.{Problem}
use Rattle.rules.specs.Stages.{run}
use Rattle.rules.specs.Formulas.{is_free, passes}
use Rattle.formulas.specs.Translation.{problem_in, v_in}
use Rattle.formulas.proofs.Weighing.{nth-part}
use Rattle.formulas.proofs.KThenV.{free-alike}
use Rattle.formulas.proofs.Judging.{judged_by, judged-not_free, passes_is}
use Rattle.formulas.proofs.translation.Translation.judge.Goals as goal
use Rattle.formulas.proofs.translation.Translation.judge.Goals.{After-is_free, After-any}

free : (c : After-is_free) → c.is_free.result ≡ is_free (problem_in c.args.self.now) (v_in c.args.self.now c.args.t)
free c =
    let P : Problem = problem_in c.args.self.now in
    (rw (c.term.ensures.of_problem, c.term.ensures.of_exponents) at c.is_free.ensures)
    ∙ free-alike P (λ j l. nth-part c.args.self.now.exponents.now (c.args.t * P.n) P.n j l)

large : (c : After-any) → c.any.result ≡ passes (problem_in c.args.self.now) (run (problem_in c.args.self.now)) (v_in c.args.self.now c.args.t)
large c =
    any_from_yields_List beyond _ _ c.any.result c.any.ensures.ran (YieldsList-from_slice c.deref.result.now cc) (λ x b q k. search (rules, tests))
    ∙ ap (list_any beyond) (c.deref.ensures.0 ∙ c.translated.ensures) ∙ passes_is (problem_in c.args.self.now) (v_in c.args.self.now c.args.t)

pub returns-then-not-is_free : goal.returns-then-not-is_free
returns-then-not-is_free c = judged-not_free _ _ _ (sym (free (goal.at.returns-then-not-is_free c).After-is_free) ∙ c.if-not-is_free.true)

pub returns-then-any : goal.returns-then-any
returns-then-any c =
    let a = goal.at.returns-then-any c in
    judged_by _ _ _ (sym (free a.After-is_free) ∙ c.if-not-is_free.false) (sym (large a.After-any) ∙ c.if-any.true)

pub returns : goal.returns
returns c =
    let a = goal.at.returns c in
    judged_by _ _ _ (sym (free a.After-is_free) ∙ c.if-not-is_free.false) (sym (large a.After-any) ∙ c.if-any.false)
