-- `problem`: the last two checks, and what the problem that has passed them is.
use Rattle.std.proofs.Common.{◌≡◌, ◌&&◌, [], true, rules, sym, ap, refl, ◌∙◌}
use Rattle.rules.specs.Limits.{sizes_in_range, modulus_in_range, entry_in_range}
use Rattle.rules.specs.Search.{none}
use lib.Seq.{take_all}
use Rattle.rules.specs.Problem.{modulus_rows_from}
use Rattle.rules.specs.Calls.{problem_fits, first_out, verdict, taken}
use Rattle.checks.specs.Checks.{given, finding}
use Rattle.checks.proofs.Found.{out-position}
use Rattle.checks.proofs.Verdicts.{Passed, to5, five-passed}
use Rattle.checks.proofs.problem.Goals as goal
use Rattle.checks.proofs.problem.Goals.{After-first_out, After-first_out-2, After-modulus_rows}

-- what the checks that are passed have shown
module _ (c : After-first_out) where
  sizes : sizes_in_range c.args.m c.args.n ≡ true
  sizes = sym c.sizes_in_range.ensures ∙ c.if-not-sizes_in_range.false

  inputs : (problem_fits (given c.args.m c.args.n c.args.matrix.now c.args.moduli.now) && c.args.more) ≡ true
  inputs = search rules

moduli : (c : After-first_out-2) → first_out modulus_in_range c.args.moduli.now ≡ none
moduli c = (out-position modulus_in_range c.args.moduli.now) ∙ ap finding (sym c.first_out.ensures ∙ c.in_default.is)

all : (c : After-modulus_rows) → taken ≡ verdict (to5 c.args.m c.args.n c.args.matrix.now c.args.moduli.now c.args.more c.args.outputs)
all c =
    let t = (goal.at.invariant_of-result c).After-first_out in
    let u = (goal.at.invariant_of-result c).After-first_out-2 in
    let p = (out-position entry_in_range c.args.matrix.now) ∙ ap finding (sym c.first_out-2.ensures ∙ c.in_default-first_out.is) in
    rw (sizes t, inputs t, c.if-not-outputs.false, moduli u, p) refl

passed : (c : After-modulus_rows) → Passed c.args.m c.args.n c.args.matrix.now c.args.moduli.now c.args.more c.args.outputs
passed c = five-passed c.args.m c.args.n c.args.matrix.now c.args.moduli.now c.args.more c.args.outputs [] (sym (all c))

pub returns-in-Some : goal.returns-in-Some
returns-in-Some c =
    let t = (goal.at.returns-in-Some c).After-first_out in
    let p = (out-position modulus_in_range c.args.moduli.now) ∙ ap finding (sym c.first_out.ensures ∙ c.in-Some.is) in
    record { says = rw (sizes t, inputs t, c.if-not-outputs.false, p) refl; same = tt }

pub returns-in-Some-first_out : goal.returns-in-Some-first_out
returns-in-Some-first_out c =
    let t = (goal.at.returns-in-Some-first_out c).After-first_out in
    let u = (goal.at.returns-in-Some-first_out c).After-first_out-2 in
    let p = (out-position entry_in_range c.args.matrix.now) ∙ ap finding (sym c.first_out-2.ensures ∙ c.in-Some-first_out.is) in
    record { says = rw (sizes t, inputs t, c.if-not-outputs.false, moduli u, p) refl; same = tt }

pub invariant_of-result : goal.invariant_of-result
invariant_of-result c = record {
  well_formed = (passed c).well_formed;
  rows_told = c.modulus_rows.ensures.array;
  rows_listed = c.modulus_rows.ensures.list ∙ ap (modulus_rows_from 0) (take_all 8 c.args.moduli.now (passed c).well_formed.m-high);
}

pub returns : goal.returns
returns c = let t = (goal.at.returns c).After-modulus_rows in record { says = all t; same = sym (passed t).same }
