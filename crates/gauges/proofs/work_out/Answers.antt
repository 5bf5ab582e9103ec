-- Sizes and count come first; the build decides up to 7, and `evaluate` does the rest on the groups that V holds.
use Rattle.std.proofs.Common.{arith, refl, sym, ap, ◌∙◌, List, ℤ, pos, Result}
use Rattle.std.proofs.lemmas.Grind.{common_steps}
use Rattle.std.proofs.lemmas.Result.{err_from_is_err_and}
use lib.ListN.{replicate}
use Rattle.rules.specs.Limits.{room_h, room_v, room_w}
use Rattle.rules.specs.Problem.{Problem}
use Rattle.rules.specs.Calls.{build_of}
use Rattle.checks.specs.declared.Refusal.{Refusal}
use Rattle.checks.specs.Checks.{given}
use Rattle.scaling.specs.declared.Built.{Built}
use Rattle.scaling.specs.Answers.{answer_of}
use Rattle.scaling.specs.BuildPromise.{Builds}
use Rattle.scaling.proofs.Called.{Called}
use Rattle.gauges.specs.Gauging.{set_of, told_of, refusal_of}
use Rattle.gauges.proofs.Called.{refused_for_sizes, refused_for_count, refused_by_build}
use Rattle.gauges.proofs.Called.{well_formed, few-cols, rank_in, table, evaluated}
use Rattle.gauges.proofs.work_out.Goals as goal

-- a build over outputs that are zeros, with room enough
called : {P : Problem} {r : Result Built Refusal} {h v w : List ℤ}
    → Builds (build_of P (replicate room_h (pos 0)) (replicate room_v (pos 0)) (replicate room_w (pos 0))) (answer_of r) h v w
    → Called P (replicate room_h (pos 0)) (replicate room_v (pos 0)) (replicate room_w (pos 0)) r h v w
called b = record { builds = b; room = refl }

pub returns-then-not-sizes_in_range : goal.returns-then-not-sizes_in_range
returns-then-not-sizes_in_range c =
    let e = refused_for_sizes (given c.args.m c.args.n c.args.matrix.now c.args.moduli.now) (set_of c.args.readings) c.args.group (sym c.if-not-sizes_in_range.ensures) in
    grind (arith, common_steps, e)

pub returns-then-readings-n : goal.returns-then-readings-n
returns-then-readings-n c =
    sym (refused_for_count _ (set_of c.args.readings) c.args.group (sym c.if-not-sizes_in_range.ensures) c.if-readings-n.true)

pub returns-in_err-built : goal.returns-in_err-built
returns-in_err-built c =
    let e = err_from_is_err_and c.from_residual.result c.from_residual.ensures.1 in
    ap told_of e.1 ∙ ap refusal_of e.2 ∙ sym (refused_by_build (called c.build.ensures) (set_of c.args.readings) c.args.group c.if-readings-n.false c.in_err-built.was)

pub overflow_mul-groups : goal.overflow_mul-groups
overflow_mul-groups c = omega (arith, (table (called c.build.ensures) c.in_ok-built.was (omega arith)).begins)

pub overflow_add-groups : goal.overflow_add-groups
overflow_add-groups c = omega (arith, (table (called c.build.ensures) c.in_ok-built.was (omega arith)).begins)

pub overflow_sub-groups : goal.overflow_sub-groups
overflow_sub-groups c = rank_in (called c.build.ensures) c.in_ok-built.was

pub overflow_cast-groups : goal.overflow_cast-groups
overflow_cast-groups c = omega (arith, few-cols (called c.build.ensures) c.in_ok-built.was)

pub invariant_of-groups : goal.invariant_of-groups
invariant_of-groups c = record {
  few = (well_formed (called c.build.ensures) c.in_ok-built.was).n-high;
  table = table (called c.build.ensures) c.in_ok-built.was (omega arith);
}

pub returns : goal.returns
returns c = c.evaluate.ensures ∙ evaluated (called c.build.ensures) c.in_ok-built.was (set_of c.args.readings) c.args.group c.if-readings-n.false
