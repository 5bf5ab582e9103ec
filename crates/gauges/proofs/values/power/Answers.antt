use Rattle.std.proofs.Common.{◌≡◌, arith, ◌∙◌, refl}
use Rattle.std.proofs.lemmas.Int.{to_z-of_z}
use Rattle.gauges.proofs.Units.{all_made, one_more, by_quotient, by_product}
use Rattle.gauges.proofs.values.power.Goals as goal
use Rattle.gauges.proofs.values.power.Goals.{then-e-lt0, else-e-lt0}

pub loop-init : goal.loop-init
loop-init c = record { made = refl }

pub loop-preserved : goal.loop-preserved
loop-preserved c =
    one_more c.loop.invariant
    (elim c.if-e-lt0.branch [ then-e-lt0 w ↦ by_quotient w.if-e-lt0.true w.r-is | else-e-lt0 w ↦ by_product w.if-e-lt0.false w.r-is ])

pub returns : goal.returns
returns c =
    let k : c.loop.counter ≡ c.unsigned_abs-end.result = omega arith in
    simp (to_z-of_z, c.ranges.e) at (all_made c.loop.invariant (k ∙ c.unsigned_abs-end.ensures.value))
