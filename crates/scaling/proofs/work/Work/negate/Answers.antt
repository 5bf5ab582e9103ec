-- `Work::negate`: each of the three loops stays within its list, and together they are the definition's step.
use Rattle.std.proofs.Common.{refl}
use Rattle.scaling.proofs.Steps.{negate-sound, negate_same}
use Rattle.scaling.proofs.work.Work.negate.Goals as goal

pub invariant_of-self : goal.invariant_of-self
invariant_of-self c = record { sound = negate-sound c.args.self c.negate.auto.a c.negate-2.auto.a c.negate-3.auto.a _ _ c.negate.ensures c.negate-2.ensures c.negate-3.ensures }

pub returns : goal.returns
returns c =
    negate_same c.args.self _ c.requires
    (record { rows = refl; cols = refl; t = c.negate.ensures; v = c.negate-2.ensures; w = c.negate-3.ensures; steps = refl; over = refl })
