-- `Work::swap`: each of the three loops stays within its list, and together they are the definition's step.
use Rattle.std.proofs.Common.{refl}
use Rattle.scaling.proofs.Steps.{swap-sound, swap_same}
use Rattle.scaling.proofs.work.Work.swap.Goals as goal

pub invariant_of-self : goal.invariant_of-self
invariant_of-self c = record { sound = swap-sound c.args.self c.swap.auto.a c.swap-2.auto.a c.swap-3.auto.a _ _ _ _ c.swap.ensures c.swap-2.ensures c.swap-3.ensures }

pub returns : goal.returns
returns c =
    swap_same c.args.self _ c.requires
    (record { rows = refl; cols = refl; t = c.swap.ensures; v = c.swap-2.ensures; w = c.swap-3.ensures; steps = refl; over = refl })
