-- `Work::reorder`: each of the three loops stays within its list, and together they are the definition's reordering.
use Rattle.std.proofs.Common.{length, refl, ap, ◌∙◌}
use Rattle.scaling.proofs.StridedContents.{rotate_f-length}
use Rattle.scaling.proofs.Steps.{reorder-sound, reorder_same}
use Rattle.scaling.proofs.work.Work.reorder.Goals as goal

pub invariant_of-self : goal.invariant_of-self
invariant_of-self c = record {
  sound = reorder-sound c.args.self (ap length c.rotate.ensures ∙ rotate_f-length _ _ _ _ _) (ap length c.rotate-2.ensures ∙ rotate_f-length _ _ _ _ _)
      (ap length c.rotate-3.ensures ∙ rotate_f-length _ _ _ _ _) _ _ _ _ c.rotate.ensures c.rotate-2.ensures c.rotate-3.ensures;
}

pub returns : goal.returns
returns c =
    reorder_same c.args.self _ c.requires
    (record { rows = refl; cols = refl; t = c.rotate.ensures; v = c.rotate-2.ensures; w = c.rotate-3.ensures; steps = refl; over = refl })
