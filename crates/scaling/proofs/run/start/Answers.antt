use Rattle.std.proofs.Common.{refl}
use Rattle.rules.specs.Limits.{room_h, room_v}
use Rattle.theory.proofs.Start.{nth-zeros}
use Rattle.scaling.proofs.Starting.{start-sound, start_same}
use Rattle.scaling.proofs.run.start.Goals as goal

pub invariant_of-result : goal.invariant_of-result
invariant_of-result c =
    record {
      sound = start-sound c.args.p.now.well_formed c.fill_c.ensures (nth-zeros room_h) c.columns-cols.ensures.value c.fill_identity.ensures
          (nth-zeros room_v) c.fill_c.array_long c.fill_identity.array_long;
    }

pub returns : goal.returns
returns c =
    start_same c.args.p.now.well_formed c.fill_c.ensures (nth-zeros room_h) c.columns-cols.ensures.value c.fill_identity.ensures (nth-zeros room_v)
    refl refl refl refl refl refl refl
