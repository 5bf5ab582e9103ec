-- `Work::add`: each of the three loops stays within its list; together they are the definition's step, and their flags its flag.
use Rattle.std.proofs.Common.{◌≡◌, ◌-ℤ◌, refl, arith, neg_ℤ, pos, to_z, of_z}
use Rattle.std.proofs.lemmas.Int.{ints, to_z-of_z}
use mir.Syntax.{w64}
use Rattle.scaling.proofs.Steps.{add-sound, add-tracks}
use Rattle.scaling.proofs.work.Work.add.Goals as goal

pub invariant_of-self : goal.invariant_of-self
invariant_of-self c =
    record { sound = add-sound c.args.self c.add-a.auto.a c.add-b.auto.a c.add-c.auto.a _ _ _ _ _ _ c.requires.two.clear c.add-a.ensures c.add-b.ensures c.add-c.ensures }

pub returns : goal.returns
returns c =
    let q : to_z w64 (of_z w64 c.args.q) ≡ c.args.q = to_z-of_z w64 _ c.ranges.q in
    let p : to_z w64 (of_z w64 (pos 0 -ℤ to_z w64 (of_z w64 c.args.q))) ≡ neg_ℤ c.args.q = omega (arith, ints) in
    add-tracks c.args.self _ c.requires.two
    (record {
      rows = refl;
      cols = refl;
      t = rw q at c.add-a.ensures;
      v = rw q at c.add-b.ensures;
      w = rw p at c.add-c.ensures;
      steps = refl;
      over = refl;
    })
