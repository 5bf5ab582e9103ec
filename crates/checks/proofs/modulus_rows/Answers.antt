-- `modulus_rows`: each modulus is passed over or its row listed.
use Rattle.std.proofs.Common.{◌≡◌, ◌<◌, length, take, arith, rules, sym, ◌∙◌, add-one}
use Rattle.std.proofs.lemmas.Int.{to_z-of_z}
use Rattle.std.proofs.lemmas.List.{length-take}
use mir.Syntax.{w32}
use mir.Val.{SFits}
use Rattle.whole.specs.Lists.{nth}
use Rattle.rules.specs.Limits.{is_zero}
use Rattle.checks.proofs.Listing.{listed-none, row_passed, row_listed}
use Rattle.checks.proofs.modulus_rows.Goals as goal
use Rattle.checks.proofs.modulus_rows.Goals.{then-not-is_zero, else-not-is_zero}

pub loop-i-init : goal.loop-i-init
loop-i-init c = listed-none _

pub loop-i-preserved : goal.loop-i-preserved
loop-i-preserved c =
    let first = take c.min.result c.args.moduli.now in
    let h : c.loop-i.i < length first = search rules in
    let b : c.loop-i.i < 8 = omega (arith, c.min.ensures, length-take c.min.result c.args.moduli.now) in
    let t : c.is_zero.result ≡ is_zero (nth first c.loop-i.i) =
    (let f : SFits w32 (nth first c.loop-i.i) = search rules in simp to_z-of_z at c.is_zero.ensures) in
    rw add-one (elim c.if-not-is_zero.branch [
      | then-not-is_zero w ↦ rw w.listed-is (row_listed c.loop-i.invariant h (sym t ∙ w.if-not-is_zero.true) b)
      | else-not-is_zero w ↦ rw w.listed-is (row_passed c.loop-i.invariant h (sym t ∙ w.if-not-is_zero.false))
    ])
