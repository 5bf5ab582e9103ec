use Rattle.std.proofs.Common.{rules, arith, pos, w32}
use Rattle.std.proofs.Math.IntN.{+ℤ_idl}
use mir.Val.{SFits}
use mir.Facts.{to_z-of_z}
use lib.Signed.{quot_z}
use Rattle.whole.specs.Lists.{nth}
use Rattle.whole.proofs.Division.{quot_le}
use Rattle.checks.proofs.Values.{abs32, sub-fits, neg-fits}
use Rattle.scaling.proofs.Values.{quot_wide}
use Rattle.scaling.proofs.scan.quotient.Goals as goal

pub overflow_sub-result : goal.overflow_sub-result
overflow_sub-result c =
    let x = nth c.args.row.now c.args.j in
    let y = nth c.args.row.now c.args.p in
    let f : SFits w32 x = search rules in
    let g : SFits w32 y = search rules in
    rw (quot_wide f g c.from.ensures c.from-2.ensures) (sub-fits (pos 0) (quot_z x y) (omega arith) (omega (arith, quot_le x y, abs32 x f)))

pub returns : goal.returns
returns c =
    let x = nth c.args.row.now c.args.j in
    let y = nth c.args.row.now c.args.p in
    let f : SFits w32 x = search rules in
    let g : SFits w32 y = search rules in
    rw (quot_wide f g c.from.ensures c.from-2.ensures, +ℤ_idl, to_z-of_z (neg-fits (quot_z x y) (omega (arith, quot_le x y, abs32 x f))))
