use Rattle.std.proofs.Common.{◌≡◌, ◌<◌, ◌&&◌, ◌-ℤ◌, not, cond, Bool, ℤ, pos, nat_abs, eqb, refl, sym, arith, to_z, of_z, w32, w64}
use borrow.Author.Tests.{eq-eqb, ne_eqb}
use mathlib.Core.Bool.{beq}
use lib.Signed.{lt_z, quot_z, rem_z}
use mir.Facts.{to_z-of_z}
use mir.Val.{SFits}
use Rattle.whole.specs.Division.{floor_z}
use Rattle.whole.proofs.Order.{fits}
use Rattle.whole.proofs.Division.{quot_le, rem-le, floor-cut}
use Rattle.checks.proofs.Values.{abs32, sub-fits, zero_bits}
use Rattle.scaling.proofs.Values.{wide, widens-to, quot_wide}
use Rattle.scaling.proofs.numbers.floor.Goals as goal
use Rattle.scaling.proofs.numbers.floor.Goals.{else-r-ne0-via-then-r-ne0+else-r-y, else-r-ne0-via-else-r-ne0}

-- u and v are x and y in 64 bits
module _ {x y u v : ℤ} (fx : SFits w32 x) (fy : SFits w32 y) (eu : u ≡ to_z w32 (of_z w32 x)) (ev : v ≡ to_z w32 (of_z w32 y)) (h : 0 < nat_abs y) where
  lower-fits : SFits w64 (wide (quot_z (wide u) (wide v)) -ℤ pos 1)
  lower-fits = rw (quot_wide fx fy eu ev) (sub-fits (quot_z x y) (pos 1) (omega (arith, quot_le x y, abs32 x fx)) (omega arith))

  -- t and s answer the two tests as the code makes them
  by_tests : {t s : Bool} → eqb (of_z w64 (rem_z (wide u) (wide v))) 0 ≡ t → not (beq (lt_z (wide (rem_z (wide u) (wide v))) (pos 0)) (lt_z (wide v) (pos 0))) ≡ s
      → cond (not t && s) (wide (wide (quot_z (wide u) (wide v)) -ℤ pos 1)) (wide (quot_z (wide u) (wide v))) ≡ floor_z x y
  by_tests e d =
      let f : SFits w64 (rem_z x y) = fits w64 (rem_z x y) (omega (arith, rem-le x y, abs32 x fx)) in
      rw (← e, ← d, to_z-of_z lower-fits, quot_wide fx fy eu ev, widens-to fx eu, widens-to fy ev, zero_bits w64 refl (rem_z x y) f, to_z-of_z f) (sym (floor-cut x y h))

pub overflow_sub-result : goal.overflow_sub-result
overflow_sub-result c = lower-fits c.ranges.x c.ranges.y c.from-x.ensures c.from-y.ensures c.requires

pub returns-then-r-y : goal.returns-then-r-y
returns-then-r-y c = by_tests c.ranges.x c.ranges.y c.from-x.ensures c.from-y.ensures c.requires (ne_eqb _ 0 c.if-r-ne0.true) c.if-r-y.true

pub returns-else-r-ne0 : goal.returns-else-r-ne0
returns-else-r-ne0 c = elim c.else-r-ne0.branch [
  | else-r-ne0-via-then-r-ne0+else-r-y w ↦ by_tests c.ranges.x c.ranges.y c.from-x.ensures c.from-y.ensures c.requires (ne_eqb _ 0 w.if-r-ne0.true) w.if-r-y.false
  | else-r-ne0-via-else-r-ne0 w ↦ by_tests c.ranges.x c.ranges.y c.from-x.ensures c.from-y.ensures c.requires (eq-eqb _ 0 w.if-r-ne0.false) refl
]
