use Rattle.std.proofs.Common.{◌≡◌, ◌*◌, ◌+◌, ◌-◌, false, true, ℕ, zero, suc, ℤ, ◌+ℤ◌, ◌*ℤ◌, refl, List, arith, rules, add-one, sym, ◌∙◌, w32}
use mathlib.Core.Bool.{or-true, or-false}
use mir.Facts.{to_z-of_z}
use mir.Val.{SFits}
use native.Mathlib.Nat.{zero-add, suc-add}
use Rattle.whole.specs.Lists.{nth}
use Rattle.rules.specs.Limits.{beyond}
use Rattle.checks.proofs.Values.{fits32, within}
use Rattle.scaling.specs.Strided.{sum_at, add_f, add_o}
use Rattle.scaling.proofs.Values.{wide, keep_is, product-fits, sum-fits, sum_wide}
use Rattle.scaling.proofs.strided.add.Goals as goal
use Rattle.scaling.proofs.strided.add.Goals.{After-from-in-loop-k}

-- a flag that is up stays up
add_o-stays : (xs : List ℤ) (to from stride : ℕ) (q : ℤ) (k more : ℕ) → add_o xs to from stride q k ≡ true → add_o xs to from stride q (more + k) ≡ true
unfolding add_o
add_o-stays xs to from stride q k zero e = rw (zero-add k) e
add_o-stays xs to from stride q k (suc more) e = rw (suc-add more k, add_o-stays xs to from stride q k more e, or-true)

module _ (c : After-from-in-loop-k) where
  abbrev to : ℕ
  to = c.args.to + c.loop-k.k * c.args.stride

  abbrev from : ℕ
  from = c.args.from + c.loop-k.k * c.args.stride

  fx : SFits w32 (nth c.loop-k.a to)
  fx = search rules

  fy : SFits w32 (nth c.loop-k.a from)
  fy = search rules

  -- what the code computes is the value of the turn
  sum-is : wide (wide c.from.result +ℤ wide (wide c.args.q *ℤ wide c.from-in-loop-k.result)) ≡ sum_at c.args.q to from c.loop-k.a
  sum-is = sum_wide fx fy c.from.ensures c.from-in-loop-k.ensures c.ranges.q c.requires.q_bound

pub overflow_mul-z : goal.overflow_mul-z
overflow_mul-z c =
    let s = (goal.at.overflow_mul-z c).After-from-in-loop-k in
    product-fits (fx s) (fy s) c.from.ensures c.from-in-loop-k.ensures c.ranges.q c.requires.q_bound

pub overflow_add-z : goal.overflow_add-z
overflow_add-z c =
    let s = (goal.at.overflow_add-z c).After-from-in-loop-k in
    sum-fits (fx s) (fy s) c.from.ensures c.from-in-loop-k.ensures c.ranges.q c.requires.q_bound

pub returns-then-beyond : goal.returns-then-beyond
unfolding add_o
returns-then-beyond c =
    let l = c.loop-k in
    let a = c.args in
    let i = rw (to_z-of_z c.ranges.q) at l.invariant in
    let now : add_o a.a.now a.to a.from a.stride a.q (l.k + 1) ≡ true =
    rw (add-one, ← i.0, i.1, or-false) (rw (sum-is (goal.at.returns-then-beyond c).After-from-in-loop-k) at (sym c.beyond.ensures ∙ c.if-beyond.true)) in
    let all : (a.count - (l.k + 1)) + (l.k + 1) ≡ a.count = omega arith in
    record { flag = sym (rw all at (add_o-stays a.a.now a.to a.from a.stride a.q (l.k + 1) (a.count - (l.k + 1)) now)); list = λ e. cc }

pub loop-k-preserved : goal.loop-k-preserved
unfolding add_f add_o
loop-k-preserved c =
    let i = rw (to_z-of_z c.ranges.q) at c.loop-k.invariant in
    let s = (goal.at.loop-k-preserved c).After-from-in-loop-k in
    let z = sum_at c.args.q (to s) (from s) c.loop-k.a in
    let e : beyond z ≡ false = rw (sum-is s) at (sym c.beyond.ensures ∙ c.if-beyond.false) in
    let f : SFits w32 z = fits32 z (within z e) in
    rw (sum-is s, to_z-of_z c.ranges.q, to_z-of_z f, add-one, ← i.0, i.1, or-false, keep_is z false e) (refl, e)
