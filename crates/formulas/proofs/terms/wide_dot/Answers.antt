use Rattle.std.proofs.Common.{rules, ◌≡◌, ◌*ℤ◌, ◌∙◌, refl, w32, w64}
use mir.Val.{SFits}
use mir.Facts.{to_z-of_z}
use Rattle.whole.specs.Lists.{nth}
use Rattle.formulas.proofs.Sums.{begun-none, product-fits, sum-fits, sum-more}
use Rattle.formulas.proofs.terms.wide_dot.Goals as goal
use Rattle.formulas.proofs.terms.wide_dot.Goals.{After-from}

-- the narrow number of this turn
turn : (c : After-from) → SFits w32 (nth c.args.a.now c.loop-i.i) → (c.from.result ≡ nth c.args.a.now c.loop-i.i) × SFits w32 c.from.result
turn c x = let same : c.from.result ≡ nth c.args.a.now c.loop-i.i = c.from.ensures ∙ to_z-of_z x in (same, rw same x)

pub loop-i-init : goal.loop-i-init
loop-i-init c = begun-none _ _

pub overflow_mul-sum : goal.overflow_mul-sum
overflow_mul-sum c =
    let t = turn (goal.at.overflow_mul-sum c).After-from (search rules) in
    let x : SFits w64 c.from.result = search rules in
    let y : SFits w64 (nth c.args.b.now c.loop-i.i) = search rules in
    simp to_z-of_z (product-fits c.requires c.loop-i.invariant c.loop-i-test.true t.0 refl t.1)

pub overflow_add-sum : goal.overflow_add-sum
overflow_add-sum c =
    let t = turn (goal.at.overflow_add-sum c).After-from (search rules) in
    let x : SFits w64 c.from.result = search rules in
    let y : SFits w64 (nth c.args.b.now c.loop-i.i) = search rules in
    let product : SFits w64 (c.from.result *ℤ nth c.args.b.now c.loop-i.i) = product-fits c.requires c.loop-i.invariant c.loop-i-test.true t.0 refl t.1 in
    simp to_z-of_z (sum-fits c.requires c.loop-i.invariant c.loop-i-test.true t.0 refl t.1)

pub loop-i-preserved : goal.loop-i-preserved
loop-i-preserved c =
    let t = turn (goal.at.loop-i-preserved c).After-from (search rules) in
    let x : SFits w64 c.from.result = search rules in
    let y : SFits w64 (nth c.args.b.now c.loop-i.i) = search rules in
    let product : SFits w64 (c.from.result *ℤ nth c.args.b.now c.loop-i.i) = product-fits c.requires c.loop-i.invariant c.loop-i-test.true t.0 refl t.1 in
    simp to_z-of_z (sum-more c.requires c.loop-i.invariant c.loop-i-test.true t.0 refl t.1)
