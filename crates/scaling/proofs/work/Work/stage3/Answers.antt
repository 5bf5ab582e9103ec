use Rattle.std.proofs.Common.{◌-◌, ◌≤◌, arith}
use Rattle.scaling.specs.declared.work.Table.TheVariants.{V}
use Rattle.scaling.specs.Rows.{Pivot}
use Rattle.scaling.proofs.Settling.{pivot_divisors, reduced_rest, reduced_none}
use Rattle.scaling.proofs.ThirdStage.{third_end, third_pass, third_pivot, third_next, third_over}
use Rattle.scaling.proofs.work.Work.stage3.Goals as goal
use Rattle.scaling.proofs.work.Work.stage3.Goals.{After-row_of}

pub loop-c-preserved-in_default : goal.loop-c-preserved-in_default
loop-c-preserved-in_default c = third_pass c.requires c.loop-c.invariant c.loop-c-test.true c.in_default.ensures

-- ---- the pivot's row, where there is one
module _ (c : After-row_of) where
  pivot : Pivot V c.in-Some.k (c.loop-c.c - 1) c.loop-c.self c.loop-c.self.cols
  pivot = third_pivot c.requires c.loop-c.invariant c.loop-c-test.true c.in-Some.ensures

  fit : c.args.r ≤ c.loop-c.self.cols
  fit = omega (arith, c.requires.r_in, c.loop-c.invariant.cols)

pub unreduced-requires : goal.unreduced-requires
unreduced-requires c = pivot_divisors c.row_of.ensures (pivot c) (fit c)

pub reduce_all-self-requires-clause-pivot : goal.reduce_all-self-requires-clause-pivot
reduce_all-self-requires-clause-pivot c = pivot (goal.at.reduce_all-self-requires-clause-pivot c).After-row_of

pub returns-then-self : goal.returns-then-self
returns-then-self c =
    let t = (goal.at.returns-then-self c).After-row_of in
    third_over c.requires c.loop-c.invariant c.loop-c-test.true c.in-Some.ensures
    (reduced_rest c.row_of.ensures (pivot t) (fit t) c.in-Some-unreduced.ensures c.reduce_all-self.ensures) c.if-self.true

pub loop-c-preserved-else-self : goal.loop-c-preserved-else-self
loop-c-preserved-else-self c =
    let t = (goal.at.loop-c-preserved-else-self c).After-row_of in
    third_next c.requires c.loop-c.invariant c.loop-c-test.true c.in-Some.ensures
    (reduced_rest c.row_of.ensures (pivot t) (fit t) c.in-Some-unreduced.ensures c.reduce_all-self.ensures) c.if-self.false

pub loop-c-preserved : goal.loop-c-preserved
loop-c-preserved c =
    let t = (goal.at.loop-c-preserved c).After-row_of in
    third_next c.requires c.loop-c.invariant c.loop-c-test.true c.in-Some.ensures
    (reduced_none c.row_of.ensures (pivot t) (fit t) (omega arith) c.in_default-unreduced.ensures) c.loop-c.invariant.clear

pub returns : goal.returns
returns c = third_end c.requires c.loop-c.invariant c.loop-c-test.false
