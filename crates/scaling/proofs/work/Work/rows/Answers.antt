use Rattle.std.proofs.Common.{◌≡◌, ◌+◌, arith, refl, Some}
use Rattle.scaling.specs.Scan.{sizes}
use Rattle.scaling.proofs.RowScan.{Best, best_start, best_step, best_in}
use Rattle.scaling.proofs.AllRows.{rowed_end, rowed_pass, rowed_begun, some_left, rowed_next, rowed_over}
use Rattle.scaling.proofs.work.Work.rows.Goals as goal
use Rattle.scaling.proofs.work.Work.rows.Goals.{In-Some-best}

-- ---- the scan of a row
pub loop-j-init : goal.loop-j-init
loop-j-init c = record { best = best_start (sizes c.row_of-x.result.now) c.args.lo c.rows.a c.rows.invariant.low; end = refl }

pub better-best-requires : goal.better-best-requires
better-best-requires c =
    let l = c.loop-j.invariant.best in
    record {
      j_in = omega (arith, c.in-Some.ensures.steps);
      best_in = best_in c.loop-j.best l (omega (arith, c.row_of-x.ensures.whole));
    }

pub loop-j-preserved : goal.loop-j-preserved
loop-j-preserved c =
    let e = c.in-Some.ensures.steps in
    let here : c.in-Some.j ≡ c.loop-j.columns.start = omega (arith, e) in
    let next : c.next.new.self.start ≡ c.loop-j.columns.start + 1 = omega (arith, e) in
    record { best = rw (next, c.better-best.ensures, here) (best_step c.loop-j.invariant.best (omega (arith, e))); end = omega (arith, e) }

-- ---- the rows
pub rows-preserved-in_default-best : goal.rows-preserved-in_default-best
rows-preserved-in_default-best c = let e : c.loop-j.columns.start ≡ c.rows.a = omega (arith, c.in_default.ensures.steps) in
    rowed_pass c.requires c.rows.invariant (omega arith) (omega arith) c.row_of-x.ensures (rw (c.in_default-best.is, e) at c.loop-j.invariant.best)

-- the scan is through, and found p
through : (c : In-Some-best) → Best (sizes c.row_of-x.result.now) c.args.lo c.rows.a c.rows.a (Some c.in-Some-best.p)
through c = let e : c.loop-j.columns.start ≡ c.rows.a = omega (arith, c.in_default.ensures.steps) in rw (c.in-Some-best.is, e) at c.loop-j.invariant.best

pub row-self-requires : goal.row-self-requires
row-self-requires c = rowed_begun c.requires c.rows.invariant (omega arith) (omega arith) c.row_of-x.ensures (through c)

pub overflow_sub-a : goal.overflow_sub-a
overflow_sub-a c = some_left c.requires c.rows.invariant (omega arith) (omega arith) c.row_of-x.ensures (through (goal.at.overflow_sub-a c).In-Some-best)

pub returns-then-self : goal.returns-then-self
returns-then-self c =
    rowed_over c.requires c.rows.invariant (omega arith) (omega arith) c.row_of-x.ensures (through (goal.at.returns-then-self c).In-Some-best)
    c.row-self.ensures c.if-self.true

pub rows-preserved : goal.rows-preserved
rows-preserved c =
    rowed_next c.requires c.rows.invariant (omega arith) (omega arith) c.row_of-x.ensures (through (goal.at.rows-preserved c).In-Some-best)
    c.row-self.ensures c.if-self.false

pub returns : goal.returns
returns c = rowed_end c.requires c.rows.invariant (omega arith)
