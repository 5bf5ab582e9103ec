use Rattle.std.proofs.Common.{rules, length, sym, SFits, w32, get_or}
use Rattle.std.proofs.lemmas.Int.{to_z-of_z}
use Rattle.whole.proofs.Order.{row_within}
use Rattle.frames.proofs.Progress.{taken, refuses, first-off, sizes-off, rows_none, row-off, row-on, full-off, term-off, term-on, end}
use Rattle.frames.proofs.read.read.Goals as goal

-- ---- the first line
pub returns-in_err-sizes : goal.returns-in_err-sizes
returns-in_err-sizes c =
    let o = c.in_err-sizes.ensures in
    refuses _ _ _ c.from_residual.result 0 c.first_line.ensures o.ok_part o.value c.from_residual.ensures
    (first-off c.args.text.now)

pub returns-then-not-sizes_in_range : goal.returns-then-not-sizes_in_range
returns-then-not-sizes_in_range c =
    sizes-off c.args.text.now (taken _ _ _ c.first_line.ensures c.in_ok-sizes.ensures.ok_part)
    (rw (c.deref.ensures.0, c.deref-2.ensures.0) at (sym c.if-not-sizes_in_range.ensures))

pub loop-i-init : goal.loop-i-init
loop-i-init c =
    rw (c.deref.ensures.0, c.deref-2.ensures.0, c.new-moduli.ensures, c.new-matrix.ensures)
    (rows_none c.args.text.now (taken _ _ _ c.first_line.ensures c.in_ok-sizes.ensures.ok_part)
    (rw (c.deref.ensures.0, c.deref-2.ensures.0) at (sym c.if-not-sizes_in_range.ensures)))

-- ---- the matrix lines
pub returns-in_err-row : goal.returns-in_err-row
returns-in_err-row c =
    let o = c.in_err-row.ensures in
    refuses _ _ _ c.from_residual-in_err-row.result _ c.first_line-in-loop-i.ensures o.ok_part o.value c.from_residual-in_err-row.ensures
    (row-off c.loop-i.invariant c.loop-i-test.true)

pub loop-i-preserved : goal.loop-i-preserved
loop-i-preserved c =
    let line = taken _ _ _ c.first_line-in-loop-i.ensures c.in_ok-row.ensures.ok_part in
    let fits : SFits w32 c.short.result = search rules in
    row-on c.loop-i.invariant c.loop-i-test.true line c.as_slice-b.result.now c.as_slice-b.ensures.value c.short.result c.short.ensures
    (rw (to_z-of_z w32 _ fits) at c.push.ensures.items) c.push_shorts.ensures

-- ---- the term lines
pub returns-then-is_full : goal.returns-then-is_full
returns-then-is_full c = rw c.len.ensures.value (full-off c.loop-rest.invariant (search rules) (search rules))

pub returns-in_err-term : goal.returns-in_err-term
returns-in_err-term c =
    let o = c.in_err-term.ensures in
    refuses _ _ _ c.from_residual-in_err-term.result _ c.first_line-in-loop-rest.ensures o.ok_part o.value c.from_residual-in_err-term.ensures
    (rw c.len.ensures.value (term-off c.loop-rest.invariant (search rules) (search rules)))

pub push_shorts-requires-in-loop-rest : goal.push_shorts-requires-in-loop-rest
push_shorts-requires-in-loop-rest c =
    let line = taken _ _ _ c.first_line-in-loop-rest.ensures c.in_ok-term.ensures.ok_part in
    let l = c.loop-rest.invariant.sized in
    let room = row_within (length c.loop-rest.coefficients.items) (get_or c.deref-2.result.now 2 0) 64 16 (search rules) l.few-columns in
    search rules

pub loop-rest-preserved : goal.loop-rest-preserved
loop-rest-preserved c =
    let line = taken _ _ _ c.first_line-in-loop-rest.ensures c.in_ok-term.ensures.ok_part in
    let b = c.as_slice-b-in-loop-rest in
    let fits : SFits w32 c.long.result = search rules in
    term-on c.loop-rest.invariant (search rules) (search rules) line b.result.now b.ensures.value c.long.result c.long.ensures
    (rw (to_z-of_z w32 _ fits) at c.push-in-loop-rest.ensures.items) c.push_shorts-in-loop-rest.ensures

pub returns : goal.returns
returns c = end c.loop-rest.invariant (search rules)
