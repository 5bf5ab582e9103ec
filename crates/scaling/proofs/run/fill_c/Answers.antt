use Rattle.std.proofs.Common.{◌≡◌, ◌<◌, ◌*◌, ◌∙◌, sym, add-one, length, take, take_all, rules, arith}
use Rattle.std.proofs.lemmas.List.{take_more_set}
use mir.Facts.{to_z-of_z}
use mir.Syntax.{w32}
use mir.Val.{SFits}
use lib.Seq.{length-take-le}
use Rattle.whole.specs.Lists.{tab}
use Rattle.checks.specs.Checks.{problem_of}
use Rattle.scaling.proofs.Filling.{tab-more}
use Rattle.scaling.proofs.MatrixC.{entry_at, area-above, filled-holds}
use Rattle.scaling.proofs.run.fill_c.Goals as goal

pub loop-k-preserved : goal.loop-k-preserved
loop-k-preserved c =
    let l = c.loop-k in
    let x : SFits w32 c.entry_of_c.result = search rules in
    let in_items : l.k < length l.entry-items = omega arith in
    rw (to_z-of_z x, c.entry_of_c.ensures, take_more_set _ _ _ in_items, l.invariant, add-one) (sym (tab-more l.k (entry_at (problem_of c.args.p.now) c.columns-cols.result)))

pub returns : goal.returns
returns c =
    let p = c.args.p.now in
    let l = c.loop-k in
    let x = c.columns-cols.result in
    let count = c.columns-cols.ensures.value in
    let long : length (take (length p.moduli.now * x) c.args.t.now) ≡ length p.moduli.now * x =
    length-take-le _ _ (omega (arith, area-above p.well_formed count)) in
    let all : l.k ≡ length p.moduli.now * x = omega arith in
    let whole : l.entry-items ≡ tab (length p.moduli.now * x) (entry_at (problem_of p) x) =
    sym (take_all (length p.moduli.now * x) l.entry-items (omega arith)) ∙ (rw all at l.invariant) in
    rw whole (filled-holds p.well_formed count c.args.t.now c.told-t)
