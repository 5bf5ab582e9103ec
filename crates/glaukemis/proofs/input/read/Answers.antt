-- `input::read` goes on only while bytes come, and stops as `ReadAnswers` says.
use Rattle.std.proofs.Common.{◌≡◌, ◌+◌, ◌-◌, ◌≤◌, length, take, drop, None, arith, rules}
use Rattle.std.proofs.lemmas.List.{drop_at}
use Rattle.std.proofs.lemmas.Slice.{overwrites}
use Rattle.std.specs.Io.KnownBytes.{ReadConsumes}
use borrow.Rule.Slice.PartMut.{put_mid}
use Rattle.glaukemis.specs.Reading.{told}
use Rattle.glaukemis.proofs.ReadAnswers.{stops, goes_on}
use Rattle.glaukemis.proofs.input.read.Goals as goal

pub returns-in-Some-clause-held : goal.returns-in-Some-clause-held
returns-in-Some-clause-held g c =
    let e = c.heard-held.ensures in
    rw (e.value, e.buf_after) (stops c.read-got.result c.loop-len.len _ c.in-Some.end (search rules) (rw (← e.value) c.in-Some.is))

pub loop-len-preserved : goal.loop-len-preserved
loop-len-preserved g c =
    let e = c.heard-held.ensures in
    let l = c.loop-len in
    let r = c.read-got in
    let m = g.R.Read.remaining in
    let after = put_mid l.len (length l.buf - l.len) l.buf r.new.buf in
    let given : ReadConsumes (m l.input) (m r.new.self) r.result r.new.buf = search rules in
    let end : length l.buf ≤ l.len + (length l.buf - l.len) = omega arith in
    let s : length after ≡ length l.buf = search rules in
    let k : take l.len after ≡ take l.len l.buf = search (rules, overwrites) in
    let d : drop l.len after ≡ r.new.buf = search (rules, overwrites, drop_at) in
    let n : (told r.result l.len).1 ≡ None = rw (← e.value) c.in_default.is in
    let h = goes_on (m c.args.input.now) (m l.input) (m r.new.self) r.result l.len l.buf after s k
    c.loop-len-test.true (search rules) l.invariant.1 (rw d given) n in
    rw (e.value, e.buf_after) (h.0, h.2)
