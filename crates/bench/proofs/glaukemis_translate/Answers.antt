-- What it hears of the bytes and hands on is a call of formulas::translate, and proofs/TranslateCall does the rest.
use Rattle.std.proofs.Common.{arith, ◌∙◌}
use Rattle.bench.proofs.Outputs.{written_is}
use Rattle.bench.proofs.TranslateCall.{Called, refusal, success}
use Rattle.bench.proofs.glaukemis_translate.Goals as goal
use Rattle.bench.proofs.glaukemis_translate.Goals.{in-Ok, in_default, After-translate-groups}

-- the inputs read, the room of both outputs known, and formulas::translate has answered
called : (c : After-translate-groups) → Called c.args.m c.args.n c.args.matrix.now c.args.moduli.now c.args.coefficients.now c.args.exponents.now
    c.args.kept.now c.args.translated.now c.decode-entries.result.now c.decode-rows.result.now c.decode-terms.result.now c.decode-powers.result.now
    c.room-x.result.now c.room-y.result.now c.translate-groups.result c.translate-groups.new.kept c.translate-groups.new.translated
called c = record {
  reads-matrix = c.decode-entries.ensures;
  reads-moduli = c.decode-rows.ensures;
  reads-coefficients = c.decode-terms.ensures;
  reads-exponents = c.decode-powers.ensures;
  lent-kept = c.room-x.ensures;
  lent-translated = c.room-y.ensures;
  translates = c.translate-groups.ensures;
}

pub slice_bounds-encode-end : goal.slice_bounds-encode-end
slice_bounds-encode-end c = (success (called (goal.at.slice_bounds-encode-end c).After-translate-groups) c.in-Ok.is).written-kept.long

pub overflow_mul-terms : goal.overflow_mul-terms
overflow_mul-terms c = omega (arith, (success (called (goal.at.overflow_mul-terms c).After-translate-groups) c.in-Ok.is).written-translated.fits)

pub slice_bounds-encode-end-in-Ok : goal.slice_bounds-encode-end-in-Ok
slice_bounds-encode-end-in-Ok c = (success (called (goal.at.slice_bounds-encode-end-in-Ok c).After-translate-groups) c.in-Ok.is).written-translated.long

pub returns : goal.returns
returns c =
    let K = called (goal.at.returns c).After-translate-groups in
    elim c.match-groups.branch [
      | in-Ok w ↦
          let T = success K w.in-Ok.is in
          let k = w.kept-is ∙ written_is c.args.kept.now T.written-kept w.encode.ensures in
          let t = w.translated-is ∙ written_is c.args.translated.now T.written-translated w.encode-in-Ok.ensures in
          rw (c.into.ensures, w.groups-is, k, t) T.translates
      | in_default w ↦ rw (c.into.ensures, w.groups-is, w.kept-is, w.translated-is) (refusal K w.in_default.is)
    ]
