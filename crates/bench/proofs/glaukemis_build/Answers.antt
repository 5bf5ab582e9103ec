-- What it hears of the bytes and hands on is a call of scaling::build, and proofs/BuildCall does the rest.
use Rattle.std.proofs.Common.{arith, ◌∙◌}
use Rattle.std.proofs.lemmas.Grind.{common_steps}
use Rattle.bench.proofs.Outputs.{written_is}
use Rattle.bench.proofs.BuildCall.{Called, refusal, success}
use Rattle.bench.proofs.glaukemis_build.Goals as goal
use Rattle.bench.proofs.glaukemis_build.Goals.{in-Ok, in_default, After-build-built}

-- both inputs read, the room of each output known, and scaling::build has answered
called : (c : After-build-built) → Called c.args.m c.args.n c.args.matrix.now c.args.moduli.now c.args.h.now c.args.v.now c.args.w.now
    c.decode-entries.result.now c.decode-rows.result.now c.room-x.result.now c.room-y.result.now c.room-z.result.now
    c.build-built.result c.build-built.new.h c.build-built.new.v c.build-built.new.w
called c = record {
  reads-matrix = c.decode-entries.ensures;
  reads-moduli = c.decode-rows.ensures;
  lent-h = c.room-x.ensures;
  lent-v = c.room-y.ensures;
  lent-w = c.room-z.ensures;
  builds = c.build-built.ensures;
}

pub overflow_mul-m : goal.overflow_mul-m
overflow_mul-m c = omega (arith, (success (called (goal.at.overflow_mul-m c).After-build-built) c.in-Ok.is).written-h.fits)

pub slice_bounds-encode-end : goal.slice_bounds-encode-end
slice_bounds-encode-end c = (success (called (goal.at.slice_bounds-encode-end c).After-build-built) c.in-Ok.is).written-h.long

pub overflow_mul-cols : goal.overflow_mul-cols
overflow_mul-cols c = omega (arith, (success (called (goal.at.overflow_mul-cols c).After-build-built) c.in-Ok.is).written-v.fits)

-- by the length alone: what the goal says of it turns on whether y is read again
pub slice_bounds-encode-end-in-Ok : goal.slice_bounds-encode-end-in-Ok
slice_bounds-encode-end-in-Ok c = grind (arith, common_steps, (success (called (goal.at.slice_bounds-encode-end-in-Ok c).After-build-built) c.in-Ok.is).written-v.long)

pub overflow_mul-cols-in-Ok : goal.overflow_mul-cols-in-Ok
overflow_mul-cols-in-Ok c = omega (arith, (success (called (goal.at.overflow_mul-cols-in-Ok c).After-build-built) c.in-Ok.is).written-w.fits)

pub slice_bounds-encode-end-in-Ok-2 : goal.slice_bounds-encode-end-in-Ok-2
slice_bounds-encode-end-in-Ok-2 c = (success (called (goal.at.slice_bounds-encode-end-in-Ok-2 c).After-build-built) c.in-Ok.is).written-w.long

pub returns : goal.returns
returns c =
    let K = called (goal.at.returns c).After-build-built in
    elim c.match-built.branch [
      | in-Ok w ↦
          let T = success K w.in-Ok.is in
          let h = w.h-is ∙ written_is c.args.h.now T.written-h w.encode.ensures in
          let v = w.v-is ∙ written_is c.args.v.now T.written-v w.encode-in-Ok.ensures in
          let w₁ = w.w-is ∙ written_is c.args.w.now T.written-w w.encode-in-Ok-2.ensures in
          rw (c.into.ensures, w.built-is, h, v, w₁) T.builds
      | in_default w ↦ rw (c.into.ensures, w.built-is, w.h-is, w.v-is, w.w-is) (refusal K w.in_default.is)
    ]
