use Rattle.std.proofs.Common.{◌≡◌, ◌+◌, ◌*◌, ◌/◌, length, sym, ap, ◌∙◌, arith}
use Rattle.rules.specs.Frames.{digit, unhex}
use Rattle.frames.proofs.Digits.{pair_on, digits_on, digits_end}
use Rattle.frames.proofs.Numbers.{unhex_none, unhex_one, length-unhex}
use Rattle.frames.proofs.Pairs.{pairs_more, pairs_end}
use Rattle.frames.proofs.line.unhex.Goals as goal

pub loop-pair-preserved : goal.loop-pair-preserved
loop-pair-preserved c =
    let s = c.in-Some.ensures.steps in
    let l = c.loop-pair.invariant in
    let two : length c.in-Some.pair.now ≡ 2 = omega (arith, s.1.1, l.0) in (
      omega (arith, s.0, l.0),
      digits_on _ _ c.in-Some.pair.now _ s.1.0 two c.in_ok-byte.ensures ∙ l.1,
      rw c.push.ensures.items
          (pairs_more unhex (λ a b. 16 * digit a + digit b) unhex_none unhex_one _ _ c.in-Some.pair.now _ l.2 s.1.0 two
          (pair_on _ _ _ c.in_ok-byte.ensures).1),
    )

pub returns : goal.returns
returns c =
    let s = c.in-None.ensures.steps in
    let l = c.loop-pair.invariant in
    let e : c.loop-pair.bytes.items ≡ unhex (length c.args.digits.now / 2) c.args.digits.now
    = pairs_end unhex (λ a b. 16 * digit a + digit b) unhex_none unhex_one _ l.2 (omega (arith, s.1.0)) in
    (sym l.1 ∙ digits_end _ l.2.even (omega (arith, s.1.0)), e, ap length e ∙ length-unhex _ _)
