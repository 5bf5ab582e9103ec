use Rattle.std.proofs.Common.{◌∷◌, [], ◌∙◌, arith, rules, SFits, w32}
use Rattle.std.proofs.lemmas.Int.{to_z-of_z}
use Rattle.rules.specs.Bytes.{short, shorts}
use Rattle.frames.proofs.Numbers.{shorts_none, shorts_one}
use Rattle.frames.proofs.Pairs.{pairs_more, pairs_end}
use Rattle.frames.proofs.read.push_shorts.Goals as goal

pub loop-pair-preserved : goal.loop-pair-preserved
loop-pair-preserved g c =
    let s = c.in-Some.ensures.steps in
    let fits : SFits w32 c.short.result = search rules in (
      omega (arith, s.0, c.loop-pair.invariant.0),
      rw c.push.ensures.items
          (pairs_more shorts (λ a b. short (a ∷ b ∷ [])) shorts_none shorts_one _ _ c.in-Some.pair.now _ c.loop-pair.invariant.1
          s.1.0 (omega (arith, s.1.1)) (to_z-of_z w32 _ fits ∙ c.short.ensures)),
    )

pub returns : goal.returns
returns g c =
    let s = c.in-None.ensures.steps in
    pairs_end shorts (λ a b. short (a ∷ b ∷ [])) shorts_none shorts_one _ c.loop-pair.invariant.1 (omega (arith, s.1.0))
