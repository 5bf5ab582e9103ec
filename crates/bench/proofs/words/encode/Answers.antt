use Rattle.std.proofs.Common.{ℤ, pos, get_or, refl, ap, ◌∙◌, ◌∷◌, [], w32, SFits, rules}
use Rattle.std.proofs.lemmas.Int.{to_z-of_z}
use Rattle.rules.specs.Bytes.{bytes_of}
use Rattle.bench.proofs.Bytes.{filled-suc}
use Rattle.bench.proofs.words.encode.Goals as goal

pub loop-i-init : goal.loop-i-init
unfolding bytes_of
loop-i-init c = refl

pub loop-i-preserved : goal.loop-i-preserved
loop-i-preserved c =
    let fits : SFits w32 (get_or c.args.xs.now c.loop-i.i (pos 0)) = search rules in
    let e = c.copy_from_slice.ensures.after ∙ c.four_bytes.ensures ∙ ap (λ (z : ℤ). bytes_of (z ∷ [])) (to_z-of_z w32 _ fits) in
    filled-suc c.args.xs.now c.args.out.now c.loop-i.out _ c.loop-i.i c.loop-i-test.true c.loop-i.invariant e
