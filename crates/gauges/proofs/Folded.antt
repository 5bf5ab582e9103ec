-- What a fold along two lists comes to is what the definitions make of as many readings and exponents.
use Rattle.std.proofs.Common.{◌≡◌, ℕ, zero, suc, ◌+◌, ◌≤◌, ◌<◌, List, length, take, ℤ, pos, fold, arith, refl, sym, ap, ◌∙◌, add-one}
use Rattle.std.specs.List.{zip}
use Rattle.std.specs.Float.{nan}
use Rattle.std.proofs.lemmas.Float.{one_f64_is}
use Rattle.std.proofs.lemmas.List.{take_all}
use Rattle.std.proofs.lemmas.List.Sums.{fold_more}
use Rattle.std.proofs.lemmas.Slice.Zip.{length-zip, get_or-zip}
use lib.Ieee.{Float, of_bits, binary64}
use Rattle.whole.specs.Lists.{nth}
use Rattle.rules.specs.Gauges.{read, after, operate, units, group_value}
use Rattle.theory.proofs.Operations.{value_none, value_by}
use Rattle.gauges.specs.Gauging as gauging

module _ (xs : List Float) (es : List ℤ) (same : length xs ≡ length es) where
  abbrev folded : ℕ → Float
  folded k = fold (λ r p. after (operate (λ j. p.0)) r (units 0 p.1)) (of_bits binary64 0x3ff0_0000_0000_0000) (take k (zip xs es))

  more : (k : ℕ) → k < length xs → folded (k + 1) ≡ after (operate (λ j. read xs k)) (folded k) (units 0 (nth es k))
  more k h =
      fold_more _ _ (zip xs es) k (nan, pos 0) (omega (arith, length-zip xs es))
      ∙ ap (λ p. after (operate (λ j. p.0)) (folded k) (units 0 p.1)) (get_or-zip xs es k (nan, pos 0) (omega arith) (omega arith))

  so_far : (k : ℕ) → k ≤ length xs → folded k ≡ group_value k (nth es) (read xs)
  so_far zero h = one_f64_is ∙ sym (value_none (nth es) (read xs))
  so_far (suc k) h = value_by k (nth es) (read xs) (so_far k (omega arith)) refl (ap folded (sym (add-one k)) ∙ more k (omega arith))

  pub value_is : gauging.value_by xs es ≡ group_value (length xs) (nth es) (read xs)
  value_is =
      ap (fold (λ r p. after (operate (λ j. p.0)) r (units 0 p.1)) (of_bits binary64 0x3ff0_0000_0000_0000))
      (sym (take_all (length xs) (zip xs es) (omega (arith, length-zip xs es))))
      ∙ so_far (length xs) (omega arith)
