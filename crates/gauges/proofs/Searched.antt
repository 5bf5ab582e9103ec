-- What a search along a list says of the definitions' search over indices.
use Rattle.std.proofs.Common.{◌≡◌, Bool, true, false, not, List, length, get_or, arith, refl}
use Rattle.std.specs.List.{list_all}
use Rattle.std.proofs.lemmas.Bool.{true≢false, false≢true}
use Rattle.std.proofs.lemmas.List.Sums.{list_all-from_AllPass}
use Rattle.std.proofs.lemmas.List.Folds.{list_all_at}
use Rattle.std.proofs.lemmas.List.Elements.{All-from_get_or}
use Rattle.rules.specs.Search.{Found, first}
use Rattle.rules.specs.Formulas.{is_none}
use Rattle.theory.proofs.Search.{FirstIs, no_first, is_first, first_is_lem}

module _ {A : Type 0} (p : A → Bool) (d : A) (xs : List A) where
  pub all_passes : list_all p xs ≡ is_none (first (λ j. not (p (get_or xs j d))) 0 (length xs))
  all_passes = go (first_is_lem (λ j. not (p (get_or xs j d))) 0 (length xs))
    where
      passes : (b : Bool) → not b ≡ false → b ≡ true
      passes true e = refl
      passes false e = absurd (true≢false e)

      fails : (b : Bool) → not b ≡ true → b ≡ false
      fails false e = refl
      fails true e = absurd (false≢true e)

      go : {x : Found} → FirstIs (λ j. not (p (get_or xs j d))) 0 (length xs) x → list_all p xs ≡ is_none x
      go (no_first z) =
          list_all-from_AllPass p xs (All-from_get_or (λ x. p x ≡ true) xs d (λ j l. passes (p (get_or xs j d)) (z j (record { low = omega arith; high = l }))))
      go (is_first j i e z) = list_all_at p xs j d i.high (fails (p (get_or xs j d)) e)
