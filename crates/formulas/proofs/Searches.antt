-- The library's test of a list's elements, as the definitions' search over indices.
use mathlib.Core.Path.{◌≡◌, refl, sym, ◌∙◌, ap}
use mathlib.Core.Bool.{Bool, true, false, not, ◌||◌}
use mathlib.Core.List.{[], ◌∷◌}
use Prim.Native.Nat.{ℕ, zero, suc}
use native.Mathlib.Omega.{arith}
use lib.IntN.{ℤ}
use Rattle.std.specs.List.{list_any}
use Rattle.std.proofs.lemmas.List.Folds.{list_any-append}
use Rattle.whole.specs.Lists.{tab}
use Rattle.rules.specs.Search.{Found, none, found, first}
use Rattle.rules.specs.Formulas.{is_none}
use Rattle.theory.proofs.Loops.{first_step}
use Rattle.scaling.proofs.Filling.{tab-more}

pub any-first : (p : ℤ → Bool) (n : ℕ) (f : ℕ → ℤ) → list_any p (tab n f) ≡ not (is_none (first (λ g. p (f g)) 0 n))
unfolding first
any-first p zero f = refl
any-first p (suc n) f =
    ap (list_any p) (tab-more n f) ∙ list_any-append p (tab n f) (f n ∷ [])
    ∙ ap (λ b. b || (p (f n) || false)) (any-first p n f) ∙ go (first (λ g. p (f g)) 0 n) (p (f n)) ∙ sym (ap (λ x. not (is_none x)) (first_step (λ g. p (f g)) 0 n (omega arith)))
  where
    go : (x : Found) (b : Bool) → not (is_none x) || (b || false) ≡ not (is_none (elim x as (λ _. Found) [ none ↦ elim b as (λ _. Found) [ true ↦ found n | false ↦ none ] | found j ↦ found j ]))
    go none true = refl
    go none false = refl
    go (found j) b = refl
