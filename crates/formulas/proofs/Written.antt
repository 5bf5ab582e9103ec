-- Lists made of a function of the index: one number more.
use mathlib.Core.Path.{◌≡◌}
use mathlib.Core.List.{List, [], ◌∷◌, ◌++◌, append-nil}
use Prim.Native.Nat.{ℕ, ◌+◌, ◌≤◌}
use native.Mathlib.Numerals.{add-one}
use lib.ListN.{length, drop, drop_of_length-le}
use lib.IntN.{ℤ}
use Rattle.whole.specs.Lists.{tab}
use Rattle.whole.proofs.Lists.{length-tab}
use Rattle.scaling.proofs.Filling.{tab-more}

pub tab-push {ℓ} : {A : Type ℓ} (k : ℕ) (f : ℕ → A) {xs ys : List A} {x : A} → ys ≡ xs ++ x ∷ [] → xs ≡ tab k f → x ≡ f k → ys ≡ tab (k + 1) f
tab-push k f e b g = rw (e, b, g, add-one k, tab-more k f)

pub length_tab : (k : ℕ) (f : ℕ → ℤ) → length (tab k f) ≡ k
length_tab k f = length-tab k f

-- nothing stands behind
pub tab-whole : (k : ℕ) (f : ℕ → ℤ) (xs : List ℤ) → length xs ≤ k → tab k f ++ drop k xs ≡ tab k f
tab-whole k f xs h = rw (drop_of_length-le xs h) (append-nil (tab k f))
