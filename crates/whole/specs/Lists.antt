-- Lists of whole numbers read at an index, and lists made from a function of the index.
use Rattle.std.specs.Prelude.{List, [], ◌∷◌, ◌++◌, ℕ, zero, suc, get_or, ℤ, pos}

-- the entry at an index; 0 past the end
abbrev pub nth : List ℤ → ℕ → ℤ
nth xs i = get_or xs i (pos 0)

-- f 0, f 1, .., f (n - 1)
abbrev pub tab {ℓ} : {A : Type ℓ} → ℕ → (ℕ → A) → List A
tab zero f = []
tab (suc n) f = f zero ∷ tab n (λ i. f (suc i))

-- one list after the other
abbrev pub join {ℓ} : {A : Type ℓ} → List (List A) → List A
join [] = []
join (x ∷ xs) = x ++ join xs
