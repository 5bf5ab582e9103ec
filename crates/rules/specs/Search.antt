-- Searches and loops over indices. 'lo to hi' means lo, lo + 1, .., hi - 1.
use Rattle.std.specs.Prelude.{Bool, true, false, ℕ, zero, suc, ◌+◌, ltb, eqb}

pub data Found : Type 0 where
  none : Found
  found : ℕ → Found

-- ---- the first index of lo to hi where a test holds
-- c comes after what was found so far
abbrev pub or_at : (ℕ → Bool) → ℕ → Found → Found
or_at f c (found j) = found j
or_at f c none = elim (f c) [ true ↦ found c | false ↦ none ]

unfoldable pub first : (ℕ → Bool) → (lo hi : ℕ) → Found
first f lo zero = none
first f lo (suc c) = elim (ltb c lo) [ true ↦ none | false ↦ or_at f c (first f lo c) ]

-- ---- the last index below hi where a test holds
unfoldable pub last : (ℕ → Bool) → (hi : ℕ) → Found
last f zero = none
last f (suc c) = elim (f c) [ true ↦ found c | false ↦ last f c ]

-- ---- the index of lo to hi where f is smallest and not 0, the lowest on a tie
abbrev pub or_smaller : (ℕ → ℕ) → ℕ → Found → Found
or_smaller f c none = elim (eqb (f c) 0) [ true ↦ none | false ↦ found c ]
or_smaller f c (found p) = elim (eqb (f c) 0) [ true ↦ found p | false ↦ elim (ltb (f c) (f p)) [ true ↦ found c | false ↦ found p ] ]

unfoldable pub smallest : (ℕ → ℕ) → (lo hi : ℕ) → Found
smallest f lo zero = none
smallest f lo (suc c) = elim (ltb c lo) [ true ↦ none | false ↦ or_smaller f c (smallest f lo c) ]

-- ---- the sum of f over lo to hi
unfoldable pub total : (ℕ → ℕ) → (lo hi : ℕ) → ℕ
total f lo zero = 0
total f lo (suc c) = elim (ltb c lo) [ true ↦ 0 | false ↦ total f lo c + f c ]

-- ---- f at each index of lo to hi, in order
unfoldable pub each {ℓ} : {S : Type ℓ} → (ℕ → S → S) → (lo hi : ℕ) → S → S
each f lo zero s = s
each f lo (suc c) s = elim (ltb c lo) [ true ↦ s | false ↦ f c (each f lo c s) ]
