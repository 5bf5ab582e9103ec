-- Section 8 of the rules, and the groups (R6.6). A monomial is its exponents v, one for each quantity, numbered from 0.
use Rattle.std.specs.Prelude.{◌≡◌, Bool, true, false, not, List, ℕ, ◌+◌, ◌-◌, ◌*◌, ◌≤◌, ◌<◌, ltb, length, get_or, ℤ, pos, nat_abs, ◌*ℤ◌}
use Rattle.std.specs.Int.Signed.{quot_z, rem_z}
use Rattle.whole.specs.Lists.{nth}
use Rattle.whole.specs.Sum.{sum}
use Rattle.rules.specs.Limits.{is_zero, beyond, most_terms}
use Rattle.rules.specs.Search.{Found, none, found, first}
use Rattle.rules.specs.Problem.{Problem, entry, modulus, modulus_rows, s, N}
use Rattle.rules.specs.Stages.{Run, U, W}

-- R8.1: the product of row i with v
unfoldable pub row_times : Problem → (v : ℕ → ℤ) → (i : ℕ) → ℤ
row_times P v i = sum P.n (λ j. entry P i j *ℤ v j)

-- R8.2: the quotient is cut toward zero, so the remainder has the sign of the dividend
unfoldable pub remainder : (dividend modulus : ℤ) → ℤ
remainder x p = rem_z x p

-- R8.1 without a modulus, R8.2 with one
unfoldable pub weight : Problem → (v : ℕ → ℤ) → (i : ℕ) → ℤ
weight P v i = elim (is_zero (modulus P i)) [ true ↦ row_times P v i | false ↦ remainder (row_times P v i) (modulus P i) ]

-- R8.3
pub record Free (P : Problem) (v : ℕ → ℤ) : Type 0 where
  pub weights : (i : ℕ) → i < P.m → weight P v i ≡ pos 0

-- the same as a test: no row has a weight that is not 0
abbrev pub is_none : Found → Bool
is_none none = true
is_none (found i) = false

unfoldable pub is_free : Problem → (v : ℕ → ℤ) → Bool
is_free P v = is_none (first (λ i. not (is_zero (weight P v i))) 0 P.m)

-- R8.4: entry c of k, for the row of modulus column c
unfoldable pub k_of : Problem → (v : ℕ → ℤ) → (c : ℕ) → ℤ
k_of P v c =
    let i : ℕ = get_or (modulus_rows P) c 0 in
    quot_z (row_times P v i) (modulus P i)

-- R8.5: k, then v
unfoldable pub k_then_v : Problem → (v : ℕ → ℤ) → (c : ℕ) → ℤ
k_then_v P v c = elim (ltb c (s P)) [ true ↦ k_of P v c | false ↦ v (c - s P) ]

-- R6.6: the number of groups
abbrev pub d : Problem → Run → ℕ
d P u = N P - u.rank

-- R8.5: the exponent of group g, from row r + g of W
unfoldable pub translated : Problem → Run → (v : ℕ → ℤ) → (g : ℕ) → ℤ
translated P u v g = sum (N P) (λ c. W u (u.rank + g) c *ℤ k_then_v P v c)

-- R6.6: the exponent of quantity j in group g, from column r + g of V
unfoldable pub group : Problem → Run → (g j : ℕ) → ℤ
group P u g j = U u (s P + j) (u.rank + g)

-- ---- formulas
-- a coefficient for each term (any: R2.7), and n exponents for each term, term after term
pub record Formula : Type 0 where
  pub coefficients : List ℤ
  pub exponents : List ℤ

abbrev pub terms : Formula → ℕ
terms f = length f.coefficients

-- the exponents of term t
abbrev pub term : Problem → Formula → (t : ℕ) → ℕ → ℤ
term P f t j = nth f.exponents (t * P.n + j)

-- R2.5 and R2.6, with n exponents for each term. Past the end of the list nth is 0.
pub record WellFormedFormula (P : Problem) (f : Formula) : Type 0 where
  pub few : terms f ≤ most_terms
  pub fits : length f.exponents ≡ terms f * P.n
  pub small : (i : ℕ) → nat_abs (nth f.exponents i) ≤ 10_000

-- whether a translated exponent is beyond M
unfoldable pub passes : Problem → Run → (v : ℕ → ℤ) → Bool
passes P u v = not (is_none (first (λ g. beyond (translated P u v g)) 0 (d P u)))
