-- The shape of the matrix C of a problem: s modulus columns, each -p in its row and 0 elsewhere, then the n quantity columns.
use mathlib.Core.Path.{◌≡◌, refl, ◌∙◌, ap}
use mathlib.Core.Logic.{◌≢◌}
use mathlib.Core.Bool.{true, false}
use mathlib.Core.List.{List, []}
use Prim.Native.Nat.{ℕ, ◌+◌, ◌-◌, ◌<◌}
use native.Mathlib.Omega.{arith}
use native.Mathlib.Decide.{dec_lt}
use lib.Dec.{eqb}
use lib.ListN.{length, get_or, length-append, length-map, get_or-append}
use lib.IntN.{ℤ, pos, neg_ℤ}
use Rattle.whole.specs.Lists.{nth, tab}
use borrow.Author.Tests.{eq-eqb, ne_eqb}
use Rattle.whole.proofs.Lists.{length-tab, nth-tab, nth-rest, get_d_map}
use Rattle.rules.specs.Problem.{Problem, entry, modulus, modulus_rows, s, N, modulus_column, modulus_columns, quantity_columns, columns, C}
use Rattle.theory.proofs.ModulusRows.{modulus_row}

module _ (P : Problem) where
  length-modulus_columns : length (modulus_columns P) ≡ s P
  length-modulus_columns = length-map (modulus_rows P) (modulus_column P)

  quantity_column : ℕ → List ℤ
  quantity_column j = tab P.m (λ i. entry P i j)

  pub length-columns : length (columns P) ≡ N P
  unfolding columns
  length-columns =
      length-append (modulus_columns P) (quantity_columns P)
      ∙ omega (arith, length-modulus_columns, length-tab P.n (λ j. tab P.m (λ i. entry P i j)))

  -- ---- the columns as lists
  modulus-column : (c : ℕ) → c < s P → get_or (columns P) c [] ≡ modulus_column P (modulus_row P c)
  unfolding columns
  modulus-column c h =
      get_or-append (modulus_columns P) (quantity_columns P) [] c (omega (arith, length-modulus_columns))
      ∙ get_d_map (modulus_column P) (modulus_rows P) c 0 [] h

  quantity-column : (j : ℕ) → j < P.n → get_or (columns P) (s P + j) [] ≡ quantity_column j
  unfolding columns quantity_column
  quantity-column j b =
      let e : s P + j - length (modulus_columns P) ≡ j = omega (arith, length-modulus_columns) in
      nth-rest (modulus_columns P) (quantity_columns P) (s P + j) [] (omega (arith, length-modulus_columns))
      ∙ ap (λ (k : ℕ). get_or (quantity_columns P) k []) e ∙ nth-tab P.n (λ j. tab P.m (λ i. entry P i j)) j [] b

  pub column-length : (c : ℕ) → c < N P → length (get_or (columns P) c []) ≡ P.m
  unfolding quantity_column
  column-length c h = go (dec_lt c (s P))
    where
      go : Dec (c < s P) → length (get_or (columns P) c []) ≡ P.m
      go (yes b) =
          ap length (modulus-column c b)
          ∙ length-tab P.m (λ i. elim (eqb (modulus_row P c) i) [ true ↦ neg_ℤ (modulus P (modulus_row P c)) | false ↦ pos 0 ])
      go (no b) =
          let e : c ≡ s P + (c - s P) = omega arith in
          rw e (ap length (quantity-column (c - s P) (omega arith)) ∙ length-tab P.m (λ i. entry P i (c - s P)))

  -- ---- the entries of C
  modulus-entry : (c i : ℕ) → c < s P → i < P.m
      → C P i c ≡ elim (eqb (modulus_row P c) i) [ true ↦ neg_ℤ (modulus P (modulus_row P c)) | false ↦ pos 0 ]
  unfolding C
  modulus-entry c i h a =
      ap (λ (l : List ℤ). nth l i) (modulus-column c h)
      ∙ nth-tab P.m (λ r. elim (eqb (modulus_row P c) r) [ true ↦ neg_ℤ (modulus P (modulus_row P c)) | false ↦ pos 0 ]) i (pos 0) a

  pub modulus_column_at : (c : ℕ) → c < s P → modulus_row P c < P.m → C P (modulus_row P c) c ≡ neg_ℤ (modulus P (modulus_row P c))
  modulus_column_at c h a = modulus-entry c (modulus_row P c) h a ∙ rw (eq-eqb (modulus_row P c) (modulus_row P c) refl)

  pub modulus_column_else : (c i : ℕ) → c < s P → i < P.m → i ≢ modulus_row P c → C P i c ≡ pos 0
  modulus_column_else c i h a d = modulus-entry c i h a ∙ rw (ne_eqb (modulus_row P c) i (omega arith))

  pub quantity_column_at : (i j : ℕ) → i < P.m → j < P.n → C P i (s P + j) ≡ entry P i j
  unfolding C quantity_column
  quantity_column_at i j a b = ap (λ (l : List ℤ). nth l i) (quantity-column j b) ∙ nth-tab P.m (λ i. entry P i j) i (pos 0) a
