-- What the lines of a good input say: the problem and the formula have the lengths that their sizes ask, and each of their numbers is the one on its line.
use mathlib.Core.Path.{◌≡◌, refl, sym, ◌∙◌, ap}
use mathlib.Core.List.{List, [], ◌∷◌, map}
use Prim.Native.Nat.{ℕ, ◌+◌, ◌-◌, ◌*◌, ◌≤◌, ◌<◌}
use native.Mathlib.Omega.{arith}
use native.Mathlib.Decide.{dec_le}
use lib.ListN.{length, take, drop, length-drop, length-map}
use lib.Seq.{length-take-le, get_or-take, get_or-drop}
use lib.IntN.{ℤ, pos}
use Rattle.whole.specs.Lists.{nth, tab, join}
use Rattle.whole.proofs.Lists.{get_d_map, length-join, join-at}
use Rattle.rules.specs.Problem.{entry, modulus}
use Rattle.rules.specs.Formulas.{terms, term}
use Rattle.rules.specs.Frames.{TextLine, torn, frame_of, row_modulus, row_entries, term_coefficient, term_exponents}
use Rattle.theory.proofs.Bytes.{length-shorts}
use Rattle.demands.proofs.Table.{FormulaLengths}
use Rattle.demands.proofs.InputLines.{line_at, m_said, n_said, WellFormedInput, problem_said, formula_said, form_number}

-- ---- n numbers for each line
map_tab : (g : TextLine → List ℤ) (xs : List TextLine) → map g xs ≡ tab (length xs) (λ i. g (line_at xs i))
map_tab g [] = refl
map_tab g (x ∷ xs) = ap (λ (r : List (List ℤ)). g x ∷ r) (map_tab g xs)

module _ (n : ℕ) (g : TextLine → List ℤ) (has : (l : TextLine) → length (g l) ≡ n) (xs : List TextLine) where
  length-numbers : length (join (map g xs)) ≡ length xs * n
  length-numbers = ap (λ (r : List (List ℤ)). length (join r)) (map_tab g xs) ∙ length-join n (length xs) (λ i. g (line_at xs i)) (λ i _. has (line_at xs i))

  number_at : (i j : ℕ) → i < length xs → j < n → nth (join (map g xs)) (i * n + j) ≡ nth (g (line_at xs i)) j
  number_at i j h k =
      ap (λ (r : List (List ℤ)). nth (join r) (i * n + j)) (map_tab g xs)
      ∙ join-at n (length xs) (λ i. g (line_at xs i)) (pos 0) (λ i _. has (line_at xs i)) i j h k

row-length : (n : ℕ) (l : TextLine) → length (row_entries n l) ≡ n
unfolding row_entries
row-length n l = length-shorts n (drop 3 (frame_of l))

term-length : (n : ℕ) (l : TextLine) → length (term_exponents n l) ≡ n
unfolding term_exponents
term-length n l = length-shorts n (drop 5 (frame_of l))

module _ (ls : List TextLine) (F : WellFormedInput ls) where
  abbrev m : ℕ
  m = m_said ls

  abbrev n : ℕ
  n = n_said ls

  abbrev matrix_lines : List TextLine
  matrix_lines = take m (drop 1 ls)

  abbrev formula_lines : List TextLine
  formula_lines = drop m (drop 1 ls)

  rows_count : length matrix_lines ≡ m
  rows_count = length-take-le m (drop 1 ls) (omega (arith, length-drop 1 ls, F.rows))

  terms_count : length formula_lines ≡ length ls - 1 - m
  terms_count = length-drop m (drop 1 ls) ∙ ap (λ (k : ℕ). k - m) (length-drop 1 ls)

  few-terms : length formula_lines ≤ 64
  few-terms = go (dec_le (length ls) (m + 65))
    where
      go : Dec (length ls ≤ m + 65) → length formula_lines ≤ 64
      go (yes h) = omega (arith, terms_count)
      go (no h) = absurd (omega (arith, form_number (F.lines (m + 65) (omega arith))))

  row_at : (i : ℕ) → i < m → line_at matrix_lines i ≡ line_at ls (1 + i)
  row_at i h = get_or-take m (drop 1 ls) i (torn []) h ∙ get_or-drop 1 ls i (torn [])

  term_at : (t : ℕ) → line_at formula_lines t ≡ line_at ls (1 + m + t)
  term_at t =
      get_or-drop m (drop 1 ls) t (torn []) ∙ get_or-drop 1 ls (m + t) (torn [])
      ∙ ap (λ (k : ℕ). line_at ls k) (omega arith)

  -- ---- refusal 2 cannot come: the lengths are those of R4.2
  pub lengths-fit : FormulaLengths (problem_said ls) (formula_said ls)
  lengths-fit =
      let cs : terms (formula_said ls) ≡ length formula_lines = length-map formula_lines term_coefficient in (
        (length-numbers n (row_entries n) (row-length n) matrix_lines ∙ ap (λ (k : ℕ). k * n) rows_count, length-map matrix_lines row_modulus ∙ rows_count),
        length-numbers n (term_exponents n) (term-length n) formula_lines ∙ ap (λ (k : ℕ). k * n) (sym cs),
        omega (arith, few-terms),
      )

  -- ---- each line's numbers; there are as many terms as lines after the matrix
  pub terms_said : terms (formula_said ls) ≡ length ls - 1 - m_said ls
  terms_said = length-map formula_lines term_coefficient ∙ terms_count

  pub modulus_said : (i : ℕ) → i < m_said ls → modulus (problem_said ls) i ≡ row_modulus (line_at ls (1 + i))
  modulus_said i h =
      let l = rows_count in
      get_d_map row_modulus matrix_lines i (torn []) (pos 0) (omega arith) ∙ ap row_modulus (row_at i h)

  pub entry_said : (i j : ℕ) → i < m_said ls → j < n_said ls → entry (problem_said ls) i j ≡ nth (row_entries (n_said ls) (line_at ls (1 + i))) j
  entry_said i j h k =
      let l = rows_count in
      number_at n (row_entries n) (row-length n) matrix_lines i j (omega arith) k ∙ ap (λ (l : TextLine). nth (row_entries n l) j) (row_at i h)

  module _ (t : ℕ) (within : t < terms (formula_said ls)) where
    inside : t < length formula_lines
    inside = omega (arith, length-map formula_lines term_coefficient)

    pub coefficient_said : nth (formula_said ls).coefficients t ≡ term_coefficient (line_at ls (1 + m_said ls + t))
    coefficient_said = get_d_map term_coefficient formula_lines t (torn []) (pos 0) inside ∙ ap term_coefficient (term_at t)

    pub term_said : (j : ℕ) → j < n_said ls → term (problem_said ls) (formula_said ls) t j ≡ nth (term_exponents (n_said ls) (line_at ls (1 + m_said ls + t))) j
    term_said j k =
        number_at n (term_exponents n) (term-length n) formula_lines t j inside k ∙ ap (λ (l : TextLine). nth (term_exponents n l) j) (term_at t)
