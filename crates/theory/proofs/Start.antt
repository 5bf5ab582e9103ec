-- The start (R7.1): its lines, that theorem 1 holds of it, and its shape.
use mathlib.Core.Path.{◌≡◌, refl, sym, ◌∙◌, ap}
use mathlib.Core.List.{List, [], ◌∷◌}
use Prim.Native.Nat.{ℕ, zero, suc, ◌+◌, ◌<◌}
use native.Mathlib.Omega.{arith}
use native.Mathlib.Nat.{add-zero}
use lib.Dec.{eqb-zero-suc, eqb-suc-zero, eqb-suc-suc}
use lib.ListN.{length, get_or, replicate, length-replicate}
use lib.IntN.{ℤ, pos}
use Rattle.whole.specs.Lists.{nth}
use Rattle.whole.specs.Matrix.{Matrix, δ}
use Rattle.whole.proofs.Lists.{nth-replicate}
use Rattle.whole.proofs.Sum.{δ-sym}
use Rattle.whole.proofs.Matrix.{one_mul, mul_one}
use Rattle.whole.proofs.Columns.{kept_same}
use Rattle.rules.specs.Steps.{Line, blank, line, get, get_w, unit, start_lines, start}
use Rattle.theory.proofs.StepLines.{count}
use Rattle.theory.proofs.Lines.{Shape}
use Rattle.theory.proofs.Equations.{Equations}

pub nth-zeros : (n r : ℕ) → nth (replicate n (pos 0)) r ≡ pos 0
nth-zeros n r = nth-replicate n (pos 0) r

pub nth-unit : (n i r : ℕ) → i < n → nth (unit n i) r ≡ δ i r
nth-unit zero i r h = absurd (omega arith)
nth-unit (suc n) zero zero h = refl
nth-unit (suc n) zero (suc r) h = rw (eqb-zero-suc r) (nth-zeros n r)
nth-unit (suc n) (suc i) zero h = rw (eqb-suc-zero i)
nth-unit (suc n) (suc i) (suc r) h = rw (eqb-suc-suc i r) (nth-unit n i r (omega arith))

pub length-unit : (n i : ℕ) → length (unit n i) ≡ n
length-unit zero i = refl
length-unit (suc n) zero = ap suc (length-replicate n (pos 0))
length-unit (suc n) (suc i) = ap suc (length-unit n i)

-- the matrix with these columns
abbrev pub matrix_of : List (List ℤ) → Matrix
matrix_of cols i j = nth (get_or cols j []) i

-- ---- the lines
start_lines_count : (n i : ℕ) (cols : List (List ℤ)) → length (start_lines n i cols) ≡ length cols
unfolding start_lines
start_lines_count n i [] = refl
start_lines_count n i (c ∷ cs) = ap suc (start_lines_count n (suc i) cs)

start_lines_at : (n i : ℕ) (cols : List (List ℤ)) (c : ℕ) → c < length cols
    → get_or (start_lines n i cols) c blank ≡ record { t = get_or cols c []; v = unit n (i + c); w = unit n (i + c) }
unfolding start_lines
start_lines_at n i [] c h = absurd (omega arith)
start_lines_at n i (x ∷ xs) zero h = rw (add-zero i)
start_lines_at n i (x ∷ xs) (suc c) h = let e : i + suc c ≡ suc i + c = omega arith in rw e (start_lines_at n (suc i) xs c (omega arith))

module _ (cols : List (List ℤ)) where
  pub start_count : count (start cols) ≡ length cols
  start_count = start_lines_count (length cols) 0 cols

  pub start_line : (c : ℕ) → c < length cols → line (start cols) c ≡ record { t = get_or cols c []; v = unit (length cols) c; w = unit (length cols) c }
  start_line c h = let z : 0 + c ≡ c = omega arith in rw z at (start_lines_at (length cols) 0 cols c h)

  -- ---- theorem 1 at the start
  pub start_holds : Equations (length cols) (matrix_of cols) (start cols)
  unfolding get get_w
  start_holds =
      let n : ℕ = length cols in
      record {
        lines = start_count;
        tables = kept_same {T = matrix_of cols} {U = δ} {W = δ}
            (λ r c h. ap (λ (l : Line). nth l.t r) (start_line c h))
            (λ r c h. ap (λ (l : Line). nth l.v r) (start_line c h) ∙ nth-unit n c r h ∙ δ-sym c r)
            (λ r c h. ap (λ (l : Line). nth l.w c) (start_line r h) ∙ nth-unit n r c h)
            (record { made = λ r c h. sym (mul_one n (matrix_of cols) r c h); right = λ r c h k. one_mul n δ r c h; left = λ r c h k. one_mul n δ r c h });
      }

  pub start_shape : (m : ℕ) → ((c : ℕ) → c < length cols → length (get_or cols c []) ≡ m) → Shape m (length cols) (start cols)
  start_shape m h = record {
    lines = start_count;
    all = λ c l. rw (start_line c l) (record { t = h c l; v = length-unit (length cols) c; w = length-unit (length cols) c });
  }
