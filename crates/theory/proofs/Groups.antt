-- The groups (R6.6): they are in column Hermite form, so that there are at most n of them.
use mathlib.Core.Path.{◌≡◌, sym, ◌∙◌, ap}
use mathlib.Core.Logic.{◌⊎◌, inl, inr}
use Prim.Native.Nat.{ℕ, zero, suc, ◌+◌, ◌-◌, ◌≤◌, ◌<◌}
use native.Mathlib.Omega.{arith}
use native.Mathlib.Decide.{dec_lt}
use lib.ListN.{length}
use lib.IntN.{ℤ, pos, neg_ℤ, neg_ℤ-neg_ℤ, ◌+ℤ◌, ◌*ℤ◌, +ℤ_idr, *ℤ-zero}
use Rattle.whole.specs.Matrix.{Matrix}
use Rattle.whole.proofs.Order.{zarith}
use Rattle.whole.proofs.Ring.{no_zero-div}
use Rattle.whole.proofs.Sum.{sum-out}
use Rattle.rules.specs.Forms.{Hermite, Right}
use Rattle.rules.specs.Problem.{Problem, entry, modulus, s, N, C}
use Rattle.theory.proofs.Kernel.{Kills, last_killed}
use Rattle.theory.proofs.ModulusRows.{modulus_row, modulus-not-zero, modulus_row-within}
use Rattle.theory.proofs.Product.{quantity_part, times-modulus_row}

-- ---- pivot rows that begin at s are at most m - s
module _ {m n r : ℕ} {H : Matrix} {row : ℕ → ℕ} (h : Hermite m n r H row) (s : ℕ) (f : (j : ℕ) → j < r → s ≤ row j) where
  rows_climb : (j : ℕ) → j < r → s + j ≤ row j
  rows_climb zero b = omega (arith, f 0 b)
  rows_climb (suc j) b = omega (arith, rows_climb j (omega arith), h.rising j (suc j) (omega arith) b)

  pub rank-le-rows : r ≤ m - s
  rank-le-rows = go (dec_lt (m - s) r)
    where
      go : Dec (m - s < r) → r ≤ m - s
      go (yes b) = absurd (omega (arith, rows_climb (m - s) b, h.within (m - s) b))
      go (no b) = omega arith

module _ (P : Problem) (len : length P.moduli ≡ P.m) where
  -- a vector that C kills is 0 if its quantity part is
  pub killed_by_quantities : (x : ℕ → ℤ) → Kills P.m (N P) (C P) x → ((j : ℕ) → j < P.n → x (s P + j) ≡ pos 0)
      → (c : ℕ) → c < s P → x c ≡ pos 0
  killed_by_quantities x z q c h = go (no_zero-div (neg_ℤ (modulus P (modulus_row P c))) (x c) product)
    where
      product : neg_ℤ (modulus P (modulus_row P c)) *ℤ x c ≡ pos 0
      product =
          let i = modulus_row P c in
          let p = modulus P i in
          let a = modulus_row-within P len c h in
          let none : quantity_part P x i ≡ pos 0 =
          sum-out P.n (λ j. entry P i j *ℤ x (s P + j)) (λ j b. rw (q j b) (*ℤ-zero (entry P i j))) in
          sym (+ℤ_idr (neg_ℤ p *ℤ x c)) ∙ ap (λ y. neg_ℤ p *ℤ x c +ℤ y) (sym none) ∙ sym (times-modulus_row P x c h a) ∙ z i a

      go : (neg_ℤ (modulus P (modulus_row P c)) ≡ pos 0) ⊎ (x c ≡ pos 0) → x c ≡ pos 0
      go (inl e) = absurd (modulus-not-zero P c h (sym (neg_ℤ-neg_ℤ (modulus P (modulus_row P c))) ∙ ap neg_ℤ e))
      go (inr e) = e

  module _ {r : ℕ} {H U W : Matrix} (R : Right P r H U W) where
    -- so the pivots of the last columns stand in quantity rows
    pub pivots_in_quantities : (l : ℕ) → l < N P - r → s P ≤ R.last_rows l
    pivots_in_quantities l b = go (dec_lt (R.last_rows l) (s P))
      where
        zero_quantities : R.last_rows l < s P → (j : ℕ) → j < P.n → U (s P + j) (r + l) ≡ pos 0
        zero_quantities c j a = R.last_columns.below (s P + j) l b (omega arith) (omega arith)

        go : Dec (R.last_rows l < s P) → s P ≤ R.last_rows l
        go (no c) = omega arith
        go (yes c) = absurd (omega (
          zarith,
          R.last_columns.positive l b,
          killed_by_quantities (λ i. U i (r + l)) (last_killed R l b) (zero_quantities c) (R.last_rows l) c,
        ))

    pub d-le-n : N P - r ≤ P.n
    d-le-n = omega (arith, rank-le-rows R.last_columns (s P) pivots_in_quantities)

    pub s-le-rank : s P ≤ r
    s-le-rank = omega (arith, d-le-n)

    pub groups-hermite : Hermite P.n (N P - r) (N P - r) (λ j g. U (s P + j) (r + g)) (λ g. R.last_rows g - s P)
    groups-hermite = record {
      rank = omega arith;
      rest = λ i j a b c. absurd (omega arith);
      within = λ g b. omega (arith, R.last_columns.within g b, pivots_in_quantities g b);
      below = λ i g b c a. R.last_columns.below (s P + i) g b (omega (arith, pivots_in_quantities g b)) (omega arith);
      rising = λ g l b c. omega (arith, R.last_columns.rising g l b c, pivots_in_quantities g (omega arith), pivots_in_quantities l c);
      positive = λ g b. rw (back g b) (R.last_columns.positive g b);
      right = λ g l b c. rw (back g (omega arith)) (R.last_columns.right g l b c);
    }
      where
        back : (g : ℕ) → g < N P - r → s P + (R.last_rows g - s P) ≡ R.last_rows g
        back g b = omega (arith, pivots_in_quantities g b)
