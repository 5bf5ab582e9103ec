-- The forms speak of the entries within their sizes alone: what holds of matrices holds of others with the same entries there.
use mathlib.Core.Path.{◌≡◌, refl, sym, ◌∙◌}
use Prim.Native.Nat.{ℕ, ◌+◌, ◌<◌}
use native.Mathlib.Omega.{arith}
use Rattle.whole.specs.Matrix.{Matrix}
use Rattle.whole.proofs.Matrix.{mul_cong}
use Rattle.rules.specs.Forms.{Hermite, Normal}

pub hermite_same : {m n r : ℕ} {H H' : Matrix} {row : ℕ → ℕ} → ((i j : ℕ) → i < m → j < n → H' i j ≡ H i j) → Hermite m n r H row → Hermite m n r H' row
hermite_same {m} {n} {r} {H} {H'} {row} e h = record {
  rank = h.rank;
  rest = λ i j a b c. e i j a c ∙ h.rest i j a b c;
  within = h.within;
  below = λ i j b c a. e i j a (omega (arith, h.rank)) ∙ h.below i j b c a;
  rising = h.rising;
  positive = λ j b. rw (e (row j) j (h.within j b) (omega (arith, h.rank))) (h.positive j b);
  right = λ j l b c.
      rw (e (row j) l (h.within j (omega arith)) (omega (arith, h.rank)), e (row j) j (h.within j (omega arith)) (omega (arith, h.rank)))
      (h.right j l b c);
}

pub normal_same : {m N r : ℕ} {C H U W H' U' W' : Matrix} → ((i j : ℕ) → i < m → j < N → H' i j ≡ H i j)
    → ((i j : ℕ) → i < N → j < N → U' i j ≡ U i j) → ((i j : ℕ) → i < N → j < N → W' i j ≡ W i j)
    → Normal m N r C H U W → Normal m N r C H' U' W'
normal_same {m} {N} {r} {C} {H} {U} {W} {H'} {U'} {W'} e_h e_u e_w R = record {
  rows = R.rows;
  last_rows = R.last_rows;
  product = λ i j a b. mul_cong N C C U' U i j (λ k c. refl) (λ k c. e_u k j c b) ∙ R.product i j a b ∙ sym (e_h i j a b);
  hermite = hermite_same e_h R.hermite;
  inverse_right = λ i j a b. mul_cong N U' U W' W i j (λ k c. e_u i k a c) (λ k c. e_w k j c b) ∙ R.inverse_right i j a b;
  inverse_left = λ i j a b. mul_cong N W' W U' U i j (λ k c. e_w i k a c) (λ k c. e_u k j c b) ∙ R.inverse_left i j a b;
  last_columns = hermite_same (λ i j a b. e_u i (r + j) a (omega arith)) R.last_columns;
  first_columns = λ j k b c.
      rw (
        e_u (R.last_rows j) k (R.last_columns.within j b) (omega (arith, R.hermite.rank)),
        e_u (R.last_rows j) (r + j) (R.last_columns.within j b) (omega arith),
      ) (R.first_columns j k b c);
}
