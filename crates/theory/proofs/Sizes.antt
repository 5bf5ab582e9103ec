-- Sizes within the limits of R2.1 to R2.6: no sum or product that the code takes in 64 bits passes them, and the outputs have room for the contents.
use mathlib.Core.Path.{◌≡◌}
use Prim.Native.Nat.{ℕ, suc, ◌+◌, ◌*◌, ◌-◌, ◌≤◌, ◌<◌, ◌^◌}
use native.Mathlib.Omega.{arith}
use native.Mathlib.Decide.{dec_lt}
use lib.ListN.{length}
use lib.IntN.{ℤ, nat_abs, ◌+ℤ◌, ◌*ℤ◌}
use Rattle.whole.specs.Sum.{sum}
use Rattle.whole.proofs.Order.{abs-add, product_size}
use Rattle.whole.proofs.Division.{quot_le}
use Rattle.whole.proofs.Lists.{length-tab}
use Rattle.whole.proofs.Sum.{products_size}
use Rattle.rules.specs.Limits.{M, most_terms, room_h, room_v, room_w, room_weights, room_exponents}
use Rattle.rules.specs.Problem.{Problem, entry, modulus, WellFormed, s, N}
use Rattle.rules.specs.Stages.{Run, run, H, U, W}
use Rattle.rules.specs.Formulas.{row_times, weight, k_of, k_then_v, d, translated, Formula, terms, term}
use Rattle.rules.specs.Calls.{contents_h, contents_v, contents_w, weights, translated_exponents}
use Rattle.theory.proofs.ModulusRows.{modulus_row, s-le-m}
use Rattle.theory.proofs.RightLists.{RightRun}
use Rattle.theory.proofs.Groups.{d-le-n}
use Rattle.theory.proofs.Weights.{k_then_v_first, k_then_v-rest}
use Rattle.theory.proofs.Grid.{grid_size}

-- one entry of an add step, for any values of 32 bits
pub add_size : (x q y : ℤ) → nat_abs x ≤ suc M → nat_abs q ≤ suc M → nat_abs y ≤ suc M → nat_abs (x +ℤ q *ℤ y) < 2 ^ 63
add_size x q y a b c = omega (arith, abs-add x (q *ℤ y), product_size q y b c)

abbrev pub LimitedExponents : Problem → (ℕ → ℤ) → Type 0
LimitedExponents P v = (j : ℕ) → j < P.n → nat_abs (v j) ≤ 10_000

module _ (P : Problem) (G : WellFormed P) where
  pub s-le_8 : s P ≤ 8
  s-le_8 = omega (arith, s-le-m P G.moduli, G.m-high)

  pub N-le_24 : N P ≤ 24
  N-le_24 = omega (arith, s-le_8, G.n-high)

  -- ---- the weights
  module _ (v : ℕ → ℤ) (E : LimitedExponents P v) where
    pub row-begun_size : (i k : ℕ) → k ≤ P.n → nat_abs (sum k (λ j. entry P i j *ℤ v j)) ≤ 160_000_000
    row-begun_size i k h =
        omega (arith, G.n-high, products_size P.n k 1000 10_000 (λ j. entry P i j) v h (λ j b. G.entries (i * P.n + j)) E)

    pub row_size : (i : ℕ) → nat_abs (row_times P v i) ≤ 160_000_000
    unfolding row_times
    row_size i = row-begun_size i P.n (omega arith)

    pub k_size : (c : ℕ) → c < s P → nat_abs (k_of P v c) ≤ 160_000_000
    unfolding k_of
    k_size c h =
        let i = modulus_row P c in
        omega (arith, quot_le (row_times P v i) (modulus P i), row_size i)

    pub k_then_v_size : (c : ℕ) → c < N P → nat_abs (k_then_v P v c) ≤ 160_000_000
    k_then_v_size c h = go (dec_lt c (s P))
      where
        go : Dec (c < s P) → nat_abs (k_then_v P v c) ≤ 160_000_000
        go (yes b) = rw (k_then_v_first P v c b) (k_size c b)
        go (no b) =
            let e : c ≡ s P + (c - s P) = omega arith in
            rw (e, k_then_v-rest P v (c - s P)) (omega (arith, E (c - s P) (omega arith)))

    -- ---- the translation
    module _ (u : Run) (g : ℕ) (small : (c : ℕ) → c < N P → nat_abs (W u (u.rank + g) c) ≤ M) where
      pub translated-begun_size : (k : ℕ) → k ≤ N P → nat_abs (sum k (λ c. W u (u.rank + g) c *ℤ k_then_v P v c)) ≤ 24 * (M * 160_000_000)
      translated-begun_size k h =
          omega (arith, N-le_24, products_size (N P) k M 160_000_000 (λ c. W u (u.rank + g) c) (k_then_v P v) h small k_then_v_size)

      pub translated-begun-fits : (k : ℕ) → k ≤ N P → nat_abs (sum k (λ c. W u (u.rank + g) c *ℤ k_then_v P v c)) < 2 ^ 63
      translated-begun-fits k h = omega (arith, translated-begun_size k h)

  -- ---- the outputs
  pub room_for_H : length (contents_h P) ≤ room_h
  unfolding contents_h
  room_for_H = grid_size G.m-high N-le_24 (H (run P))

  pub room_for_v : length (contents_v P) ≤ room_v
  unfolding contents_v
  room_for_v = grid_size N-le_24 N-le_24 (U (run P))

  pub room_for_W : length (contents_w P) ≤ room_w
  unfolding contents_w
  room_for_W = grid_size N-le_24 N-le_24 (W (run P))

  pub room_for_weights : (v : ℕ → ℤ) → length (weights P v) ≤ room_weights
  unfolding weights
  room_for_weights v = omega (arith, length-tab P.m (weight P v), G.m-high)

  pub room_for_exponents : RightRun P (run P) → (f : Formula) → terms f ≤ most_terms
      → length (translated_exponents P f) ≤ room_exponents
  unfolding translated_exponents
  room_for_exponents R f h =
      let groups : d P (run P) ≤ 16 = omega (arith, d-le-n P G.moduli R, G.n-high) in
      grid_size h groups (λ t g. translated P (run P) (term P f t) g)
