-- C·x, row by row: the modulus column of a row adds -p times its entry of x, the quantity columns add the row times the rest of x.
use mathlib.Core.Path.{◌≡◌, ◌∙◌, ap}
use Prim.Native.Nat.{ℕ, ◌+◌, ◌-◌, ◌<◌}
use native.Mathlib.Omega.{arith}
use lib.IntN.{ℤ, pos, neg_ℤ, ◌+ℤ◌, ◌*ℤ◌, +ℤ_idl, zero-*ℤ}
use Rattle.whole.specs.Sum.{sum}
use Rattle.whole.proofs.Sum.{sum_cong, sum-out, sum_one, sum-split}
use Rattle.rules.specs.Problem.{Problem, entry, modulus, s, N, C}
use Rattle.theory.proofs.ModulusRows.{modulus_row, modulus-not-zero, modulus_rows-apart}
use Rattle.theory.proofs.Shape.{modulus_column_at, modulus_column_else, quantity_column_at}

module _ (P : Problem) (x : ℕ → ℤ) where
  -- the row times the quantity part of x
  abbrev pub quantity_part : ℕ → ℤ
  quantity_part i = sum P.n (λ j. entry P i j *ℤ x (s P + j))

  in_two-parts : (i : ℕ) → i < P.m → sum (N P) (λ c. C P i c *ℤ x c) ≡ sum (s P) (λ c. C P i c *ℤ x c) +ℤ quantity_part i
  in_two-parts i a =
      let e : N P - s P ≡ P.n = omega arith in
      sum-split (s P) (N P) (λ c. C P i c *ℤ x c) (omega arith)
      ∙ ap (λ z. sum (s P) (λ c. C P i c *ℤ x c) +ℤ z) (rw e (sum_cong P.n (λ j. C P i (s P + j) *ℤ x (s P + j)) (λ j. entry P i j *ℤ x (s P + j))
      (λ j b. ap (λ z. z *ℤ x (s P + j)) (quantity_column_at P i j a b))))

  pub times-modulus_row : (c : ℕ) → c < s P → modulus_row P c < P.m
      → sum (N P) (λ k. C P (modulus_row P c) k *ℤ x k) ≡ neg_ℤ (modulus P (modulus_row P c)) *ℤ x c +ℤ quantity_part (modulus_row P c)
  times-modulus_row c h a =
      let i = modulus_row P c in
      in_two-parts i a
      ∙ ap (λ z. z +ℤ quantity_part i) (sum_one (s P) c (λ k. C P i k *ℤ x k) h
      (λ k b d. rw (modulus_column_else P k i b a (modulus_rows-apart P c k h b (omega arith))) (zero-*ℤ (x k)))
      ∙ ap (λ z. z *ℤ x c) (modulus_column_at P c h a))

  pub times_other_row : (i : ℕ) → i < P.m → modulus P i ≡ pos 0 → sum (N P) (λ c. C P i c *ℤ x c) ≡ quantity_part i
  times_other_row i a e =
      in_two-parts i a
      ∙ ap (λ z. z +ℤ quantity_part i) (sum-out (s P) (λ c. C P i c *ℤ x c)
      (λ c b. rw (modulus_column_else P c i b a (λ q. modulus-not-zero P c b (rw (← q) e))) (zero-*ℤ (x c))))
      ∙ +ℤ_idl (quantity_part i)
