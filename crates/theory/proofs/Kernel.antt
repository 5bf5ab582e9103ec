-- The last d = N - r columns of a normal V are a basis of the whole vectors that C kills: each is killed, a killed x is their combination with the
-- entries of W·x from r on, and no other coefficients give x.
use mathlib.Core.Path.{◌≡◌, refl, sym, ◌∙◌}
use Prim.Native.Nat.{ℕ, ◌+◌, ◌-◌, ◌<◌}
use native.Mathlib.Omega.{arith}
use lib.IntN.{ℤ, pos, ◌*ℤ◌, zero-*ℤ, *ℤ-zero}
use Rattle.whole.specs.Sum.{sum}
use Rattle.whole.specs.Matrix.{Matrix, mul}
use Rattle.whole.proofs.Sum.{sum-out, sum_head, sum_tail}
use Rattle.whole.proofs.Matrix.{mul_is, mul_cong, mul_assoc, mul_cancel}
use Rattle.rules.specs.Forms.{Normal, from}
use Rattle.theory.proofs.KeyLemma.{independent, one_combination}

-- C, of m rows and n columns, times x is 0
abbrev pub Kills : (m n : ℕ) → Matrix → (ℕ → ℤ) → Type 0
Kills m n C x = (i : ℕ) → i < m → sum n (λ c. C i c *ℤ x c) ≡ pos 0

-- the entries of W·x
abbrev pub coordinate : (n : ℕ) → Matrix → (ℕ → ℤ) → ℕ → ℤ
coordinate n W x l = sum n (λ c. W l c *ℤ x c)

module _ {m N r : ℕ} {C H U W : Matrix} (R : Normal m N r C H U W) where
  -- C·A is [H 0]·(W·A)
  pub product_is : (A : Matrix) (i c : ℕ) → i < m → mul N C A i c ≡ mul N H (mul N W A) i c
  product_is A i c a =
      sym (mul_cong N C C (mul N U (mul N W A)) A i c (λ k b. refl) (λ k b. mul_cancel N U W A R.inverse_right k c b))
      ∙ sym (mul_assoc N N C U (mul N W A) i c)
      ∙ mul_cong N (mul N C U) H (mul N W A) (mul N W A) i c (λ k b. R.product i k a b) (λ k b. refl)

  pub last_killed : (l : ℕ) → l < N - r → Kills m N C (λ c. U c (r + l))
  last_killed l b i a =
      sym (mul_is N C U i (r + l)) ∙ R.product i (r + l) a (omega arith)
      ∙ R.hermite.rest i (r + l) a (omega arith) (omega arith)

  pub combination_killed : (y : ℕ → ℤ) → Kills m N C (λ c. sum (N - r) (λ l. U c (r + l) *ℤ y l))
  unfolding mul
  combination_killed y i a =
      let Y : Matrix = λ l k. y l in
      sym (mul_assoc (N - r) N C (from r U) Y i 0)
      ∙ sum-out (N - r) (λ l. mul N C (from r U) i l *ℤ y l) (λ l b. rw (last_killed l b i a) (zero-*ℤ (y l)))

  module _ (x : ℕ → ℤ) (z : Kills m N C x) where
    -- x as a matrix of one column
    column : Matrix
    column c k = x c

    first_zero : (j : ℕ) → j < r → coordinate N W x j ≡ pos 0
    unfolding mul column
    first_zero = independent R.hermite (coordinate N W x)
        (λ i a. sym (sum_head r N (λ j. H i j *ℤ coordinate N W x j) R.hermite.rank
        (λ j b c. rw (R.hermite.rest i j a b c) (zero-*ℤ (coordinate N W x j)))) ∙ sym (product_is column i 0 a) ∙ z i a)

    pub killed_is : (i : ℕ) → i < N → x i ≡ sum (N - r) (λ l. U i (r + l) *ℤ coordinate N W x (r + l))
    unfolding mul column
    killed_is i a =
        sym (mul_cancel N U W column R.inverse_right i 0 a)
        ∙ sum_tail r N (λ j. U i j *ℤ coordinate N W x j) R.hermite.rank (λ j b. rw (first_zero j b) (*ℤ-zero (U i j)))

    pub killed_only : (y : ℕ → ℤ) → ((i : ℕ) → i < N → x i ≡ sum (N - r) (λ l. U i (r + l) *ℤ y l))
        → (l : ℕ) → l < N - r → y l ≡ coordinate N W x (r + l)
    killed_only y e = one_combination R.last_columns y (λ l. coordinate N W x (r + l)) (λ i a. sym (e i a) ∙ killed_is i a)
