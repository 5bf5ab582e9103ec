-- The product of matrices, `mul` of specs/Matrix, is associative and has the identity δ.
-- A matrix is a function of all indices, and a size is said only where one matters: equality is by entries, at those indices at which it holds.
use mathlib.Core.Path.{◌≡◌, refl, sym, ◌∙◌, ap₂}
use Prim.Native.Nat.{ℕ, ◌<◌}
use lib.IntN.{◌*ℤ◌, ◌-ℤ◌, *ℤ_comm}
use Rattle.whole.specs.Sum.{sum}
use Rattle.whole.specs.Matrix.{Matrix, mul, δ}
use Rattle.whole.proofs.Ring.{*ℤ-assoc}
use Rattle.whole.proofs.Solver.{◌⊗◌, ◌⊖◌, ◌≟◌, ring₃}
use Rattle.whole.proofs.Sum.{sum_cong, sum-sub, sum_mull, sum_mulr, sum-swap, sum-δ, δ-sym}

pub mul_is : (n : ℕ) (A B : Matrix) (r c : ℕ) → mul n A B r c ≡ sum n (λ k. A r k *ℤ B k c)
unfolding mul
mul_is n A B r c = refl

pub mul_cong : (n : ℕ) (A A' B B' : Matrix) (r c : ℕ) → ((k : ℕ) → k < n → A r k ≡ A' r k) → ((k : ℕ) → k < n → B k c ≡ B' k c)
    → mul n A B r c ≡ mul n A' B' r c
unfolding mul
mul_cong n A A' B B' r c h g = sum_cong n (λ k. A r k *ℤ B k c) (λ k. A' r k *ℤ B' k c) (λ k l. ap₂ ◌*ℤ◌ (h k l) (g k l))

pub mul_assoc : (m n : ℕ) (A B C : Matrix) (r c : ℕ) → mul m (mul n A B) C r c ≡ mul n A (mul m B C) r c
unfolding mul
mul_assoc m n A B C r c =
    sum_cong m (λ j. sum n (λ i. A r i *ℤ B i j) *ℤ C j c) (λ j. sum n (λ i. A r i *ℤ (B i j *ℤ C j c)))
    (λ j l. sym (sum_mulr n (C j c) (λ i. A r i *ℤ B i j))
    ∙ sum_cong n (λ i. A r i *ℤ B i j *ℤ C j c) (λ i. A r i *ℤ (B i j *ℤ C j c)) (λ i h. *ℤ-assoc (A r i) (B i j) (C j c)))
    ∙ sum-swap m n (λ j i. A r i *ℤ (B i j *ℤ C j c))
    ∙ sum_cong n (λ i. sum m (λ j. A r i *ℤ (B i j *ℤ C j c))) (λ i. A r i *ℤ sum m (λ j. B i j *ℤ C j c))
    (λ i l. sum_mull m (A r i) (λ j. B i j *ℤ C j c))

pub one_mul : (n : ℕ) (A : Matrix) (r c : ℕ) → r < n → mul n δ A r c ≡ A r c
unfolding mul
one_mul n A r c l = sum-δ n r (λ k. A k c) l

pub mul_one : (n : ℕ) (A : Matrix) (r c : ℕ) → c < n → mul n A δ r c ≡ A r c
unfolding mul
mul_one n A r c l = sum_cong n (λ k. A r k *ℤ δ k c) (λ k. δ c k *ℤ A r k) (λ k h. rw (δ-sym k c) (*ℤ_comm (A r k) (δ c k))) ∙ sum-δ n c (λ k. A r k) l

pub mul-sub : (n : ℕ) (A B C : Matrix) (r c : ℕ) → mul n A (λ i j. B i j -ℤ C i j) r c ≡ mul n A B r c -ℤ mul n A C r c
unfolding mul
mul-sub n A B C r c =
    sum_cong n (λ i. A r i *ℤ (B i c -ℤ C i c)) (λ i. A r i *ℤ B i c -ℤ A r i *ℤ C i c)
    (λ i l. ring₃ (A r i) (B i c) (C i c) (λ a b c. a ⊗ (b ⊖ c) ≟ a ⊗ b ⊖ a ⊗ c) tt)
    ∙ sum-sub n (λ i. A r i *ℤ B i c) (λ i. A r i *ℤ C i c)

-- ---- inverses
-- A · B is the identity, both n by n
abbrev pub Inverse : ℕ → Matrix → Matrix → Type 0
Inverse n A B = (r c : ℕ) → r < n → c < n → mul n A B r c ≡ δ r c

pub mul_cancel : (n : ℕ) (A B C : Matrix) → Inverse n A B → (r c : ℕ) → r < n → mul n A (mul n B C) r c ≡ C r c
mul_cancel n A B C i r c l =
    sym (mul_assoc n n A B C r c)
    ∙ mul_cong n (mul n A B) δ C C r c (λ k h. i r k l h) (λ k h. refl)
    ∙ one_mul n C r c l
