-- The three column steps: add a multiple of a column to another, exchange two columns, negate a column. Taken on the columns of T and of U, with the inverse
-- step on the rows of W, each keeps that T is C · U and that W is the inverse of U.
-- (U is the table that is called V in the rest of the product: V is a reserved word of antt.)
-- A column step is the product by a matrix from the right, and its row step the product by that matrix's inverse from the left, so that associativity of the
-- product proves all three; what is left for each is that its branches by index are those products.
use mathlib.Core.Path.{◌≡◌, refl, sym, ◌∙◌, ap, ap₂}
use mathlib.Core.Logic.{◌≢◌}
use mathlib.Core.Bool.{Bool, true, false, cond}
use Prim.Native.Nat.{ℕ, ◌<◌}
use native.Mathlib.Omega.{arith}
use lib.Dec.{eqb}
use lib.IntN.{ℤ, pos, negsuc, neg_ℤ, ◌+ℤ◌, ◌*ℤ◌, ◌-ℤ◌, +ℤ_invl, +ℤ_invr}
use Rattle.whole.specs.Matrix.{Matrix, mul, bit, δ}
use Rattle.whole.proofs.Ring.{*ℤ-assoc, *ℤ-left-comm, one_*ℤ}
use Rattle.whole.proofs.Solver.{con, ◌⊕◌, ◌⊗◌, ◌⊖◌, ⊝◌, ◌≟◌, ring₂, ring₃, ring₄, ring₅}
use Rattle.whole.proofs.Sum.{sum_cong, sum-add, sum_mull, sum-δ, δ-diff, δ-sym}
use Rattle.whole.proofs.Matrix.{mul_cong, mul_assoc, one_mul, mul_one, Inverse, mul_cancel}
use Rattle.whole.proofs.Exchange.{tr, tr-tr, tr-lt, δ-tr}

-- ---- what is kept
-- C and T have n columns and any number of rows; U and W are n by n
pub record Kept (n : ℕ) (C T U W : Matrix) : Type 0 where
  pub made : (r c : ℕ) → c < n → T r c ≡ mul n C U r c
  pub right : Inverse n U W
  pub left : Inverse n W U

pub kept_same : {n : ℕ} {C T T' U U' W W' : Matrix} → ((r c : ℕ) → c < n → T' r c ≡ T r c) → ((r c : ℕ) → c < n → U' r c ≡ U r c)
    → ((r c : ℕ) → r < n → W' r c ≡ W r c) → Kept n C T U W → Kept n C T' U' W'
kept_same {n} {C} {T} {T'} {U} {U'} {W} {W'} t u w k = record {
  made = λ r c hc. t r c hc ∙ k.made r c hc ∙ mul_cong n C C U U' r c (λ i l. refl) (λ i l. sym (u i c hc));
  right = λ r c hr hc. mul_cong n U' U W' W r c (λ i l. u r i l) (λ i l. w i c l) ∙ k.right r c hr hc;
  left = λ r c hr hc. mul_cong n W' W U' U r c (λ i l. w r i hr) (λ i l. u i c hc) ∙ k.left r c hr hc;
}

-- (A · B) · (B' · D) is A · D
inner_out : (n : ℕ) (A B B' D : Matrix) → Inverse n B B' → (r c : ℕ) → mul n (mul n A B) (mul n B' D) r c ≡ mul n A D r c
inner_out n A B B' D i r c = mul_assoc n n A B (mul n B' D) r c
    ∙ mul_cong n A A (mul n B (mul n B' D)) D r c (λ k l. refl) (λ k l. mul_cancel n B B' D i k c l)

-- any invertible step
pub step_kept : {n : ℕ} {C T U W : Matrix} (E F : Matrix) → Inverse n E F → Inverse n F E → Kept n C T U W → Kept n C (mul n T E) (mul n U E) (mul n F W)
step_kept {n} {C} {T} {U} {W} E F e f k = record {
  made = λ r c hc. mul_cong n T (mul n C U) E E r c (λ i l. k.made r i l) (λ i l. refl) ∙ mul_assoc n n C U E r c;
  right = λ r c hr hc. inner_out n U E F W e r c ∙ k.right r c hr hc;
  left = λ r c hr hc. inner_out n F W U E k.left r c ∙ f r c hr hc;
}

-- ---- q times column i is added to column j; q times row j is taken from row i
unfoldable pub addcol : ℤ → ℕ → ℕ → Matrix → Matrix
addcol q i j A r c = cond (eqb j c) (A r c +ℤ q *ℤ A r i) (A r c)

unfoldable pub subrow : ℤ → ℕ → ℕ → Matrix → Matrix
subrow q i j A r c = cond (eqb i r) (A r c -ℤ q *ℤ A j c) (A r c)

bit-add : (b : Bool) (x y : ℤ) → cond b (x +ℤ y) x ≡ x +ℤ bit b *ℤ y
bit-add true x y = ring₂ x y (λ x y. x ⊕ y ≟ x ⊕ con (pos 1) ⊗ y) tt
bit-add false x y = ring₂ x y (λ x y. x ≟ x ⊕ con (pos 0) ⊗ y) tt

-- with δ in place of the branch, so that the solver reads it
pub addcol-δ : (q : ℤ) (i j : ℕ) (A : Matrix) (r c : ℕ) → addcol q i j A r c ≡ A r c +ℤ δ j c *ℤ (q *ℤ A r i)
unfolding addcol
addcol-δ q i j A r c = bit-add (eqb j c) (A r c) (q *ℤ A r i)

pub subrow-δ : (q : ℤ) (i j : ℕ) (A : Matrix) (r c : ℕ) → subrow q i j A r c ≡ A r c -ℤ δ i r *ℤ (q *ℤ A j c)
unfolding subrow
subrow-δ q i j A r c = bit-add (eqb i r) (A r c) (neg_ℤ (q *ℤ A j c)) ∙ ring₃ (A r c) (δ i r) (q *ℤ A j c) (λ x d y. x ⊕ d ⊗ ⊝ y ≟ x ⊖ d ⊗ y) tt

-- the identity with q in row i of column j
shear : ℤ → ℕ → ℕ → Matrix
shear q i j r c = δ r c +ℤ q *ℤ (δ r i *ℤ δ j c)

mul-shear : (n : ℕ) (q : ℤ) (i j : ℕ) (A : Matrix) (r c : ℕ) → i < n → c < n → mul n A (shear q i j) r c ≡ addcol q i j A r c
unfolding mul shear
mul-shear n q i j A r c hi hc =
    sum_cong n (λ k. A r k *ℤ (δ k c +ℤ q *ℤ (δ k i *ℤ δ j c))) (λ k. A r k *ℤ δ k c +ℤ δ j c *ℤ q *ℤ (A r k *ℤ δ k i))
    (λ k l. ring₅ (A r k) (δ k c) q (δ k i) (δ j c) (λ a d q e f. a ⊗ (d ⊕ q ⊗ (e ⊗ f)) ≟ a ⊗ d ⊕ f ⊗ q ⊗ (a ⊗ e)) tt)
    ∙ sum-add n (λ k. A r k *ℤ δ k c) (λ k. δ j c *ℤ q *ℤ (A r k *ℤ δ k i))
    ∙ ap₂ ◌+ℤ◌ (mul_one n A r c hc) (sum_mull n (δ j c *ℤ q) (λ k. A r k *ℤ δ k i) ∙ ap (λ z. δ j c *ℤ q *ℤ z) (mul_one n A r i hi))
    ∙ ap (λ z. A r c +ℤ z) (*ℤ-assoc (δ j c) q (A r i))
    ∙ sym (addcol-δ q i j A r c)

shear-mul : (n : ℕ) (q : ℤ) (i j : ℕ) (A : Matrix) (r c : ℕ) → j < n → r < n → mul n (shear (neg_ℤ q) i j) A r c ≡ subrow q i j A r c
unfolding mul shear
shear-mul n q i j A r c hj hr =
    sum_cong n (λ k. (δ r k +ℤ neg_ℤ q *ℤ (δ r i *ℤ δ j k)) *ℤ A k c) (λ k. δ r k *ℤ A k c +ℤ neg_ℤ q *ℤ δ r i *ℤ (δ j k *ℤ A k c))
    (λ k l. ring₅ (δ r k) q (δ r i) (δ j k) (A k c) (λ d q e f a. (d ⊕ ⊝ q ⊗ (e ⊗ f)) ⊗ a ≟ d ⊗ a ⊕ ⊝ q ⊗ e ⊗ (f ⊗ a)) tt)
    ∙ sum-add n (λ k. δ r k *ℤ A k c) (λ k. neg_ℤ q *ℤ δ r i *ℤ (δ j k *ℤ A k c))
    ∙ ap₂ ◌+ℤ◌ (one_mul n A r c hr) (sum_mull n (neg_ℤ q *ℤ δ r i) (λ k. δ j k *ℤ A k c) ∙ ap (λ z. neg_ℤ q *ℤ δ r i *ℤ z) (one_mul n A j c hj))
    ∙ rw (δ-sym r i) (ring₄ (A r c) q (δ i r) (A j c) (λ x q d y. x ⊕ ⊝ q ⊗ d ⊗ y ≟ x ⊖ d ⊗ (q ⊗ y)) tt)
    ∙ sym (subrow-δ q i j A r c)

shear_inverse : (n : ℕ) (p q : ℤ) (i j : ℕ) → p +ℤ q ≡ pos 0 → i < n → i ≢ j → Inverse n (shear p i j) (shear q i j)
unfolding shear
shear_inverse n p q i j e hi d r c hr hc =
    mul-shear n q i j (shear p i j) r c hi hc
    ∙ addcol-δ q i j (shear p i j) r c
    ∙ rw (δ-diff j i (omega arith))
    (ring₅ (δ r c) p q (δ r i) (δ j c) (λ x p q u v. x ⊕ p ⊗ (u ⊗ v) ⊕ v ⊗ (q ⊗ (u ⊕ p ⊗ (u ⊗ con (pos 0)))) ≟ x ⊕ (p ⊕ q) ⊗ (u ⊗ v)) tt)
    ∙ ap (λ z. δ r c +ℤ z *ℤ (δ r i *ℤ δ j c)) e
    ∙ ring₃ (δ r c) (δ r i) (δ j c) (λ x u v. x ⊕ con (pos 0) ⊗ (u ⊗ v) ≟ x) tt

pub add_kept : {n : ℕ} {C T U W : Matrix} (q : ℤ) (i j : ℕ) → i < n → j < n → i ≢ j → Kept n C T U W
    → Kept n C (addcol q i j T) (addcol q i j U) (subrow q i j W)
add_kept {n} {C} {T} {U} {W} q i j hi hj d k = kept_same
    (λ r c hc. sym (mul-shear n q i j T r c hi hc)) (λ r c hc. sym (mul-shear n q i j U r c hi hc)) (λ r c hr. sym (shear-mul n q i j W r c hj hr))
    (step_kept (shear q i j) (shear (neg_ℤ q) i j) (shear_inverse n q (neg_ℤ q) i j (+ℤ_invr q) hi d) (shear_inverse n (neg_ℤ q) q i j (+ℤ_invl q) hi d) k)

-- ---- columns i and j change places; and rows i and j
abbrev pub swapcol : ℕ → ℕ → Matrix → Matrix
swapcol i j A r c = A r (tr i j c)

abbrev pub swaprow : ℕ → ℕ → Matrix → Matrix
swaprow i j A r c = A (tr i j r) c

module _ (n i j : ℕ) (hi : i < n) (hj : j < n) where
  mul-swap : (A : Matrix) (r c : ℕ) → c < n → mul n A (swapcol i j δ) r c ≡ swapcol i j A r c
  unfolding mul
  mul-swap A r c hc = mul_one n A r (tr i j c) (tr-lt n i j c hi hj hc)

  swap_mul : (A : Matrix) (r c : ℕ) → r < n → mul n (swapcol i j δ) A r c ≡ swaprow i j A r c
  unfolding mul
  swap_mul A r c hr = mul_cong n (swapcol i j δ) (swaprow i j δ) A A r c (λ k l. sym (δ-tr i j r k)) (λ k l. refl)
      ∙ one_mul n A (tr i j r) c (tr-lt n i j r hi hj hr)

  swap_inverse : Inverse n (swapcol i j δ) (swapcol i j δ)
  swap_inverse r c hr hc = mul-swap (swapcol i j δ) r c hc ∙ rw (tr-tr i j c)

pub swap-kept : {n : ℕ} {C T U W : Matrix} (i j : ℕ) → i < n → j < n → Kept n C T U W → Kept n C (swapcol i j T) (swapcol i j U) (swaprow i j W)
swap-kept {n} {C} {T} {U} {W} i j hi hj k = kept_same
    (λ r c hc. sym (mul-swap n i j hi hj T r c hc)) (λ r c hc. sym (mul-swap n i j hi hj U r c hc)) (λ r c hr. sym (swap_mul n i j hi hj W r c hr))
    (step_kept (swapcol i j δ) (swapcol i j δ) (swap_inverse n i j hi hj) (swap_inverse n i j hi hj) k)

-- ---- column i is negated; and row i
-- -1 at i, else 1: with a factor in place of a branch, the solver reads the step as it is
abbrev pub sg : ℕ → ℕ → ℤ
sg i c = cond (eqb i c) (negsuc 0) (pos 1)

abbrev pub negcol : ℕ → Matrix → Matrix
negcol i A r c = sg i c *ℤ A r c

abbrev pub negrow : ℕ → Matrix → Matrix
negrow i A r c = sg i r *ℤ A r c

sg-sg : (i c : ℕ) → sg i c *ℤ sg i c ≡ pos 1
sg-sg i c = go (eqb i c)
  where
    go : (b : Bool) → cond b (negsuc 0) (pos 1) *ℤ cond b (negsuc 0) (pos 1) ≡ pos 1
    go true = refl
    go false = refl

module _ (n i : ℕ) where
  mul-neg : (A : Matrix) (r c : ℕ) → c < n → mul n A (negcol i δ) r c ≡ negcol i A r c
  unfolding mul
  mul-neg A r c hc = sum_cong n (λ k. A r k *ℤ (sg i c *ℤ δ k c)) (λ k. sg i c *ℤ (A r k *ℤ δ k c)) (λ k l. *ℤ-left-comm (A r k) (sg i c) (δ k c))
      ∙ sum_mull n (sg i c) (λ k. A r k *ℤ δ k c) ∙ ap (λ z. sg i c *ℤ z) (mul_one n A r c hc)

  neg-mul : (A : Matrix) (r c : ℕ) → r < n → mul n (negcol i δ) A r c ≡ negrow i A r c
  unfolding mul
  neg-mul A r c hr = sum_cong n (λ k. sg i k *ℤ δ r k *ℤ A k c) (λ k. δ r k *ℤ (sg i k *ℤ A k c))
      (λ k l. ring₃ (sg i k) (δ r k) (A k c) (λ s d a. s ⊗ d ⊗ a ≟ d ⊗ (s ⊗ a)) tt)
      ∙ sum-δ n r (λ k. sg i k *ℤ A k c) hr

  neg_inverse : Inverse n (negcol i δ) (negcol i δ)
  neg_inverse r c hr hc = mul-neg (negcol i δ) r c hc ∙ sym (*ℤ-assoc (sg i c) (sg i c) (δ r c)) ∙ rw (sg-sg i c) (one_*ℤ (δ r c))

pub negate-kept : {n : ℕ} {C T U W : Matrix} (i : ℕ) → Kept n C T U W → Kept n C (negcol i T) (negcol i U) (negrow i W)
negate-kept {n} {C} {T} {U} {W} i k = kept_same
    (λ r c hc. sym (mul-neg n i T r c hc)) (λ r c hc. sym (mul-neg n i U r c hc)) (λ r c hr. sym (neg-mul n i W r c hr))
    (step_kept (negcol i δ) (negcol i δ) (neg_inverse n i) (neg_inverse n i) k)
