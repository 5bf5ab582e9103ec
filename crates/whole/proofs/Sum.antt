-- Finite sums of whole numbers, `sum n f` of specs/Sum, and the identity matrix δ of specs/Matrix, by which one term is picked out of a sum.
-- Write both functions out where a law takes two (`sum_cong n f g ..`): they are not found by themselves.
use mathlib.Core.Path.{◌≡◌, refl, sym, ◌∙◌, ap, ap₂}
use mathlib.Core.Logic.{◌≢◌}
use Prim.Native.Nat.{ℕ, zero, suc, ◌+◌, ◌*◌, ◌-◌, ◌≤◌, ◌<◌}
use native.Mathlib.Omega.{arith}
use native.Mathlib.Decide.{ℕ_discrete}
use native.Mathlib.Nat.{mul-le-mul}
use lib.IntN.{ℤ, pos, neg_ℤ, nat_abs, ◌+ℤ◌, ◌*ℤ◌, ◌-ℤ◌, +ℤ_assoc, +ℤ_idl, +ℤ_idr, *ℤ-zero, zero-*ℤ, neg_ℤ-+ℤ}
use Rattle.whole.specs.Sum.{sum}
use Rattle.whole.specs.Matrix.{bit, δ}
use borrow.Author.Tests.{eq-eqb, ne_eqb}
use Rattle.whole.proofs.Order.{abs-add, product_size}
use Rattle.whole.proofs.Ring.{*ℤ-distribl, *ℤ-distribr, one_*ℤ}
use Rattle.whole.proofs.Solver.{◌⊕◌, ◌≟◌, ring₄}

-- ---- term by term
pub sum_cong : (n : ℕ) (f g : ℕ → ℤ) → ((i : ℕ) → i < n → f i ≡ g i) → sum n f ≡ sum n g
unfolding sum
sum_cong zero f g h = refl
sum_cong (suc n) f g h = ap₂ ◌+ℤ◌ (sum_cong n f g (λ i l. h i (omega arith))) (h n (omega arith))

pub sum-none : (n : ℕ) → sum n (λ i. pos 0) ≡ pos 0
unfolding sum
sum-none zero = refl
sum-none (suc n) = rw (sum-none n)

pub sum-out : (n : ℕ) (f : ℕ → ℤ) → ((i : ℕ) → i < n → f i ≡ pos 0) → sum n f ≡ pos 0
sum-out n f h = sum_cong n f (λ i. pos 0) h ∙ sum-none n

pub sum-add : (n : ℕ) (f g : ℕ → ℤ) → sum n (λ i. f i +ℤ g i) ≡ sum n f +ℤ sum n g
unfolding sum
sum-add zero f g = refl
sum-add (suc n) f g = rw (sum-add n f g) (ring₄ (sum n f) (sum n g) (f n) (g n) (λ a b c d. a ⊕ b ⊕ (c ⊕ d) ≟ a ⊕ c ⊕ (b ⊕ d)) tt)

pub sum-neg : (n : ℕ) (f : ℕ → ℤ) → sum n (λ i. neg_ℤ (f i)) ≡ neg_ℤ (sum n f)
unfolding sum
sum-neg zero f = refl
sum-neg (suc n) f = rw (sum-neg n f, neg_ℤ-+ℤ (sum n f) (f n))

pub sum-sub : (n : ℕ) (f g : ℕ → ℤ) → sum n (λ i. f i -ℤ g i) ≡ sum n f -ℤ sum n g
sum-sub n f g = sum-add n f (λ i. neg_ℤ (g i)) ∙ ap (λ z. sum n f +ℤ z) (sum-neg n g)

pub sum_mull : (n : ℕ) (c : ℤ) (f : ℕ → ℤ) → sum n (λ i. c *ℤ f i) ≡ c *ℤ sum n f
unfolding sum
sum_mull zero c f = sym (*ℤ-zero c)
sum_mull (suc n) c f = rw (sum_mull n c f, *ℤ-distribl c (sum n f) (f n))

pub sum_mulr : (n : ℕ) (c : ℤ) (f : ℕ → ℤ) → sum n (λ i. f i *ℤ c) ≡ sum n f *ℤ c
unfolding sum
sum_mulr zero c f = sym (zero-*ℤ c)
sum_mulr (suc n) c f = rw (sum_mulr n c f, *ℤ-distribr (sum n f) (f n) c)

pub sum-swap : (n m : ℕ) (f : ℕ → ℕ → ℤ) → sum n (λ i. sum m (λ j. f i j)) ≡ sum m (λ j. sum n (λ i. f i j))
unfolding sum
sum-swap zero m f = sym (sum-none m)
sum-swap (suc n) m f = ap (λ z. z +ℤ sum m (λ j. f n j)) (sum-swap n m f) ∙ sym (sum-add m (λ j. sum n (λ i. f i j)) (λ j. f n j))

pub abs-sum : (n B : ℕ) (f : ℕ → ℤ) → ((i : ℕ) → i < n → nat_abs (f i) ≤ B) → nat_abs (sum n f) ≤ n * B
unfolding sum
abs-sum zero B f h = omega arith
abs-sum (suc n) B f h = omega (arith, abs-add (sum n f) (f n), h n (omega arith), abs-sum n B f (λ i l. h i (omega arith)))

-- a sum of n products, and each of its beginnings
pub products_size : (n k a b : ℕ) (x y : ℕ → ℤ) → k ≤ n → ((i : ℕ) → i < n → nat_abs (x i) ≤ a) → ((i : ℕ) → i < n → nat_abs (y i) ≤ b)
    → nat_abs (sum k (λ i. x i *ℤ y i)) ≤ n * (a * b)
products_size n k a b x y h f g =
    let l : k * (a * b) ≤ n * (a * b) = mul-le-mul h (omega arith) in
    omega (arith, abs-sum k (a * b) (λ i. x i *ℤ y i) (λ i c. product_size (x i) (y i) (f i (omega arith)) (g i (omega arith))))

-- ---- one term
-- all the others are 0
pub sum_one : (n i : ℕ) (f : ℕ → ℤ) → i < n → ((k : ℕ) → k < n → k ≢ i → f k ≡ pos 0) → sum n f ≡ f i
unfolding sum
sum_one zero i f l h = absurd (omega arith)
sum_one (suc n) i f l h = go (ℕ_discrete i n) (λ l'. sum_one n i f l' (λ k m d. h k (omega arith) d))
  where
    go : Dec (i ≡ n) → (i < n → sum n f ≡ f i) → sum n f +ℤ f n ≡ f i
    go (yes e) r = rw (e, sum-out n f (λ k m. h k (omega arith) (omega arith))) (+ℤ_idl (f n))
    go (no d) r = rw (r (omega arith), h n (omega arith) (omega arith)) (+ℤ_idr (f i))

pub δ-same : (i : ℕ) → δ i i ≡ pos 1
δ-same i = ap bit (eq-eqb i i refl)

pub δ-diff : (i j : ℕ) → i ≢ j → δ i j ≡ pos 0
δ-diff i j d = ap bit (ne_eqb i j d)

pub δ-sym : (i j : ℕ) → δ i j ≡ δ j i
δ-sym i j = go (ℕ_discrete i j)
  where
    go : Dec (i ≡ j) → δ i j ≡ δ j i
    go (yes e) = rw e
    go (no d) = δ-diff i j d ∙ sym (δ-diff j i (omega arith))

pub sum-δ : (n i : ℕ) (f : ℕ → ℤ) → i < n → sum n (λ k. δ i k *ℤ f k) ≡ f i
sum-δ n i f l = sum_one n i (λ k. δ i k *ℤ f k) l (λ k m d. rw (δ-diff i k (omega arith)) (zero-*ℤ (f k))) ∙ rw (δ-same i) (one_*ℤ (f i))

-- ---- the first terms and the last ones
pub sum-add-split : (a b : ℕ) (f : ℕ → ℤ) → sum (a + b) f ≡ sum a f +ℤ sum b (λ j. f (a + j))
unfolding sum
sum-add-split a zero f =
    let e : a + zero ≡ a = omega arith in
    rw e (sym (+ℤ_idr (sum a f)))
sum-add-split a (suc b) f =
    let e : a + suc b ≡ suc (a + b) = omega arith in
    rw (e, sum-add-split a b f) (+ℤ_assoc (sum a f) (sum b (λ j. f (a + j))) (f (a + b)))

pub sum-split : (r n : ℕ) (f : ℕ → ℤ) → r ≤ n → sum n f ≡ sum r f +ℤ sum (n - r) (λ j. f (r + j))
sum-split r n f h =
    let e : n ≡ r + (n - r) = omega arith in
    ap (λ (k : ℕ). sum k f) e ∙ sum-add-split r (n - r) f

pub sum_head : (r n : ℕ) (f : ℕ → ℤ) → r ≤ n → ((j : ℕ) → r ≤ j → j < n → f j ≡ pos 0) → sum n f ≡ sum r f
sum_head r n f h z = sum-split r n f h ∙ rw (sum-out (n - r) (λ j. f (r + j)) (λ j b. z (r + j) (omega arith) (omega arith))) (+ℤ_idr (sum r f))

pub sum_tail : (r n : ℕ) (f : ℕ → ℤ) → r ≤ n → ((j : ℕ) → j < r → f j ≡ pos 0) → sum n f ≡ sum (n - r) (λ j. f (r + j))
sum_tail r n f h z = sum-split r n f h ∙ rw (sum-out r f z) (+ℤ_idl (sum (n - r) (λ j. f (r + j))))
