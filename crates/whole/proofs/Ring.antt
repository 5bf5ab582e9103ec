-- The whole numbers are a commutative ring without zero divisors: what lib.IntN lacks, stated with its own operations.
-- An identity of any length is better left to `Solver`, which stands on these; a single step of rewriting names one of them.
-- Each is shown on the parts P and N of `Order`, which are in ℕ, where omega multiplies out.
use mathlib.Core.Path.{◌≡◌, refl, sym, ◌∙◌, ap}
use mathlib.Core.Logic.{◌⊎◌, inl, inr}
use Prim.Native.Nat.{ℕ, zero, suc, ◌*◌}
use native.Mathlib.Omega.{arith}
use lib.IntN.{ℤ, pos, neg_ℤ, nat_abs, ◌+ℤ◌, ◌*ℤ◌, ◌-ℤ◌, *ℤ_comm}
use Rattle.whole.proofs.Order.{P, N, zarith, →≡ℤ, +is, -is, P-mul, N-mul, P-neg, N-neg, nat_abs-zero, abs-mul}

-- ---- the sum
pub +ℤ-left-comm : (a b c : ℤ) → a +ℤ (b +ℤ c) ≡ b +ℤ (a +ℤ c)
+ℤ-left-comm a b c = omega (zarith, +is a (b +ℤ c), +is b c, +is b (a +ℤ c), +is a c)

pub sub-zero→eq : (a b : ℤ) → a -ℤ b ≡ pos 0 → a ≡ b
sub-zero→eq a b h = omega (zarith, -is a b)

pub eq→sub-zero : (a b : ℤ) → a ≡ b → a -ℤ b ≡ pos 0
eq→sub-zero a b h = omega (zarith, -is a b)

-- ---- the product
pub *ℤ-assoc : (a b c : ℤ) → a *ℤ b *ℤ c ≡ a *ℤ (b *ℤ c)
*ℤ-assoc a b c = →≡ℤ (a *ℤ b *ℤ c) (a *ℤ (b *ℤ c)) (simp (P-mul, N-mul) (omega arith))

pub *ℤ-left-comm : (a b c : ℤ) → a *ℤ (b *ℤ c) ≡ b *ℤ (a *ℤ c)
*ℤ-left-comm a b c = sym (*ℤ-assoc a b c) ∙ ap (λ x. x *ℤ c) (*ℤ_comm a b) ∙ *ℤ-assoc b a c

pub one_*ℤ : (a : ℤ) → pos 1 *ℤ a ≡ a
one_*ℤ a = omega (zarith, P-mul (pos 1) a, N-mul (pos 1) a)

pub *ℤ-1 : (a : ℤ) → a *ℤ pos 1 ≡ a
*ℤ-1 a = *ℤ_comm a (pos 1) ∙ one_*ℤ a

pub negℤ_*ℤ : (a b : ℤ) → neg_ℤ a *ℤ b ≡ neg_ℤ (a *ℤ b)
negℤ_*ℤ a b = →≡ℤ (neg_ℤ a *ℤ b) (neg_ℤ (a *ℤ b)) (simp (P-mul, N-mul, P-neg, N-neg) (omega arith))

-- ---- the product of a sum
pub *ℤ-distribr : (a b c : ℤ) → (a +ℤ b) *ℤ c ≡ a *ℤ c +ℤ b *ℤ c
*ℤ-distribr a b c = omega (
  zarith,
  P-mul (a +ℤ b) c,
  N-mul (a +ℤ b) c,
  +is (a *ℤ c) (b *ℤ c),
  P-mul a c,
  N-mul a c,
  P-mul b c,
  N-mul b c,
  ap (λ (n : ℕ). n * P c) (+is a b),
  ap (λ (n : ℕ). n * N c) (+is a b),
)

pub *ℤ-distribl : (a b c : ℤ) → a *ℤ (b +ℤ c) ≡ a *ℤ b +ℤ a *ℤ c
*ℤ-distribl a b c = rw (*ℤ_comm a (b +ℤ c), *ℤ-distribr b c a, *ℤ_comm b a, *ℤ_comm c a)

-- ---- cancellation

nat_no_zero-div : (a b : ℕ) → a * b ≡ 0 → (a ≡ 0) ⊎ (b ≡ 0)
nat_no_zero-div zero b h = inl refl
nat_no_zero-div (suc a) zero h = inr refl
nat_no_zero-div (suc a) (suc b) h = absurd (omega arith)

pub no_zero-div : (a b : ℤ) → a *ℤ b ≡ pos 0 → (a ≡ pos 0) ⊎ (b ≡ pos 0)
no_zero-div a b h = go (nat_no_zero-div (nat_abs a) (nat_abs b) (sym (abs-mul a b) ∙ ap nat_abs h))
  where
    go : (nat_abs a ≡ 0) ⊎ (nat_abs b ≡ 0) → (a ≡ pos 0) ⊎ (b ≡ pos 0)
    go (inl e) = inl (nat_abs-zero a e)
    go (inr e) = inr (nat_abs-zero b e)
