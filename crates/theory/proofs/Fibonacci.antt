-- The Fibonacci numbers: what bounds the repeated divisions of two numbers by each other.
use mathlib.Core.Path.{◌≡◌, refl}
use Prim.Native.Nat.{ℕ, zero, suc, ◌+◌, ◌≤◌}
use native.Mathlib.Omega.{arith}

-- by the last two, so that it computes
unfoldable fib_from : (a b n : ℕ) → ℕ
fib_from a b zero = a
fib_from a b (suc n) = fib_from b (a + b) n

-- 0, 1, 1, 2, 3, 5, ..
unfoldable pub fib : ℕ → ℕ
unfolding fib_from
fib n = fib_from 0 1 n

fib_from-sum : (a b n : ℕ) → fib_from a b (suc (suc n)) ≡ fib_from a b (suc n) + fib_from a b n
unfolding fib_from
fib_from-sum a b zero = omega arith
fib_from-sum a b (suc n) = fib_from-sum b (a + b) n

pub fib-sum : (n : ℕ) → fib (suc (suc n)) ≡ fib (suc n) + fib n
unfolding fib
fib-sum n = fib_from-sum 0 1 n

pub fib-rises : (n : ℕ) → fib (suc n) ≤ fib (suc (suc n))
fib-rises n = omega (arith, fib-sum n)

-- ---- those that are named: small ones, the first above half of M, and the first above M
pub fib_2 : fib 2 ≡ 1
unfolding fib
fib_2 = refl

pub fib_3 : fib 3 ≡ 2
unfolding fib
fib_3 = refl

pub fib_4 : fib 4 ≡ 3
unfolding fib
fib_4 = refl

pub fib_45 : fib 45 ≡ 1_134_903_170
unfolding fib
fib_45 = refl

pub fib_47 : fib 47 ≡ 2_971_215_073
unfolding fib
fib_47 = refl
