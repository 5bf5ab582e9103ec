-- Order, equality and magnitude of whole numbers by `omega`, which reads ℕ only: z is P z - N z, with P z and N z in ℕ.
-- `omega zarith` reads ≤ℤ, <ℤ and ≡ of ℤ, in hypotheses and in the goal, as statements on P and N. An operation is an unknown to it until the operation's law
-- is listed: `omega (zarith, +is x y)`. It multiplies out terms but no facts: the product of two facts is listed too (mul-le-mul of native.Mathlib.Nat).
use mathlib.Core.Path.{◌≡◌, refl, sym, ◌∙◌, ap, subst}
use mathlib.Core.Logic.{◌≢◌}
use mathlib.Core.Bool.{Bool, cond}
use Prim.Native.Nat.{ℕ, zero, suc, ◌+◌, ◌*◌, ◌-◌, ◌≤◌, ◌<◌, ◌^◌, min}
use native.Mathlib.Omega.{arith}
use native.Mathlib.Decide.{ℕ_discrete}
use native.Mathlib.Nat.{mul-le-mul, le-mul_of_pos_right, suc-mul}
use lib.Dec.{leb→le, le→leb, ltb→lt, lt→ltb}
use lib.IntN.{ℤ, pos, negsuc, neg_ℤ, nat_abs, sub_ℕ, ◌+ℤ◌, ◌*ℤ◌, ◌-ℤ◌}
use lib.Signed.{◌≤ℤ◌, ◌<ℤ◌, mag}
use mir.Syntax.{Width}
use mir.Val.{SFits, hbits}
use Rattle.whole.proofs.Tests.{Test, pass, fail, lt?}

abbrev pub P : ℤ → ℕ
P (pos n) = n
P (negsuc n) = 0

abbrev pub N : ℤ → ℕ
N (pos n) = 0
N (negsuc n) = suc n

-- ---- the orders and equality
pub ≤ℤ→ : {a b : ℤ} → a ≤ℤ b → P a + N b ≤ P b + N a
≤ℤ→ {a = pos a} {b = pos b} h = omega (arith, leb→le a b h.le)
≤ℤ→ {a = pos a} {b = negsuc b} h = absurd h.le
≤ℤ→ {a = negsuc a} {b = pos b} h = omega arith
≤ℤ→ {a = negsuc a} {b = negsuc b} h = omega (arith, leb→le b a h.le)

pub →≤ℤ : (a b : ℤ) → P a + N b ≤ P b + N a → a ≤ℤ b
→≤ℤ (pos a) (pos b) h = record { le = le→leb a b (omega arith) }
→≤ℤ (pos a) (negsuc b) h = absurd (omega arith)
→≤ℤ (negsuc a) (pos b) h = record { le = tt }
→≤ℤ (negsuc a) (negsuc b) h = record { le = le→leb b a (omega arith) }

pub <ℤ→ : {a b : ℤ} → a <ℤ b → P a + N b < P b + N a
<ℤ→ {a = pos a} {b = pos b} h = omega (arith, ltb→lt a b h.lt)
<ℤ→ {a = pos a} {b = negsuc b} h = absurd h.lt
<ℤ→ {a = negsuc a} {b = pos b} h = omega arith
<ℤ→ {a = negsuc a} {b = negsuc b} h = omega (arith, ltb→lt b a h.lt)

pub →<ℤ : (a b : ℤ) → P a + N b < P b + N a → a <ℤ b
→<ℤ (pos a) (pos b) h = record { lt = lt→ltb a b (omega arith) }
→<ℤ (pos a) (negsuc b) h = absurd (omega arith)
→<ℤ (negsuc a) (pos b) h = record { lt = tt }
→<ℤ (negsuc a) (negsuc b) h = record { lt = lt→ltb b a (omega arith) }

pub ≡ℤ→ : {a b : ℤ} → a ≡ b → P a + N b ≡ P b + N a
≡ℤ→ e = rw e

pub →≡ℤ : (a b : ℤ) → P a + N b ≡ P b + N a → a ≡ b
→≡ℤ (pos a) (pos b) h = ap pos (omega arith)
→≡ℤ (pos a) (negsuc b) h = absurd (omega arith)
→≡ℤ (negsuc a) (pos b) h = absurd (omega arith)
→≡ℤ (negsuc a) (negsuc b) h = ap negsuc (omega arith)

pub ruleset zarith = (arith, ≤ℤ→, <ℤ→, ≡ℤ→, →≤ℤ, →<ℤ, →≡ℤ)

-- ---- the operations
pub P-neg : (a : ℤ) → P (neg_ℤ a) ≡ N a
P-neg (pos zero) = refl
P-neg (pos (suc n)) = refl
P-neg (negsuc n) = refl

pub N-neg : (a : ℤ) → N (neg_ℤ a) ≡ P a
N-neg (pos zero) = refl
N-neg (pos (suc n)) = refl
N-neg (negsuc n) = refl

-- sub_ℕ a b is a - b, and what IntN's sum of two numbers of different sign comes to
subℕ_is : (a b : ℕ) → P (sub_ℕ a b) + b ≡ N (sub_ℕ a b) + a
subℕ_is a b = go (lt? a b)
  where
    go : {t : Bool} → Test (a < b) (b ≤ a) t → P (cond t (negsuc (b - suc a)) (pos (a - b))) + b ≡ N (cond t (negsuc (b - suc a)) (pos (a - b))) + a
    go (pass h) = omega arith
    go (fail h) = omega arith

pub +is : (a b : ℤ) → P (a +ℤ b) + (N a + N b) ≡ N (a +ℤ b) + (P a + P b)
+is (pos a) (pos b) = omega arith
+is (pos a) (negsuc b) = omega (arith, subℕ_is a (suc b))
+is (negsuc a) (pos b) = omega (arith, subℕ_is b (suc a))
+is (negsuc a) (negsuc b) = omega arith

pub -is : (a b : ℤ) → P (a -ℤ b) + (N a + P b) ≡ N (a -ℤ b) + (P a + N b)
-is a b = omega (arith, +is a (neg_ℤ b), P-neg b, N-neg b)

pub P-mul : (a b : ℤ) → P (a *ℤ b) ≡ P a * P b + N a * N b
P-mul (pos a) (pos b) = omega arith
P-mul (pos a) (negsuc b) = P-neg (pos (a * suc b)) ∙ omega arith
P-mul (negsuc a) (pos b) = P-neg (pos (suc a * b)) ∙ omega arith
P-mul (negsuc a) (negsuc b) = omega arith

pub N-mul : (a b : ℤ) → N (a *ℤ b) ≡ P a * N b + N a * P b
N-mul (pos a) (pos b) = omega arith
N-mul (pos a) (negsuc b) = N-neg (pos (a * suc b)) ∙ omega arith
N-mul (negsuc a) (pos b) = N-neg (pos (suc a * b)) ∙ omega arith
N-mul (negsuc a) (negsuc b) = omega arith

-- ---- magnitudes
-- all that omega needs of one number's; the second part, that P or N is 0, makes it split cases, so where the first is enough, list abs_is
pub parts : (a : ℤ) → (nat_abs a ≡ P a + N a) × (min (P a) (N a) ≡ 0) × (mag a ≤ nat_abs a) × (nat_abs a ≤ suc (mag a))
parts (pos n) = omega arith
parts (negsuc n) = omega arith

pub abs_is : (a : ℤ) → nat_abs a ≡ P a + N a
abs_is a = (parts a).0

pub one_zero : (a : ℤ) → min (P a) (N a) ≡ 0
one_zero a = (parts a).1

pub nat_abs-zero : (a : ℤ) → nat_abs a ≡ 0 → a ≡ pos 0
nat_abs-zero a h = omega (zarith, abs_is a)

pub abs_neg : (a : ℤ) → nat_abs (neg_ℤ a) ≡ nat_abs a
abs_neg a = omega (arith, abs_is (neg_ℤ a), abs_is a, P-neg a, N-neg a)

pub abs-add : (a b : ℤ) → nat_abs (a +ℤ b) ≤ nat_abs a + nat_abs b
abs-add a b = omega (arith, abs_is (a +ℤ b), abs_is a, abs_is b, +is a b, one_zero (a +ℤ b))

pub abs-sub : (a b : ℤ) → nat_abs (a -ℤ b) ≤ nat_abs a + nat_abs b
abs-sub a b = omega (arith, abs-add a (neg_ℤ b), abs_neg b)

pub abs-mul : (a b : ℤ) → nat_abs (a *ℤ b) ≡ nat_abs a * nat_abs b
abs-mul a b = simp (abs_is, P-mul, N-mul) (omega arith)

pub non_zero_size : (z : ℤ) → z ≢ pos 0 → 0 < nat_abs z
non_zero_size z d = go (ℕ_discrete (nat_abs z) 0)
  where
    go : Dec (nat_abs z ≡ 0) → 0 < nat_abs z
    go (yes e) = absurd (d (nat_abs-zero z e))
    go (no n) = omega arith

-- a whole multiple, but for 0, is no smaller
pub multiple_size : (a b : ℤ) → b ≢ pos 0 → nat_abs a ≤ nat_abs (a *ℤ b)
multiple_size a b d = rw (abs-mul a b) (le-mul_of_pos_right (nat_abs a) (non_zero_size b d))

pub product_size : (x y : ℤ) {a b : ℕ} → nat_abs x ≤ a → nat_abs y ≤ b → nat_abs (x *ℤ y) ≤ a * b
product_size x y h g = rw (abs-mul x y) (mul-le-mul h g)

-- ---- what a signed number of the language can hold
pub fits : (w : Width) (z : ℤ) → nat_abs z < 2 ^ hbits w → SFits w z
fits w z h = record { sfits = omega (arith, parts z) }

pub fits-abs : (w : Width) (z : ℤ) → SFits w z → nat_abs z ≤ 2 ^ hbits w
fits-abs w z h = omega (arith, parts z, h.sfits)

-- ---- indices
-- row i of at most a rows, each of at most b entries
pub row_within : (i n a b : ℕ) → i < a → n ≤ b → i * n + n ≤ a * b
row_within i n a b h l = omega (arith, suc-mul i n, mul-le-mul {n₁ = suc i} {m₁ = n} h l)

-- what holds at c and at every index below c holds at every index below c + 1
pub below_suc {ℓ} : (Q : ℕ → Type ℓ) (c : ℕ) → Q c → (i : ℕ) → (i < c → Q i) → i < suc c → Q i
below_suc Q c q i f h = go (ℕ_discrete i c)
  where
    go : Dec (i ≡ c) → Q i
    go (yes e) = subst Q (sym e) q
    go (no d) = f (omega arith)
