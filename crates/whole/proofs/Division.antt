-- Division of whole numbers: cut toward zero (quot_z and rem_z of lib.Signed, the language's own) and rounded down (floor_z of specs/Division).
use mathlib.Core.Path.{◌≡◌, refl, sym, ◌∙◌, ap}
use mathlib.Core.Bool.{Bool, true, false, cond, not, ◌&&◌, and-true, and-false, beq}
use Prim.Native.Nat.{ℕ, zero, suc, ◌+◌, ◌*◌, ◌-◌, ◌/◌, ◌%◌, ◌≤◌, ◌<◌}
use native.Mathlib.Omega.{arith}
use native.Mathlib.Nat.{div-add-mod', mod-lt, mod-le, mod-eq-sub-mod, le_of_dvd, dvd_of_mod-eq-zero, div-le_self, div-eq_of_lt-le, zero-div, zero-mod, mul-mod_left}
use borrow.Author.Tests.{le-ltb, ne_eqb}
use lib.Dec.{eqb}
use lib.IntN.{ℤ, pos, negsuc, neg_ℤ, nat_abs, ◌+ℤ◌, ◌*ℤ◌, ◌-ℤ◌, +ℤ_idr, neg_ℤ-neg_ℤ}
use lib.Signed.{◌≤ℤ◌, ◌<ℤ◌, lt_z, quot_z, rem_z}
use Rattle.whole.specs.Division.{floor_z}
use Rattle.whole.proofs.Order.{zarith, -is, P-neg, N-neg, P-mul, N-mul, abs_neg, abs-mul, nat_abs-zero}
use Rattle.whole.proofs.Ring.{negℤ_*ℤ}
use Rattle.whole.proofs.Solver.{◌⊕◌, ◌⊗◌, ⊝◌, ◌≟◌, ring₃}

-- ---- cut toward zero
quot-rem-pos : (a : ℕ) (b : ℤ) → pos a ≡ quot_z (pos a) b *ℤ b +ℤ rem_z (pos a) b
quot-rem-pos a (pos b) = ap pos (sym (div-add-mod' a b))
quot-rem-pos a (negsuc b) = rw (negℤ_*ℤ (pos (a / suc b)) (negsuc b), neg_ℤ-neg_ℤ (pos (a / suc b * suc b))) (ap pos (sym (div-add-mod' a (suc b))))

quot-neg : (a : ℕ) (b : ℤ) → quot_z (negsuc a) b ≡ neg_ℤ (quot_z (pos (suc a)) b)
quot-neg a (pos b) = refl
quot-neg a (negsuc b) = sym (neg_ℤ-neg_ℤ (pos (suc a / suc b)))

pub quot-rem : (a b : ℤ) → a ≡ quot_z a b *ℤ b +ℤ rem_z a b
quot-rem (pos a) b = quot-rem-pos a b
quot-rem (negsuc a) b = ap neg_ℤ (quot-rem-pos (suc a) b)
    ∙ ring₃ (quot_z (pos (suc a)) b) b (rem_z (pos (suc a)) b) (λ q b r. ⊝ (q ⊗ b ⊕ r) ≟ ⊝ q ⊗ b ⊕ ⊝ r) tt
    ∙ ap (λ z. z *ℤ b +ℤ rem_z (negsuc a) b) (sym (quot-neg a b))

pub quot_exact : (a b : ℤ) → rem_z a b ≡ pos 0 → a ≡ quot_z a b *ℤ b
quot_exact a b e = quot-rem a b ∙ rw e (+ℤ_idr (quot_z a b *ℤ b))

pub abs-quot : (a b : ℤ) → nat_abs (quot_z a b) ≡ nat_abs a / nat_abs b
abs-quot (pos a) (pos b) = refl
abs-quot (pos a) (negsuc b) = abs_neg (pos (a / suc b))
abs-quot (negsuc a) (pos b) = abs_neg (pos (suc a / b))
abs-quot (negsuc a) (negsuc b) = refl

pub abs-rem : (a b : ℤ) → nat_abs (rem_z a b) ≡ nat_abs a % nat_abs b
abs-rem (pos a) b = refl
abs-rem (negsuc a) b = abs_neg (pos (suc a % nat_abs b))

pub quot_le : (a b : ℤ) → nat_abs (quot_z a b) ≤ nat_abs a
quot_le a b = rw (abs-quot a b) (div-le_self (nat_abs a) (nat_abs b))

pub rem-le : (a b : ℤ) → nat_abs (rem_z a b) ≤ nat_abs a
rem-le a b = rw (abs-rem a b) (mod-le (nat_abs a) (nat_abs b))

pub rem_lt : (a b : ℤ) → 0 < nat_abs b → nat_abs (rem_z a b) < nat_abs b
rem_lt a b h = rw (abs-rem a b) (mod-lt (nat_abs a) h)

-- a multiple of b leaves none by b
pub multiple_rem : (q b : ℤ) → rem_z (q *ℤ b) b ≡ pos 0
multiple_rem q b =
    nat_abs-zero (rem_z (q *ℤ b) b)
    (abs-rem (q *ℤ b) b ∙ ap (λ (z : ℕ). z % nat_abs b) (abs-mul q b) ∙ mul-mod_left (nat_abs q) (nat_abs b))

-- the divisor and the remainder are together no more than what was divided
pub mod-sum-le : (a b : ℕ) → b ≤ a → b + a % b ≤ a
mod-sum-le a b h = omega (arith, mod-eq-sub-mod h, mod-le (a - b) b)

-- a divisor is at most half of a greater number
pub divisor_half : (a b : ℕ) → b < a → a % b ≡ 0 → 2 * b ≤ a
divisor_half a b h e =
    let l : b ≤ a - b = le_of_dvd (omega arith) (dvd_of_mod-eq-zero b (sym (mod-eq-sub-mod (omega arith)) ∙ e)) in
    omega arith

-- ---- rounded down
-- q is a divided by b, rounded down; low and high together say that b is above 0
pub record Floored (a b q : ℤ) : Type 0 where
  pub low : pos 0 ≤ℤ (a -ℤ q *ℤ b)
  pub high : (a -ℤ q *ℤ b) <ℤ b

pub floor_is : (a b : ℤ) → pos 0 <ℤ b → Floored a b (floor_z a b)
floor_is (pos a) (pos b) h =
    let l : a % b < b = mod-lt a (omega zarith) in
    let e = div-add-mod' a b in
    let d = -is (pos a) (pos (a / b) *ℤ pos b) in
    record { low = omega zarith; high = omega zarith }
floor_is (negsuc a) (pos b) h =
    let l : a % b < b = mod-lt a (omega zarith) in
    let e = div-add-mod' a b in
    let q = negsuc (a / b) in
    let p = P-mul q (pos b) in
    let n = N-mul q (pos b) in
    let d = -is (negsuc a) (q *ℤ pos b) in
    record { low = omega zarith; high = omega zarith }
floor_is a (negsuc b) h = absurd h.lt

pub floor-le : (a b : ℤ) → nat_abs (floor_z a b) ≤ nat_abs a
floor-le (pos a) (pos b) = div-le_self a b
floor-le (negsuc a) (pos b) = omega (arith, div-le_self a b)
floor-le (pos zero) (negsuc b) = omega arith
floor-le (pos (suc a)) (negsuc b) = omega (arith, div-le_self a (suc b))
floor-le (negsuc a) (negsuc b) = div-le_self (suc a) (suc b)

-- ---- rounded down, from what is cut toward zero
-- -(a + 1) by b, rounded down, where a + 1 is q · b + m: -q, and one less where m is not 0
floor_opposite : (a b q m : ℕ) → q * b + m ≡ suc a → m < b → negsuc (a / b) ≡ cond (not (eqb m 0)) (neg_ℤ (pos q) -ℤ pos 1) (neg_ℤ (pos q))
floor_opposite a b zero zero e l = absurd (omega arith)
floor_opposite a b (suc q) zero e l = ap negsuc (div-eq_of_lt-le b (omega arith) (omega arith))
floor_opposite a b q (suc m) e l =
    let same : a / b ≡ q = div-eq_of_lt-le b (omega arith) (omega arith) in
    rw (ne_eqb (suc m) 0 (λ z. omega arith), same) (omega (zarith, -is (neg_ℤ (pos q)) (pos 1), P-neg (pos q), N-neg (pos q)))

pos-not-below : (n : ℕ) → lt_z (pos n) (pos 0) ≡ false
pos-not-below n = le-ltb n 0 (omega arith)

-- that the remainder -m is not 0 and its sign differs from s (true for minus), told by m and s
opposite_differs : (m : ℕ) (s : Bool) → not (eqb (nat_abs (neg_ℤ (pos m))) 0) && not (beq (lt_z (neg_ℤ (pos m)) (pos 0)) s) ≡ not (eqb m 0) && not s
opposite_differs zero s = refl
opposite_differs (suc m) true = refl
opposite_differs (suc m) false = refl

-- a by b rounded down is a by b cut toward zero, less one where the remainder r is not 0 and has another sign than b
pub floor-cut : (a b : ℤ) → 0 < nat_abs b
    → let r = rem_z a b in floor_z a b ≡ cond (not (eqb (nat_abs r) 0) && not (beq (lt_z r (pos 0)) (lt_z b (pos 0)))) (quot_z a b -ℤ pos 1) (quot_z a b)
floor-cut (pos a) (pos b) h = simp (pos-not-below, and-false)
floor-cut (negsuc a) (pos b) h = rw (opposite_differs (suc a % b), pos-not-below b, and-true) (floor_opposite a b (suc a / b) (suc a % b) (div-add-mod' (suc a) b) (mod-lt (suc a) h))
floor-cut (pos zero) (negsuc b) h = simp (zero-mod, zero-div)
floor-cut (pos (suc a)) (negsuc b) h = simp (pos-not-below, and-true) (floor_opposite a (suc b) (suc a / suc b) (suc a % suc b) (div-add-mod' (suc a) (suc b)) (mod-lt (suc a) h))
floor-cut (negsuc a) (negsuc b) h = rw (opposite_differs (suc a % suc b), and-false)
