-- Powers of two in binary64: a product or a quotient of two of them is exact wherever the result is one of binary64's, from 2 ^ -1074 to 2 ^ 1023.
-- Nothing is asked of the two themselves, so subnormal ones are included.
use mathlib.Core.Path.{◌≡◌, refl, ap, ◌∙◌, subst}
use Prim.Native.Nat.{ℕ, zero, suc, ◌+◌, ◌-◌, ◌*◌, ◌%◌, ◌^◌, ◌≤◌, ◌<◌}
use native.Mathlib.Nat.{mul-one, one-mul, mul_assoc, mul-pos, pow-suc}
use native.Mathlib.Omega.{arith}
use mathlib.Core.Bool.{Bool, true, false, ◌&&◌}
use lib.IntN.{ℤ, pos, negsuc, neg_ℤ, ◌+ℤ◌, ◌-ℤ◌}
use lib.Signed.{◌≤ℤ◌, ◌<ℤ◌}
use lib.Dec.{T, ltb, leb, eqb, eqb→eq, le→leb, lt→ltb, leb→le, ltb→lt}
use lib.Pow.{pow-add, pow_pos, pow-lt, pow_mono}
use lib.Ieee.{Float, nan, inf, fin, binary64, prec, emax, low, up, down, round, mul, div, le, fits}
use lib.Ieee.Exact.{HasValue, round_exact}
use lib.Ieee.Fits.{round-fits, and_i, and_l, and_r, up_pos, down_pos}
use lib.Ieee.Scale.{round_same}
use lib.Ieee.Order.{round_mono}
use lib.Ieee.Positive.{between, le_trans_positive}
use Rattle.whole.proofs.Tests.{Test, pass, fail, lt?, le?, lt_z?}
use Rattle.whole.proofs.Order.{P, N, zarith, →≡ℤ, +is, -is, one_zero}
use Rattle.rules.specs.Gauges.{two, Between}

-- ---- 2 ^ e is the fraction 2 ^ P e / 2 ^ N e
up_is : (e : ℤ) → up e ≡ 2 ^ P e
up_is (pos n) = refl
up_is (negsuc n) = refl

down_is : (e : ℤ) → down e ≡ 2 ^ N e
down_is (pos n) = refl
down_is (negsuc n) = refl

-- an odd number times a power of two is a power of two only at 1
odd_power : (m i k : ℕ) → m % 2 ≡ 1 → m * 2 ^ i ≡ 2 ^ k → (m ≡ 1) × (i ≡ k)
odd_power m zero zero o h = (omega arith, refl)
odd_power m zero (suc k) o h = absurd (omega (arith, pow-suc 2 k))
odd_power m (suc i) zero o h = absurd (omega (arith, pow-suc 2 i, ap (λ (x : ℕ). m * x) (pow-suc 2 i)))
odd_power m (suc i) (suc k) o h =
    let r = odd_power m i k o (omega (arith, pow-suc 2 k, ap (λ (x : ℕ). m * x) (pow-suc 2 i))) in
    (r.0, ap suc r.1)

-- so 2 ^ c is written in one way
fraction : (m : ℕ) (e c : ℤ) → m % 2 ≡ 1 → m * up e * down c ≡ up c * down e → (m ≡ 1) × (e ≡ c)
fraction m e c o h =
    let g : m * 2 ^ (P e + N c) ≡ 2 ^ (P c + N e) =
    rw (pow-add 2 (P e) (N c), pow-add 2 (P c) (N e), ← mul_assoc m (2 ^ P e) (2 ^ N c), ← up_is e, ← down_is c, ← up_is c, ← down_is e) h in
    let r = odd_power m (P e + N c) (P c + N e) o g in
    (r.0, →≡ℤ e c r.1)

-- a number of binary64 that is 2 ^ c
is_two : (x : Float) (c : ℤ) → T (fits binary64 x) → HasValue x false (up c) (down c) → x ≡ two c
unfolding fits
is_two nan c t v = absurd v
is_two (inf s) c t v = absurd v
is_two (fin s zero e) c t v = absurd (omega (arith, v.1, mul-pos (up_pos c) (down_pos e)))
is_two (fin s (suc m) e) c t v =
    let a = eqb (suc m % 2) 1 in
    let b = ltb (suc m) (2 ^ prec binary64) in
    let d = leb (down e) (2 ^ low binary64) in
    let f = ltb (suc m * up e) (2 ^ suc (emax binary64) * down e) in
    let o : suc m % 2 ≡ 1 = eqb→eq (suc m % 2) 1 (and_l a b (and_l (a && b) d (and_l (a && b && d) f t))) in
    let r = fraction (suc m) e c o v.1 in
    ap (λ (y : Bool). fin y (suc m) e) v.0 ∙ ap (λ (k : ℕ). fin false k e) r.0 ∙ ap (fin false 1) r.1

-- ---- rounding changes nothing there
-- binary64 has the number 2 ^ c
pub record Held (c : ℤ) : Type 0 where
  pub low : neg_ℤ (pos 1074) ≤ℤ c
  pub high : c ≤ℤ pos 1023

-- 2 ^ c is not subnormal
pub record Normal (c : ℤ) : Type 0 where
  pub low : neg_ℤ (pos 1022) ≤ℤ c
  pub high : c ≤ℤ pos 1023

pub normal_held : (c : ℤ) → Normal c → Held c
normal_held c h = let l = h.low in let g = h.high in record { low = omega zarith; high = omega zarith }

-- 2 ^ c counted in units of 2 ^ -l
counted : (c : ℤ) (l : ℕ) → N c ≤ l → up c * 2 ^ l ≡ 1 * 2 ^ (P c + l - N c) * down c
counted c l h =
    let e : P c + l ≡ P c + l - N c + N c = omega arith in
    rw (up_is c, down_is c, one-mul (2 ^ (P c + l - N c)), ← pow-add 2 (P c) l, ← pow-add 2 (P c + l - N c) (N c), ← e)

round_two : (c : ℤ) → Held c → round binary64 false (up c) (down c) ≡ two c
round_two c h =
    let j = P c + 1074 - N c in
    let small : j < 2098 = omega (zarith, one_zero c) in
    is_two (round binary64 false (up c) (down c)) c (round-fits binary64 false (up c) (down c))
    (round_exact binary64 false (up c) (down c) 1 j (down_pos c) (pow-lt {i = 0} {j = 53} (omega arith)) (rw (one-mul (2 ^ j)) (pow-lt small))
    (counted c 1074 (omega (zarith, one_zero c))))

-- ---- these are the powers of two that binary64 has
power_le : (i j : ℕ) → 2 ^ i ≤ 2 ^ j → i ≤ j
power_le i j h = go (le? i j)
  where
    go : {b : Bool} → Test (i ≤ j) (j < i) b → i ≤ j
    go (pass l) = l
    go (fail l) = absurd (omega (arith, pow-lt l))

power_lt : (i j : ℕ) → 2 ^ i < 2 ^ j → i < j
power_lt i j h = go (lt? i j)
  where
    go : {b : Bool} → Test (i < j) (j ≤ i) b → i < j
    go (pass l) = l
    go (fail l) = absurd (omega (arith, pow_mono l))

pub two_fits : (c : ℤ) → Held c → T (fits binary64 (two c))
unfolding fits
two_fits c h =
    and_i (leb (down c) (2 ^ 1074)) (ltb (1 * up c) (2 ^ 1024 * down c))
    (le→leb (down c) (2 ^ 1074) (lower 1074 (omega (zarith, one_zero c))))
    (lt→ltb (1 * up c) (2 ^ 1024 * down c) (upper 1024 (omega (zarith, one_zero c))))
  where
    lower : (k : ℕ) → N c ≤ k → down c ≤ 2 ^ k
    lower k l = rw (down_is c) (pow_mono l)

    upper : (k : ℕ) → P c < k + N c → 1 * up c < 2 ^ k * down c
    upper k l = rw (one-mul (up c), up_is c, down_is c, ← pow-add 2 k (N c)) (pow-lt l)

pub fits-held : (c : ℤ) → T (fits binary64 (two c)) → Held c
unfolding fits
fits-held c t =
    let l = leb→le (down c) (2 ^ 1074) (and_l (leb (down c) (2 ^ 1074)) (ltb (1 * up c) (2 ^ 1024 * down c)) t) in
    let u = ltb→lt (1 * up c) (2 ^ 1024 * down c) (and_r (leb (down c) (2 ^ 1074)) (ltb (1 * up c) (2 ^ 1024 * down c)) t) in
    record { low = omega (zarith, one_zero c, lower 1074 l); high = omega (zarith, one_zero c, upper 1024 u) }
  where
    lower : (k : ℕ) → down c ≤ 2 ^ k → N c ≤ k
    lower k l = power_le (N c) k (rw (← down_is c) l)

    upper : (k : ℕ) → 1 * up c < 2 ^ k * down c → P c < k + N c
    upper k l = power_lt (P c) (k + N c) (rw (pow-add 2 k (N c), ← down_is c, ← up_is c, ← one-mul (up c)) l)

-- ---- products and quotients
crossed : (i j k i' j' k' : ℕ) → i + j + k ≡ k' + (i' + j') → 2 ^ i * 2 ^ j * 2 ^ k ≡ 2 ^ k' * (2 ^ i' * 2 ^ j')
crossed i j k i' j' k' h = rw (← pow-add 2 i j, ← pow-add 2 (i + j) k, ← pow-add 2 i' j', ← pow-add 2 k' (i' + j'), h)

-- 2 ^ a · 2 ^ b is 2 ^ (a + b) rounded, and 2 ^ a / 2 ^ b is 2 ^ (a - b) rounded
mul_round : (a b : ℤ) → mul binary64 (two a) (two b) ≡ round binary64 false (up (a +ℤ b)) (down (a +ℤ b))
unfolding mul
mul_round a b =
    let c = a +ℤ b in
    round_same binary64 false (1 * up a * (1 * up b)) (down a * down b) (up c) (down c) (mul-pos (down_pos a) (down_pos b)) (down_pos c)
    (simp (up_is, down_is, one-mul) (crossed (P a) (P b) (N c) (N a) (N b) (P c) (omega (arith, +is a b))))

div_round : (a b : ℤ) → div binary64 (two a) (two b) ≡ round binary64 false (up (a -ℤ b)) (down (a -ℤ b))
unfolding div
div_round a b =
    let c = a -ℤ b in
    round_same binary64 false (1 * up a * down b) (1 * up b * down a) (up c) (down c) (mul-pos (mul-pos (pow_pos 0) (up_pos b)) (down_pos a)) (down_pos c)
    (simp (up_is, down_is, one-mul) (crossed (P a) (N b) (N c) (P b) (N a) (P c) (omega (arith, -is a b))))

pub mul-two : (a b : ℤ) → Held (a +ℤ b) → mul binary64 (two a) (two b) ≡ two (a +ℤ b)
mul-two a b h = mul_round a b ∙ round_two (a +ℤ b) h

pub div-two : (a b : ℤ) → Held (a -ℤ b) → div binary64 (two a) (two b) ≡ two (a -ℤ b)
div-two a b h = div_round a b ∙ round_two (a -ℤ b) h

-- ---- a product or a quotient that lies from 2 ^ -1022 to 2 ^ 1023, rounded as it is, has an exponent from -1022 to 1023
-- what is 2 ^ 1024 at least is rounded to more than 2 ^ 1023
top_least : (y : Float) → T (le (round binary64 false (2 ^ 1024) 1) y) → T (le y (two (pos 1023))) → ⊥
unfolding round le
top_least nan a b = a
top_least (inf true) a b = a
top_least (inf false) a b = b
top_least (fin s m e) a b = a

not-above : (c : ℤ) → T (le (round binary64 false (up c) (down c)) (two (pos 1023))) → c ≤ℤ pos 1023
not-above c t = go (lt_z? (pos 1023) c)
  where
    grown : (k : ℕ) → k + N c ≤ P c → 2 ^ k * down c ≤ up c * 1
    grown k h = rw (up_is c, down_is c, mul-one (2 ^ P c), ← pow-add 2 k (N c)) (pow_mono h)

    go : {b : Bool} → Test (pos 1023 <ℤ c) (c ≤ℤ pos 1023) b → c ≤ℤ pos 1023
    go (pass h) =
        let l = round_mono binary64 (2 ^ 1024) 1 (up c) (down c) (pow_pos 0) (down_pos c) (grown 1024 (omega (zarith, one_zero c))) in
        absurd (top_least (round binary64 false (up c) (down c)) l t)
    go (fail h) = h

-- and what is 2 ^ -1023 at most to less than 2 ^ -1022
low-most : (y : Float) → T (le y (two (negsuc 1022))) → T (le (two (negsuc 1021)) y) → ⊥
unfolding le
low-most y a b = le_trans_positive (two (negsuc 1021)) y (two (negsuc 1022)) tt (between (two (negsuc 1021)) y (two (negsuc 1022)) tt tt b a) tt b a

not-below : (c : ℤ) → T (le (two (neg_ℤ (pos 1022))) (round binary64 false (up c) (down c))) → neg_ℤ (pos 1022) ≤ℤ c
not-below c t = go (lt_z? c (negsuc 1021))
  where
    shrunk : (k : ℕ) → P c + k ≤ N c → up c * 2 ^ k ≤ 1 * down c
    shrunk k h = rw (up_is c, down_is c, one-mul (2 ^ N c), ← pow-add 2 (P c) k) (pow_mono h)

    r : Float
    r = round binary64 false (up c) (down c)

    least : round binary64 false 1 (2 ^ 1023) ≡ two (negsuc 1022)
    least = round_two (negsuc 1022) (record { low = omega zarith; high = omega zarith })

    go : {b : Bool} → Test (c <ℤ negsuc 1021) (negsuc 1021 ≤ℤ c) b → negsuc 1021 ≤ℤ c
    go (pass h) =
        let l = round_mono binary64 (up c) (down c) 1 (2 ^ 1023) (down_pos c) (pow_pos 1023) (shrunk 1023 (omega (zarith, one_zero c))) in
        absurd (low-most r (subst (λ (y : Float). T (le r y)) least l) t)
    go (fail h) = h

normal_rounded : (c : ℤ) → Between (round binary64 false (up c) (down c)) → Normal c
normal_rounded c h = record { low = not-below c h.low; high = not-above c h.high }

pub mul_normal : (a b : ℤ) → Between (mul binary64 (two a) (two b)) → Normal (a +ℤ b)
mul_normal a b h = normal_rounded (a +ℤ b) (rw (← mul_round a b) h)

pub div_normal : (a b : ℤ) → Between (div binary64 (two a) (two b)) → Normal (a -ℤ b)
div_normal a b h = normal_rounded (a -ℤ b) (rw (← div_round a b) h)
