-- Refusal 13: a running value that is zero or not finite stays so through every later product and quotient, whatever the readings. So the last value
-- tells whether there was one.
use mathlib.Core.Path.{◌≡◌, refl, sym}
use mathlib.Core.Bool.{Bool, true, false, cond, false≢true}
use mathlib.Core.List.{List, [], ◌∷◌}
use Prim.Native.Nat.{ℕ, zero, suc, ◌*◌, ◌<◌}
use native.Mathlib.Nat.{mul-pos, zero-mul}
use native.Mathlib.Omega.{arith}
use lib.Dec.{eqb}
use lib.Pow.{pow_pos}
use lib.IntN.{ℤ}
use lib.Ieee.{Float, nan, inf, fin, binary64, unlike, up, down, round, mul, div}
use lib.Ieee.Exact.{HasValue, round_exact}
use lib.Ieee.Fits.{up_pos, down_pos}
use Rattle.rules.specs.Gauges.{Operation, multiply, divide, operations, after, running, one, operate, group_value, is_out, some, leaves_range}

-- ---- zero is rounded to zero
value_out : (x : Float) (s : Bool) (c : ℕ) → 0 < c → HasValue x s 0 c → is_out x ≡ true
value_out nan s c p h = refl
value_out (inf t) s c p h = refl
value_out (fin t zero e) s c p h = refl
value_out (fin t (suc m) e) s c p h =
    let l : 0 < suc m * up e * c = mul-pos (mul-pos (omega arith) (up_pos e)) p in
    absurd (omega (arith, h.1))

round_out : (s : Bool) (num den : ℕ) → 0 < den → num ≡ 0 → is_out (round binary64 s num den) ≡ true
round_out s num den p e =
    rw e (value_out (round binary64 s 0 den) s den p (round_exact binary64 s 0 den 0 0 p (pow_pos 53) (pow_pos 2098) (sym (zero-mul den))))

-- ---- one operation
either : (b : Bool) (x y : Float) → is_out x ≡ true → is_out y ≡ true → is_out (cond b x y) ≡ true
either true x y h k = h
either false x y h k = k

mul-out : (r y : Float) → is_out r ≡ true → is_out (mul binary64 r y) ≡ true
unfolding mul
mul-out nan y h = refl
mul-out (inf s) nan h = refl
mul-out (inf s) (inf t) h = refl
mul-out (inf s) (fin t n d) h = either (eqb n 0) nan (inf (unlike s t)) refl refl
mul-out (fin s zero e) nan h = refl
mul-out (fin s zero e) (inf t) h = refl
mul-out (fin s zero e) (fin t n d) h = round_out (unlike s t) (0 * up e * (n * up d)) (down e * down d) (mul-pos (down_pos e) (down_pos d)) (omega arith)
mul-out (fin s (suc m) e) y h = absurd (false≢true h)

div-out : (r y : Float) → is_out r ≡ true → is_out (div binary64 r y) ≡ true
unfolding div
div-out nan y h = refl
div-out (inf s) nan h = refl
div-out (inf s) (inf t) h = refl
div-out (inf s) (fin t n d) h = refl
div-out (fin s zero e) nan h = refl
div-out (fin s zero e) (inf t) h = refl
div-out (fin s zero e) (fin t zero d) h = refl
div-out (fin s zero e) (fin t (suc n) d) h =
    let den = suc n * up d * down e in
    either (eqb (suc n) 0) nan (round binary64 (unlike s t) (0 * up e * down d) den) refl
    (round_out (unlike s t) (0 * up e * down d) den (mul-pos (mul-pos (omega arith) (up_pos d)) (down_pos e)) (omega arith))
div-out (fin s (suc m) e) y h = absurd (false≢true h)

operate-out : (x : ℕ → Float) (r : Float) (o : Operation) → is_out r ≡ true → is_out (operate x r o) ≡ true
operate-out x r (multiply j) h = mul-out r (x j) h
operate-out x r (divide j) h = div-out r (x j) h

-- ---- all of them
module _ (x : ℕ → Float) where
  after-out : (r : Float) (os : List Operation) → is_out r ≡ true → is_out (after (operate x) r os) ≡ true
  after-out r [] h = h
  after-out r (o ∷ os) h = after-out (operate x r o) os (operate-out x r o h)

  some_out : (r : Float) (os : List Operation) → some is_out (running (operate x) r os) ≡ is_out (after (operate x) r os)
  some_out r [] = go (is_out r)
    where
      go : (b : Bool) → elim b [ true ↦ true | false ↦ false ] ≡ b
      go true = refl
      go false = refl
  some_out r (o ∷ os) = go (is_out r) refl (some_out (operate x r o) os)
    where
      later : Bool
      later = some is_out (running (operate x) (operate x r o) os)

      go : (b : Bool) → is_out r ≡ b → later ≡ is_out (after (operate x) r (o ∷ os)) → elim b [ true ↦ true | false ↦ later ] ≡ is_out (after (operate x) r (o ∷ os))
      go true h same = sym (after-out r (o ∷ os) h)
      go false h same = same

pub last_tells : (n : ℕ) (v : ℕ → ℤ) (x : ℕ → Float) → leaves_range n v x ≡ is_out (group_value n v x)
unfolding leaves_range group_value
last_tells n v x = some_out x one (operations n v)
