-- Section 22 (order 2), computed: groups of the known problems worked out from readings, and each refusal against its neighbours in the order. Bits were worked
-- out by another program before they were computed here; the rest is by hand.
use mathlib.Core.Path.{◌≡◌, refl}
use mathlib.Core.Bool.{true, false}
use mathlib.Core.List.{List, [], ◌∷◌}
use Prim.Native.Nat.{ℕ}
use lib.IntN.{pos, negsuc, neg_ℤ}
use lib.Ieee.{Float, nan, inf, fin, binary64, of_bits, mul, div, le}
use Rattle.rules.specs.Problem.{Problem}
use Rattle.rules.specs.Gauges.{lent_readings, two, nought, Between, operations, group_value, running_values, leaves_range, Gauged, value, refusal, gauge_of, gauge_answer}
use Rattle.rules.proofs.Computing.{calls}
use Rattle.rules.proofs.Starred.{problem, alone, problem4, problem5, widest}

-- ---- ways of writing
-- a group of a problem, with the readings that are listed
abbrev gauged : Problem → List Float → (group : ℕ) → Gauged
gauged P values g = gauge_of P (lent_readings values) g

-- the number of binary64 with these bits
abbrev bits : ℕ → Float
bits b = of_bits binary64 b

-- 2 ^ -k
abbrev part : ℕ → Float
part k = two (neg_ℤ (pos k))

-- -2.0
abbrev below : Float
below = fin true 1 (pos 1)

-- a single row with entries (0, a, b) has the groups (1, 0, 0) and, for a prime to b, (0, -b, a)
abbrev behind : (a b : ℕ) → Problem
behind a b = alone (pos 0 ∷ pos a ∷ pos b ∷ []) (pos 0)

pub record Computed : Type 0 where
  -- The value.
  -- problem 4, group (-2, 1): 8⁻² · 32; problem 5, groups (3, 0, 0) and (1, 1, 0)
  pub value4 : gauged problem4 (two (pos 3) ∷ two (pos 5) ∷ []) 0 ≡ value (two (negsuc 0))
  pub value5₀ : gauged problem5 (two (pos 3) ∷ two (pos 2) ∷ two (pos 9) ∷ []) 0 ≡ value (two (pos 9))
  pub value5₁ : gauged problem5 (two (pos 3) ∷ two (pos 2) ∷ two (pos 9) ∷ []) 1 ≡ value (two (pos 5))
  -- 5⁻² · 0.1³, group (-2, 3), in five operations. The second quantity first, whole powers or the reciprocal of 5 end in ..30 or ..31.
  pub ordered : gauged (alone (pos 3 ∷ pos 2 ∷ []) (pos 0)) (fin false 5 (pos 0) ∷ bits 4_591_870_180_066_957_722 ∷ []) 0
      ≡ value (bits 4_541_027_782_865_676_529)
  -- 1.0 by 1.0 twice, times 2^-1074: a subnormal reading and a subnormal running value are no fault
  pub subnormal : gauged problem4 (two (pos 0) ∷ part 1074 ∷ []) 0 ≡ value (part 1074)
  -- readings behind the first n are not looked at
  pub more-values : gauge_of problem4 (record { values = two (pos 3) ∷ two (pos 5) ∷ nan ∷ []; count = 2 }) 0 ≡ value (two (negsuc 0))
  -- The refusals: number, place and what they carry.
  -- no rows, and a wrong count; then a wrong count, and two moduli for one row, each with a modulus out of range
  pub sizes : gauged (problem 0 2 [] []) (nan ∷ []) 0 ≡ refusal 1 0 nought
  pub count : gauged (alone (pos 1 ∷ pos 2 ∷ []) (negsuc 0)) (nan ∷ nan ∷ nan ∷ []) 0 ≡ refusal 2 0 nought
  pub lengths : gauged (problem 1 2 (pos 1 ∷ pos 2 ∷ []) (negsuc 0 ∷ pos 0 ∷ [])) (nan ∷ nan ∷ []) 0 ≡ refusal 2 0 nought
  -- a modulus of -1 in the second row, and an entry of 1001; then the entry alone; then a build that is refused, and no good reading
  pub modulus : gauged (problem 2 1 (pos 1001 ∷ pos 1 ∷ []) (pos 0 ∷ negsuc 0 ∷ [])) (nan ∷ []) 0 ≡ refusal 4 1 nought
  pub entry : gauged (problem 2 1 (pos 1 ∷ pos 1001 ∷ []) (pos 0 ∷ pos 0 ∷ [])) (nan ∷ []) 0 ≡ refusal 5 1 nought
  pub range : gauged widest (nan ∷ nan ∷ nan ∷ nan ∷ []) 9 ≡ refusal 7 0 nought
  -- the first reading at fault is carried, before a group that is not there: -2.0, NaN, infinity, 0.0
  pub negative : gauged problem4 (two (pos 3) ∷ below ∷ []) 1 ≡ refusal 11 1 below
  pub not_a_number : gauged problem4 (nan ∷ below ∷ []) 0 ≡ refusal 11 0 nan
  pub infinite : gauged problem4 (two (pos 3) ∷ inf false ∷ []) 0 ≡ refusal 11 1 (inf false)
  pub zero-reading : gauged problem4 (nought ∷ below ∷ []) 0 ≡ refusal 11 0 nought
  -- problem 4 has one group; a problem without groups has no group 0
  pub no_group : gauged problem4 (two (pos 3) ∷ two (pos 5) ∷ []) 1 ≡ refusal 24 1 nought
  pub no_groups : gauged (alone (pos 1 ∷ []) (pos 0)) (two (pos 3) ∷ []) 0 ≡ refusal 24 0 nought
  -- an exponent of 65 either way, where a running value would leave the range before; 64 either way is taken
  pub power_65 : gauged (behind 65 1) (two (pos 0) ∷ two (pos 1) ∷ two (pos 1000) ∷ []) 1 ≡ refusal 12 1 nought
  pub power_minus_65 : gauged (behind 1 65) (two (pos 0) ∷ two (pos 1000) ∷ two (pos 1) ∷ []) 1 ≡ refusal 12 1 nought
  pub power_64 : gauged (behind 64 1) (two (pos 0) ∷ two (pos 1) ∷ two (pos 1) ∷ []) 1 ≡ value (two (pos 63))
  pub power_minus_64 : gauged (behind 1 64) (two (pos 0) ∷ two (pos 1) ∷ two (pos 1) ∷ []) 1 ≡ value (two (neg_ℤ (pos 63)))
  -- (2^600)⁻² is rounded to zero, and (2^-600)⁻² comes to the infinity; the last reading would not bring either back
  pub too_small : gauged (behind 1 2) (two (pos 0) ∷ two (pos 600) ∷ two (pos 1000) ∷ []) 1 ≡ refusal 13 1 nought
  pub too_large : gauged (behind 1 2) (two (pos 0) ∷ part 600 ∷ part 1000 ∷ []) 1 ≡ refusal 13 1 nought
  -- fewer readings than quantities; a reading of -0.0, which is told from 0.0; and 0.0 itself
  pub fewer : gauge_of problem4 (record { values = two (pos 3) ∷ two (pos 5) ∷ []; count = 1 }) 0 ≡ refusal 2 0 nought
  pub minus_zero : gauged problem4 (two (pos 3) ∷ fin true 0 (pos 0) ∷ []) 0 ≡ refusal 11 1 (fin true 0 (pos 0))
  pub zero_bits : nought ≡ bits 0
  -- the ends of the range in which powers of two are exact
  pub lowest : Between (two (neg_ℤ (pos 1022)))
  pub highest : Between (two (pos 1023))
  -- In plain numbers.
  pub plain_value : gauge_answer (gauged problem4 (two (pos 3) ∷ two (pos 5) ∷ []) 0) ≡ record { number = 0; place = 0; value = two (negsuc 0) }
  pub plain-refusal : gauge_answer (gauged problem4 (two (pos 3) ∷ below ∷ []) 0) ≡ record { number = 11; place = 1; value = below }

pub computed : Computed
unfolding calls operations group_value running_values leaves_range gauge_of of_bits mul div le
computed = record {
  value4 = refl;
  value5₀ = refl;
  value5₁ = refl;
  ordered = refl;
  subnormal = refl;
  more-values = refl;
  sizes = refl;
  count = refl;
  lengths = refl;
  modulus = refl;
  entry = refl;
  range = refl;
  negative = refl;
  not_a_number = refl;
  infinite = refl;
  zero-reading = refl;
  no_group = refl;
  no_groups = refl;
  power_65 = refl;
  power_minus_65 = refl;
  power_64 = refl;
  power_minus_64 = refl;
  too_small = refl;
  too_large = refl;
  fewer = refl;
  minus_zero = refl;
  zero_bits = refl;
  lowest = record { low = tt; high = tt };
  highest = record { low = tt; high = tt };
  plain_value = refl;
  plain-refusal = refl;
}
