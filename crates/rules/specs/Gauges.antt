-- Section 22 of the rules (order 2): one group worked out from a set of gauge readings. Quantities, groups and readings count from 0.
-- A reading is a number of IEEE 754's binary64. Its products and quotients are those of lib.Ieee: each is rounded once, to the nearest number.
use Rattle.std.specs.Prelude.{Bool, true, false, not, ◌&&◌, List, [], ◌∷◌, ◌++◌, ℕ, zero, suc, T, eqb, ltb, length, get_or, replicate, ℤ, pos, negsuc, neg_ℤ, nat_abs, Float}
use Rattle.std.specs.Float.{nan, inf, fin, binary64}
use Rattle.std.specs.Float.Ieee.{mul, div, le}
use Rattle.std.specs.Float.Ieee.Positive.{positive}
use Rattle.rules.specs.Limits.{power_in_range}
use Rattle.rules.specs.Search.{first}
use Rattle.rules.specs.Problem.{Problem}
use Rattle.rules.specs.Stages.{run}
use Rattle.rules.specs.Formulas.{is_none, d, group}
use Rattle.rules.specs.Calls.{Check, Verdict, taken, refused, verdict, unless_at, problem_fits, sizes_check, inputs_check, moduli_check, entries_check, range_check}

-- ---- R22.1, a set of readings: up to sixteen values (a count other than n is refused, and n is at most 16), and how many of them count
pub record Readings : Type 0 where
  pub values : List Float
  pub count : ℕ

-- the reading of quantity j; behind the values there is none, and no call asks for one there
abbrev pub read : List Float → (j : ℕ) → Float
read values j = get_or values j nan

abbrev pub reading : Readings → (j : ℕ) → Float
reading R = read R.values

-- the readings as a C program lends them: all of them count
abbrev pub lent_readings : List Float → Readings
lent_readings values = record { values = values; count = length values }

-- ---- R22.3, the operations of a group in their order
-- one operation, by the reading of a quantity
pub data Operation : Type 0 where
  multiply divide : (quantity : ℕ) → Operation

-- a unit of a positive exponent multiplies, one of a negative exponent divides; negsuc k is -(k + 1)
abbrev pub unit : (quantity : ℕ) (exponent : ℤ) → Operation
unit j (pos k) = multiply j
unit j (negsuc k) = divide j

-- an exponent has as many units as its absolute value says
abbrev pub units : (quantity : ℕ) (exponent : ℤ) → List Operation
units j z = replicate (nat_abs z) (unit j z)

-- those of the first n quantities, one quantity after the other
unfoldable pub operations : (n : ℕ) (exponents : ℕ → ℤ) → List Operation
operations zero v = []
operations (suc n) v = operations n v ++ units n (v n)

-- ---- what they come to
-- a start after all of the operations; and all that it is on the way, the start and the end included
abbrev pub after : {A : Type 0} → (A → Operation → A) → A → List Operation → A
after f a [] = a
after f a (o ∷ os) = after f (f a o) os

abbrev pub running : {A : Type 0} → (A → Operation → A) → A → List Operation → List A
running f a [] = a ∷ []
running f a (o ∷ os) = a ∷ running f (f a o) os

-- 2 ^ e as a number of binary64, which has it for each e from -1074 to 1023 (below -1022 it is subnormal)
abbrev pub two : (e : ℤ) → Float
two e = fin false 1 e

-- 1.0
abbrev pub one : Float
one = two (pos 0)

abbrev pub operate : (readings : ℕ → Float) → Float → Operation → Float
operate x r (multiply j) = mul binary64 r (x j)
operate x r (divide j) = div binary64 r (x j)

-- the value begins at 1.0
unfoldable pub group_value : (n : ℕ) (exponents : ℕ → ℤ) (readings : ℕ → Float) → Float
unfolding operations
group_value n v x = after (operate x) one (operations n v)

-- the running values: 1.0, and the value after each single product or quotient
unfoldable pub running_values : (n : ℕ) (exponents : ℕ → ℤ) (readings : ℕ → Float) → List Float
unfolding operations
running_values n v x = running (operate x) one (operations n v)

-- R22.4, for the exact powers of two: a running value from 2^-1022 to 2^1023; and that something holds of each running value
pub record Between (r : Float) : Type 0 where
  pub low : T (le (two (neg_ℤ (pos 1022))) r)
  pub high : T (le r (two (pos 1023)))

abbrev pub Every : {A : Type 0} → (A → Type 0) → List A → Type 0
Every P [] = Unit
Every P (a ∷ l) = P a × Every P l

-- ---- the checks that are this call's own
-- R22.6, 11: a reading, among the first n, that is not finite or not above zero; the place is the first such
abbrev pub readings_check : (n : ℕ) (readings : ℕ → Float) → Check
readings_check n x = record { number = 11; fault = first (λ j. not (positive (x j))) 0 n }

-- R22.7, 24: there are d groups; the place is the group's number, as of 12 and 13
abbrev pub group_check : (d group : ℕ) → Check
group_check d g = record { number = 24; fault = unless_at g (ltb g d) }

-- R22.8, 12: each of the group's exponents is from -64 to 64
abbrev pub powers_check : (n : ℕ) (exponents : ℕ → ℤ) (group : ℕ) → Check
powers_check n v g = record { number = 12; fault = unless_at g (is_none (first (λ j. not (power_in_range (v j))) 0 n)) }

-- R22.9, 13: no running value is zero or not finite
abbrev pub is_out : Float → Bool
is_out nan = true
is_out (inf s) = true
is_out (fin s zero e) = true
is_out (fin s (suc m) e) = false

abbrev pub some : {A : Type 0} → (A → Bool) → List A → Bool
some p [] = false
some p (a ∷ l) = elim (p a) [ true ↦ true | false ↦ some p l ]

unfoldable pub leaves_range : (n : ℕ) (exponents : ℕ → ℤ) (readings : ℕ → Float) → Bool
unfolding running_values
leaves_range n v x = some is_out (running_values n v x)

abbrev pub running_check : (n : ℕ) (exponents : ℕ → ℤ) (readings : ℕ → Float) (group : ℕ) → Check
running_check n v x g = record { number = 13; fault = unless_at g (not (leaves_range n v x)) }

-- 11, 24, 12, 13 of group g, with its exponents, among d groups of a problem with n quantities
abbrev pub own_checks : (n d : ℕ) (exponents : ℕ → ℤ) (readings : ℕ → Float) (group : ℕ) → List Check
own_checks n d v x g = readings_check n x ∷ group_check d g ∷ powers_check n v g ∷ running_check n v x g ∷ []

-- ---- R22.10, the order of all: 1, 2 (the lengths of the problem, and a count other than n), 4, 5, 7, then these
abbrev pub gauge_checks : Problem → Readings → (group : ℕ) → List Check
gauge_checks P R g =
    sizes_check P ∷ inputs_check (problem_fits P && eqb R.count P.n) ∷ moduli_check P ∷ entries_check P ∷ range_check (run P)
    ∷ own_checks P.n (d P (run P)) (group P (run P) g) (reading R) g

-- ---- R22.5, the answer for one group
-- a value, or a refusal with its number, its place and the reading that it carries
pub data Gauged : Type 0 where
  value : Float → Gauged
  refusal : (number place : ℕ) (reading : Float) → Gauged

-- 0.0
abbrev pub nought : Float
nought = fin false 0 (pos 0)

-- 11 carries the reading at fault, every other refusal 0.0
abbrev pub carried : (readings : ℕ → Float) (number place : ℕ) → Float
carried x number place = elim (eqb number 11) [ true ↦ x place | false ↦ nought ]

abbrev pub gauged_by : (n : ℕ) (exponents : ℕ → ℤ) (readings : ℕ → Float) → Verdict → Gauged
gauged_by n v x taken = value (group_value n v x)
gauged_by n v x (refused number place) = refusal number place (carried x number place)

-- R22.2
unfoldable pub gauge_of : Problem → Readings → (group : ℕ) → Gauged
gauge_of P R g = gauged_by P.n (group P (run P) g) (reading R) (verdict (gauge_checks P R g))

-- ---- R22.11, the same in plain numbers, as the C call returns it: a value has the number and the place 0
pub record GaugeAnswer : Type 0 where
  pub number : ℕ
  pub place : ℕ
  pub value : Float

abbrev pub gauge_answer : Gauged → GaugeAnswer
gauge_answer (value x) = record { number = 0; place = 0; value = x }
gauge_answer (refusal number place x) = record { number = number; place = place; value = x }
