-- Section 2 of the rules: the limits, and how much room the outputs need.
use Rattle.std.specs.Prelude.{Bool, ◌&&◌, ℕ, leb, ltb, eqb, ℤ, pos, neg_ℤ, nat_abs}
use Rattle.std.specs.Int.Signed.{le_z}

-- R2.8
abbrev pub M : ℕ
M = 2_147_483_647

-- of either sign
abbrev pub beyond : ℤ → Bool
beyond z = ltb M (nat_abs z)

abbrev pub is_zero : ℤ → Bool
is_zero z = eqb (nat_abs z) 0

-- lo to hi
abbrev pub within : (lo hi : ℤ) → ℤ → Bool
within lo hi z = le_z lo z && le_z z hi

-- R2.1
abbrev pub sizes_in_range : ℕ → ℕ → Bool
sizes_in_range m n = (leb 1 m && leb m 8) && (leb 1 n && leb n 16)

-- R2.2
abbrev pub entry_in_range : ℤ → Bool
entry_in_range z = within (neg_ℤ (pos 1000)) (pos 1000) z

-- R2.3
abbrev pub modulus_in_range : ℤ → Bool
modulus_in_range z = within (pos 0) (pos 1000) z

-- R2.5
abbrev pub most_terms : ℕ
most_terms = 64

-- R2.6
abbrev pub exponent_in_range : ℤ → Bool
exponent_in_range z = within (neg_ℤ (pos 10_000)) (pos 10_000) z

-- R22.8: the exponents of a group that readings are put into
abbrev pub power_in_range : ℤ → Bool
power_in_range z = within (neg_ℤ (pos 64)) (pos 64) z

-- R2.9: the least length of each output
abbrev pub room_h : ℕ
room_h = 192

abbrev pub room_v : ℕ
room_v = 576

abbrev pub room_w : ℕ
room_w = 576

abbrev pub room_weights : ℕ
room_weights = 8

abbrev pub room_coefficients : ℕ
room_coefficients = 64

abbrev pub room_exponents : ℕ
room_exponents = 1024
