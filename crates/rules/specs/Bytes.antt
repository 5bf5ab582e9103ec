-- R1.4: numbers as bytes, the highest byte first (to_z and of_z are the language's own reading of two's complement).
use Rattle.std.specs.Prelude.{Bool, List, [], ◌∷◌, ◌++◌, ℕ, zero, suc, ◌+◌, ◌*◌, ◌/◌, ◌%◌, eqb, length, get_or, drop, ℤ}
use Rattle.std.specs.Int.{w16, w32}
use Rattle.std.proofs.Common.{to_z, of_z}

abbrev pub byte_at : List ℕ → ℕ → ℕ
byte_at bs i = get_or bs i 0

-- ---- reading
-- the number in the first two bytes, and that in the first four
unfoldable pub short : List ℕ → ℤ
short bs = to_z w16 (256 * byte_at bs 0 + byte_at bs 1)

unfoldable pub long : List ℕ → ℤ
long bs = to_z w32 (16_777_216 * byte_at bs 0 + 65_536 * byte_at bs 1 + 256 * byte_at bs 2 + byte_at bs 3)

-- the first count numbers of two bytes, and of four
unfoldable pub shorts : (count : ℕ) → List ℕ → List ℤ
shorts zero bs = []
shorts (suc count) bs = short bs ∷ shorts count (drop 2 bs)

unfoldable pub longs : (count : ℕ) → List ℕ → List ℤ
longs zero bs = []
longs (suc count) bs = long bs ∷ longs count (drop 4 bs)

-- ---- writing
-- a natural number in one byte, in two, in four
abbrev pub byte : ℕ → List ℕ
byte x = x % 256 ∷ []

abbrev pub two_bytes : ℕ → List ℕ
two_bytes x = byte (x / 256) ++ byte x

abbrev pub four_bytes : ℕ → List ℕ
four_bytes x = byte (x / 16_777_216) ++ byte (x / 65_536) ++ byte (x / 256) ++ byte x

-- whole numbers, each in four bytes
unfoldable pub bytes_of : List ℤ → List ℕ
bytes_of [] = []
bytes_of (z ∷ zs) = four_bytes (of_z w32 z) ++ bytes_of zs

-- ---- a buffer of bytes as a buffer of numbers
abbrev pub whole_numbers : List ℕ → Bool
whole_numbers bs = eqb (length bs % 4) 0

abbrev pub numbers_in : List ℕ → ℕ
numbers_in bs = length bs / 4

abbrev pub numbers_of : List ℕ → List ℤ
numbers_of bs = longs (numbers_in bs) bs
