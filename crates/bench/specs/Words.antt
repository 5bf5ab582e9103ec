-- What the reading and writing of numbers in bytes does.
use Rattle.std.specs.Prelude.{◌≡◌, Bool, true, false, cond, ◌&&◌, List, ℕ, ltb, length, ℤ}
use Rattle.rules.specs.Bytes.{whole_numbers, numbers_in, numbers_of}
use Rattle.rules.specs.Bench.{has_room}

-- whether s holds a whole count of numbers, fewer than there is room for
abbrev pub readable : List ℕ → (room : ℕ) → Bool
readable s room = whole_numbers s && ltb (numbers_in s) room

-- xs is what is made of the bytes s where there is room for so many numbers
pub record Decoded (s : List ℕ) (room : ℕ) (xs : List ℤ) : Type 0 where
  pub numbers : readable s room ≡ true → xs ≡ numbers_of s
  pub wrong : readable s room ≡ false → length xs ≡ room

abbrev pub room_of : List ℕ → (least : ℕ) → ℕ
room_of s least = cond (has_room least s) least 0
