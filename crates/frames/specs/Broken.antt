-- An input that broke off because a read failed: a blank, which stands in no line, marks the place.
use Rattle.std.specs.Prelude.{List, ℕ, ◌<◌, length}
use Rattle.rules.specs.Frames.{lines_of, refusal_line, program}

abbrev pub blank : ℕ
blank = 0x20

-- an input of so many lines is answered by one line, which refuses its sizes or one of its lines
pub data Refusal (count : ℕ) : List ℕ → Type 0 where
  of_sizes : Refusal count (refusal_line 1 0)
  of_line : (place : ℕ) → place < count → Refusal count (refusal_line 10 place)

abbrev pub Refused : (input : List ℕ) → Type 0
Refused input = Refusal (length (lines_of input)) (program input)
