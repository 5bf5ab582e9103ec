-- The line that starts a text: its digits, the bytes that they write, and how the code tests it.
use Rattle.std.specs.Prelude.{◌≡◌, true, false, Bool, ◌&&◌, List, [], ◌∷◌, ℕ, ◌+◌, ◌*◌, ◌/◌, ◌<◌, ltb, cond, length, Option, None, Some, MatchOption}
use Rattle.rules.specs.Frames.{digit, all_digits, unhex, TextLine, lines_of, frame_of, is_frame}
use Rattle.arrayvec.specs.ArrayVec.{ArrayVec}
use Rattle.frames.specs.declared.line.Kind.{Kind}
use Rattle.frames.specs.declared.line.Kind.TheVariants.{Sizes, Row, Term}
use Rattle.frames.specs.declared.line.Line.{Line}

-- what a byte of text is worth as a digit, and two as a byte; None where one is no digit
abbrev pub digit_in : ℕ → Option ℕ
digit_in b = cond (ltb (digit b) 16) (Some (digit b)) None

abbrev pub byte_in : (high low : ℕ) → Option ℕ
byte_in high low = cond (ltb (digit high) 16 && ltb (digit low) 16) (Some (16 * digit high + digit low)) None

-- pairs of digits as the bytes that they write, if all are digits
abbrev pub Decodes : (digits : List ℕ) → Option (ArrayVec ℕ) → Type 0
Decodes digits r =
    MatchOption r (all_digits digits ≡ false)
    (λ bytes. (all_digits digits ≡ true) × (bytes.items ≡ unhex (length digits / 2) digits)
    × (length bytes.items ≡ length digits / 2))

-- ---- the first of some lines
abbrev pub kind_byte : Kind → ℕ
kind_byte Sizes = 0x01
kind_byte Row = 0x02
kind_byte Term = 0x03

-- it has so many bytes, the first of which is kind
unfoldable pub first_is : (kind count : ℕ) → List TextLine → Bool
first_is kind count [] = false
first_is kind count (l ∷ ls) = is_frame kind count l

-- the first line of a text is of that form, and what is taken is its bytes and the text after it
pub record IsFirst (kind count : ℕ) (text : List ℕ) (x : Line) : Type 0 where
  pub line : TextLine
  pub lines : lines_of text ≡ line ∷ lines_of x.rest.now
  pub form : is_frame kind count line ≡ true
  pub bytes : x.bytes.items ≡ frame_of line
  pub len : length x.bytes.items ≡ count
  pub shorter : length x.rest.now < length text

abbrev pub TakesFirst : (kind count : ℕ) (text : List ℕ) → Option Line → Type 0
TakesFirst kind count text r = MatchOption r (first_is kind count (lines_of text) ≡ false) (λ x. IsFirst kind count text x)
