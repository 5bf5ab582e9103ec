-- What the code has printed.
use Rattle.std.specs.Prelude.{◌≡◌, List, ◌∷◌, ◌++◌, ℕ, ◌+◌, ◌*◌, ◌/◌, ◌≤◌, length, take, replicate, ℤ, Result, Ok, Err}
use Rattle.arrayvec.specs.ArrayVec.{ArrayVec, array_vec_len}
use Rattle.rules.specs.Bytes.{byte, four_bytes, bytes_of}
use Rattle.rules.specs.Frames.{frame, row_lines, term_lines, refusal_line}
use Rattle.checks.specs.declared.Refusal.{Refusal}
use Rattle.checks.specs.Refusals.{number_of, place_of}
use Rattle.scaling.specs.declared.Built.{Built}
use Rattle.frames.specs.declared.input.Input.{Input}
use Rattle.frames.specs.declared.print.Kind.{Kind}
use Rattle.frames.specs.declared.print.Kind.TheVariants.{Sizes, H, V, W, Term, Refused}

-- the bytes after a text
abbrev pub zeros : (count : ℕ) → List ℕ
zeros count = replicate count 0

-- there is room for a text after what is printed
abbrev pub Fits : ArrayVec ℕ → (text : List ℕ) → Type 0
Fits x text = array_vec_len x + length text ≤ 20480

-- the first byte of a line
abbrev pub kind_byte : Kind → ℕ
kind_byte Sizes = 0x81
kind_byte H = 0x82
kind_byte V = 0x83
kind_byte W = 0x84
kind_byte Term = 0x85
kind_byte Refused = 0xff

-- the sizes line, its numbers given
unfoldable pub sizes_text : (m n : ℕ) → Built → List ℕ
sizes_text m n b = frame (byte 0x81 ++ byte m ++ byte n ++ byte b.moduli ++ byte b.rank ++ four_bytes b.steps)

-- the line of a row, and that of a term
unfoldable pub row_text : (kind : ℕ) → List ℤ → List ℕ
row_text kind zs = frame (byte kind ++ bytes_of zs)

-- a line for each width numbers
unfoldable pub rows_text : (kind width : ℕ) → List ℤ → List ℕ
rows_text kind width zs = row_lines kind (length zs / width) width zs

unfoldable pub term_text : (coefficient : ℤ) → (exponents : List ℤ) → List ℕ
term_text z es = frame (byte 0x85 ++ bytes_of (z ∷ es))

-- ---- a whole output
-- a Text is the text given
pub record Shows (x : ArrayVec ℕ) (text : List ℕ) : Type 0 where
  pub fits : length text ≤ 20480
  pub items_are : x.items ≡ text

-- a Text is the text given; or the answer is a refusal and the text its line, and nothing is said of the Text
abbrev pub Prints : Result Unit Refusal → ArrayVec ℕ → (text : List ℕ) → Type 0
Prints (Ok _) x text = Shows x text
Prints (Err r) x text = text ≡ refusal_line (number_of r) (place_of r)

abbrev pub columns : Input → Built → ℕ
columns x b = x.n + b.moduli

-- the numbers are those of a problem and its formula, and the arrays have the entries that are printed
pub record Room (x : Input) (b : Built) (d : ℕ) (h v w kept translated : List ℤ) : Type 0 where
  pub few-columns : columns x b ≤ 24
  pub few-exponents : length x.coefficients.items * d ≤ 1024
  pub h-room : x.m * columns x b ≤ length h
  pub v-room : columns x b * columns x b ≤ length v
  pub w-room : columns x b * columns x b ≤ length w
  pub kept-room : length x.coefficients.items ≤ length kept
  pub translated-room : length x.coefficients.items * d ≤ length translated

unfoldable pub solution_text : Input → Built → (d : ℕ) → (h v w kept translated : List ℤ) → List ℕ
solution_text x b d h v w kept translated =
    sizes_text x.m x.n b
    ++ rows_text 0x82 (columns x b) (take (x.m * columns x b) h)
    ++ rows_text 0x83 (columns x b) (take (columns x b * columns x b) v)
    ++ rows_text 0x84 (columns x b) (take (columns x b * columns x b) w)
    ++ term_lines d (take (length x.coefficients.items) kept) (take (length x.coefficients.items * d) translated)
