-- Section 9 of the rules: from any input bytes to the output bytes.
use Rattle.std.specs.Prelude.{Bool, true, false, cond, ◌&&◌, List, [], ◌∷◌, ◌++◌, map, ℕ, zero, suc, ◌+◌, ◌-◌, ◌*◌, ◌/◌, ◌%◌, ltb, leb, eqb, length, take, drop, ℤ}
use Rattle.whole.specs.Lists.{join}
use Rattle.rules.specs.Limits.{sizes_in_range, most_terms}
use Rattle.rules.specs.Search.{Found, none, found}
use Rattle.rules.specs.Problem.{Problem, s, N}
use Rattle.rules.specs.Stages.{run}
use Rattle.rules.specs.Formulas.{Formula, d}
use Rattle.rules.specs.Calls.{Verdict, taken, refused, translate_verdict, contents_h, contents_v, contents_w, translated_exponents}
use Rattle.rules.specs.Bytes.{byte_at, short, long, shorts, byte, two_bytes, four_bytes, bytes_of}

-- ---- lines
-- R9.1 and R9.5: what stands after the last newline, if anything, is torn off
pub data TextLine : Type 0 where
  whole torn : List ℕ → TextLine

-- b before the first line
abbrev pub before : ℕ → List TextLine → List TextLine
before b [] = torn (b ∷ []) ∷ []
before b (whole t ∷ ls) = whole (b ∷ t) ∷ ls
before b (torn t ∷ ls) = torn (b ∷ t) ∷ ls

abbrev pub newline : ℕ
newline = 10

unfoldable pub lines_of : List ℕ → List TextLine
lines_of [] = []
lines_of (b ∷ bs) = elim (eqb b newline) [ true ↦ whole [] ∷ lines_of bs | false ↦ before b (lines_of bs) ]

-- ---- frames: R9.1
-- what a byte of text is worth as a digit ('0' is 48, 'a' is 97); 16 for a byte that is no lower-case digit
unfoldable pub digit : ℕ → ℕ
digit b = cond (leb 48 b && leb b 57) (b - 48) (cond (leb 97 b && leb b 102) (b - 87) 16)

abbrev pub all_digits : List ℕ → Bool
all_digits [] = true
all_digits (b ∷ t) = ltb (digit b) 16 && all_digits t

-- the bytes that the first count pairs of digits write
unfoldable pub unhex : (count : ℕ) → List ℕ → List ℕ
unhex zero t = []
unhex (suc count) t = (16 * digit (byte_at t 0) + digit (byte_at t 1)) ∷ unhex count (drop 2 t)

abbrev pub text : TextLine → List ℕ
text (whole t) = t
text (torn t) = t

-- the bytes of a line
unfoldable pub frame_of : TextLine → List ℕ
frame_of l = unhex (length (text l) / 2) (text l)

-- a whole line of count bytes, the first of which is kind
unfoldable pub is_frame : (kind count : ℕ) → TextLine → Bool
is_frame kind count (torn t) = false
is_frame kind count (whole t) = eqb (length t) (2 * count) && all_digits t && eqb (byte_at (frame_of (whole t)) 0) kind

-- R9.2
abbrev pub is_sizes : TextLine → Bool
is_sizes l = is_frame 0x01 3 l

-- R9.3
abbrev pub is_row : (n : ℕ) → TextLine → Bool
is_row n l = is_frame 0x02 (1 + 2 + 2 * n) l

unfoldable pub row_modulus : TextLine → ℤ
row_modulus l = short (drop 1 (frame_of l))

unfoldable pub row_entries : (n : ℕ) → TextLine → List ℤ
row_entries n l = shorts n (drop 3 (frame_of l))

-- R9.4
abbrev pub is_term : (n : ℕ) → TextLine → Bool
is_term n l = is_frame 0x03 (1 + 4 + 2 * n) l

unfoldable pub term_coefficient : TextLine → ℤ
term_coefficient l = long (drop 1 (frame_of l))

unfoldable pub term_exponents : (n : ℕ) → TextLine → List ℤ
term_exponents n l = shorts n (drop 5 (frame_of l))

-- ---- the input
-- R9.6, the first bad or missing line: after line 0, so many matrix lines are to come, then at most so many term lines;
-- the next line is number place
unfoldable pub first_bad : (n rows terms place : ℕ) → List TextLine → Found
first_bad n (suc rows) terms place [] = found place
first_bad n (suc rows) terms place (l ∷ ls) = elim (is_row n l) [ true ↦ first_bad n rows terms (suc place) ls | false ↦ found place ]
first_bad n zero terms place [] = none
first_bad n zero zero place (l ∷ ls) = found place
first_bad n zero (suc terms) place (l ∷ ls) = elim (is_term n l) [ true ↦ first_bad n zero terms (suc place) ls | false ↦ found place ]

pub data Reading : Type 0 where
  unread : (number place : ℕ) → Reading
  read : Problem → Formula → Reading

-- ls are the lines after line 0
unfoldable pub contents_of : (m n : ℕ) → List TextLine → Reading
contents_of m n ls =
    read (record { m = m; n = n; matrix = join (map (row_entries n) (take m ls)); moduli = map row_modulus (take m ls) })
    (record { coefficients = map term_coefficient (drop m ls); exponents = join (map (term_exponents n) (drop m ls)) })

abbrev pub formed : (m n : ℕ) → List TextLine → Found → Reading
formed m n ls (found place) = unread 10 place
formed m n ls none = contents_of m n ls

-- R9.6: 1 before any line after line 0 is looked at, then 10 (R4.10)
unfoldable pub sized : (m n : ℕ) → List TextLine → Reading
sized m n ls = elim (sizes_in_range m n) [ true ↦ formed m n ls (first_bad n m most_terms 1 ls) | false ↦ unread 1 0 ]

unfoldable pub reading_of : List TextLine → Reading
reading_of [] = unread 10 0
reading_of (l ∷ ls) = elim (is_sizes l) [ true ↦ sized (byte_at (frame_of l) 1) (byte_at (frame_of l) 2) ls | false ↦ unread 10 0 ]

-- ---- the output
unfoldable pub digit_of : ℕ → ℕ
digit_of x = cond (ltb x 10) (48 + x) (87 + x)

unfoldable pub hex : List ℕ → List ℕ
hex [] = []
hex (b ∷ bs) = digit_of (b / 16) ∷ digit_of (b % 16) ∷ hex bs

-- a line: its bytes and a newline
unfoldable pub frame : List ℕ → List ℕ
frame bs = hex bs ++ newline ∷ []

-- R9.11
unfoldable pub refusal_line : (number place : ℕ) → List ℕ
refusal_line number place = frame (byte 0xff ++ byte number ++ two_bytes place)

-- R9.7
unfoldable pub sizes_line : Problem → List ℕ
sizes_line P = frame (byte 0x81 ++ byte P.m ++ byte P.n ++ byte (s P) ++ byte (run P).rank ++ four_bytes (run P).state.steps)

-- count lines of the kind, each with the next width numbers of a list
unfoldable pub row_lines : (kind count width : ℕ) → List ℤ → List ℕ
row_lines kind zero width zs = []
row_lines kind (suc count) width zs = frame (byte kind ++ bytes_of (take width zs)) ++ row_lines kind count width (drop width zs)

-- R9.9
unfoldable pub term_lines : (d : ℕ) → (coefficients exponents : List ℤ) → List ℕ
term_lines d [] es = []
term_lines d (c ∷ cs) es = frame (byte 0x85 ++ bytes_of (c ∷ take d es)) ++ term_lines d cs (drop d es)

-- R9.7 to R9.9 one after the other
unfoldable pub printed : Problem → Formula → List ℕ
printed P f =
    sizes_line P
    ++ row_lines 0x82 P.m (N P) (contents_h P)
    ++ row_lines 0x83 (N P) (N P) (contents_v P)
    ++ row_lines 0x84 (N P) (N P) (contents_w P)
    ++ term_lines (d P (run P)) f.coefficients (translated_exponents P f)

-- R9.11: of a refusal nothing else is printed
abbrev pub answered : Problem → Formula → Verdict → List ℕ
answered P f (refused number place) = refusal_line number place
answered P f taken = printed P f

-- R3.6. What is read has the right lengths, and the program lends itself room enough: 2 and 3 cannot come
abbrev pub answer_to : Reading → List ℕ
answer_to (unread number place) = refusal_line number place
answer_to (read P f) = answered P f (translate_verdict P f true true)

-- the program: from the bytes of standard input to those of standard output
unfoldable pub program : List ℕ → List ℕ
program input = answer_to (reading_of (lines_of input))
