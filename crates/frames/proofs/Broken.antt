-- An input that ends with a blank is refused: its last line is torn, so no reading of it takes every line.
-- Assumes nothing.
use mathlib.Core.Path.{◌≡◌, refl}
use mathlib.Core.Bool.{Bool, true, false}
use mathlib.Core.List.{List, [], ◌∷◌, ◌++◌}
use Prim.Native.Nat.{ℕ, zero, suc, ◌+◌, ◌<◌}
use native.Mathlib.Omega.{arith}
use lib.Dec.{eqb}
use lib.ListN.{length}
use Rattle.rules.specs.Limits.{sizes_in_range}
use Rattle.rules.specs.Search.{Found, found}
use Rattle.rules.specs.Bytes.{byte_at}
use Rattle.rules.specs.Frames.{newline, TextLine, whole, torn, before, lines_of, frame_of, is_frame, is_sizes, is_row, is_term, first_bad, unread, formed, sized, reading_of, answer_to, program}
use Rattle.frames.specs.Broken.{blank, Refusal, of_sizes, of_line, Refused}

-- the last line is torn
data Torn : List TextLine → Type 0 where
  last : (t : List ℕ) → Torn (torn t ∷ [])
  later : (l : TextLine) {ls : List TextLine} → Torn ls → Torn (l ∷ ls)

torn-before : (b : ℕ) {ls : List TextLine} → Torn ls → Torn (before b ls)
torn-before b (last t) = last (b ∷ t)
torn-before b (later (whole t) e) = later (whole (b ∷ t)) e
torn-before b (later (torn t) e) = later (torn (b ∷ t)) e

blank-torn : (s : List ℕ) → Torn (lines_of (s ++ blank ∷ []))
unfolding lines_of
blank-torn [] = last (blank ∷ [])
blank-torn (b ∷ s) = go (eqb b newline) (blank-torn s)
  where
    go : (x : Bool) {ls : List TextLine} → Torn ls → Torn (elim x [ true ↦ whole [] ∷ ls | false ↦ before b ls ])
    go true e = later (whole []) e
    go false e = torn-before b e

-- ---- a line is bad, and it is one of those that are there
record Bad (x : Found) (bound : ℕ) : Type 0 where
  at : ℕ
  is : x ≡ found at
  low : at < bound

bad-here : (place : ℕ) (l : TextLine) (ls : List TextLine) → Bad (found place) (place + length (l ∷ ls))
bad-here place l ls = record { at = place; is = refl; low = omega arith }

-- by the test of a line: the rest is bad where it passes
bad_from : (b : Bool) (place : ℕ) (l : TextLine) (ls : List TextLine) {x : Found} → Bad x (suc place + length ls)
    → Bad (elim b [ true ↦ x | false ↦ found place ]) (place + length (l ∷ ls))
bad_from false place l ls r = bad-here place l ls
bad_from true place l ls r = record { at = r.at; is = r.is; low = omega (arith, r.low) }

torn-bad : (n rows terms place : ℕ) {ls : List TextLine} → Torn ls → Bad (first_bad n rows terms place ls) (place + length ls)
unfolding first_bad is_frame
torn-bad n (suc rows) terms place (last t) = bad-here place (torn t) []
torn-bad n zero zero place (last t) = bad-here place (torn t) []
torn-bad n zero (suc terms) place (last t) = bad-here place (torn t) []
torn-bad n zero zero place (later l {ls} e) = bad-here place l ls
torn-bad n (suc rows) terms place (later l {ls} e) = bad_from (is_row n l) place l ls (torn-bad n rows terms (suc place) e)
torn-bad n zero (suc terms) place (later l {ls} e) = bad_from (is_term n l) place l ls (torn-bad n zero terms (suc place) e)

-- ---- the whole input
sized-refused : (m n : ℕ) {ls : List TextLine} → Torn ls → Refusal (suc (length ls)) (answer_to (sized m n ls))
unfolding sized
sized-refused m n {ls} e = go (sizes_in_range m n)
  where
    go : (b : Bool) → Refusal (suc (length ls)) (answer_to (elim b [ true ↦ formed m n ls (first_bad n m 64 1 ls) | false ↦ unread 1 0 ]))
    go false = of_sizes
    go true = let r = torn-bad n m 64 1 e in rw r.is (of_line r.at (omega (arith, r.low)))

torn-refused : {ls : List TextLine} → Torn ls → Refusal (length ls) (answer_to (reading_of ls))
unfolding reading_of is_frame
torn-refused (last t) = of_line 0 (omega arith)
torn-refused (later l {ls} e) = go (is_sizes l)
  where
    go : (b : Bool) → Refusal (length (l ∷ ls)) (answer_to (elim b [ true ↦ sized (byte_at (frame_of l) 1) (byte_at (frame_of l) 2) ls | false ↦ unread 10 0 ]))
    go false = of_line 0 (omega arith)
    go true = sized-refused (byte_at (frame_of l) 1) (byte_at (frame_of l) 2) e

pub broken_refused : (s : List ℕ) → Refused (s ++ blank ∷ [])
unfolding program
broken_refused s = torn-refused (blank-torn s)
