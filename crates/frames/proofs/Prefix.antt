-- The first 5,376 bytes of the input decide the program's answer: the longest good input has 5,375, and of a longer one
-- those bytes decide which line is refused.
-- Assumes nothing.
use mathlib.Core.Path.{◌≡◌, refl, sym, ap, ◌∙◌}
use mathlib.Core.Bool.{Bool, true, false}
use mathlib.Core.List.{List}
use Prim.Native.Nat.{ℕ, zero, suc, ◌+◌, ◌-◌, ◌*◌, ◌<◌, ◌≤◌}
use native.Mathlib.Nat.{mul-le-mul, suc-mul}
use native.Mathlib.Omega.{arith}
use borrow.Author.Tests.{leb-true, leb-false}
use lib.Dec.{leb, eqb}
use lib.ListN.{length, take, drop, length-drop}
use lib.Seq.{take_all, take-take, get_or-take, length-take-le}
use Rattle.std.proofs.lemmas.List.{drop-take}
use Rattle.rules.specs.Limits.{sizes_in_range}
use Rattle.rules.specs.Search.{found}
use Rattle.rules.specs.Bytes.{byte_at}
use Rattle.rules.specs.Frames.{whole, lines_of, frame_of, first_bad, Reading, unread, formed, sized, reading_of, answer_to, program}
use Rattle.theory.proofs.Accepted.{sizes-passed}
use Rattle.frames.specs.Line.{first_is}
use Rattle.frames.proofs.Lines.{starts_line, not_first, first_by_kind, good-line}
use Rattle.frames.proofs.FirstBad.{row-passes, row-stops, term-passes, term-stops, full-stops}
use Rattle.frames.proofs.Progress.{first-off}

-- ---- the first part of a text
drop-cut : (i l : ℕ) (t : List ℕ) → i ≤ l → drop i (take l t) ≡ take (l - i) (drop i t)
drop-cut i l t h = let e : l ≡ i + (l - i) = omega arith in ap (λ (k : ℕ). drop i (take k t)) e ∙ drop-take i (l - i) t

line-cut : (digits l : ℕ) (t : List ℕ) → digits < l → starts_line digits (take l t) ≡ starts_line digits t
unfolding starts_line
line-cut digits l t k = rw (take-take digits l t (omega arith), get_or-take l t digits 0 k)

first-cut : (kind count l : ℕ) (t : List ℕ) → 2 * count < l
    → first_is kind count (lines_of (take l t)) ≡ first_is kind count (lines_of t)
first-cut kind count l t k = go (starts_line (2 * count) t) refl
  where
    cut : starts_line (2 * count) (take l t) ≡ starts_line (2 * count) t
    cut = line-cut (2 * count) l t k

    go : (b : Bool) → starts_line (2 * count) t ≡ b
        → first_is kind count (lines_of (take l t)) ≡ first_is kind count (lines_of t)
    go false e = not_first kind count (take l t) (cut ∙ e) ∙ sym (not_first kind count t e)
    go true e =
        first_by_kind kind count (take l t) (cut ∙ e)
        ∙ ap (λ (u : List ℕ). eqb (byte_at (frame_of (whole u)) 0) kind) (take-take (2 * count) l t (omega arith))
        ∙ sym (first_by_kind kind count t e)

-- ---- a text of which more than enough is kept is bad at a line, and what is kept of it is bad at the same
record BadAlike (n rows terms place l : ℕ) (t : List ℕ) : Type 0 where
  at : ℕ
  whole-text : first_bad n rows terms place (lines_of t) ≡ found at
  first_part : first_bad n rows terms place (lines_of (take l t)) ≡ found at

-- by the line that comes next; rest is for the text after it
row-alike : (n rows terms place l : ℕ) (t : List ℕ) → 7 + 4 * n ≤ l
    → BadAlike n rows terms (suc place) (l - (7 + 4 * n)) (drop (7 + 4 * n) t) → BadAlike n (suc rows) terms place l t
row-alike n rows terms place l t h rest = go (first_is 2 (3 + 2 * n) (lines_of t)) refl
  where
    cut : first_is 2 (3 + 2 * n) (lines_of (take l t)) ≡ first_is 2 (3 + 2 * n) (lines_of t)
    cut = first-cut 2 (3 + 2 * n) l t (omega arith)

    passes : (u : List ℕ) → first_is 2 (3 + 2 * n) (lines_of u) ≡ true
        → first_bad n (suc rows) terms place (lines_of u) ≡ first_bad n rows terms (suc place) (lines_of (drop (7 + 4 * n) u))
    passes u g =
        let next = good-line 2 (3 + 2 * n) u (7 + 4 * n) (omega arith) g in
        row-passes n terms place rows next.1 next.0

    go : (b : Bool) → first_is 2 (3 + 2 * n) (lines_of t) ≡ b → BadAlike n (suc rows) terms place l t
    go false g = record {
      at = place;
      whole-text = row-stops n terms place rows (lines_of t) g;
      first_part = row-stops n terms place rows (lines_of (take l t)) (cut ∙ g);
    }
    go true g = record {
      at = rest.at;
      whole-text = passes t g ∙ rest.whole-text;
      first_part = passes (take l t) (cut ∙ g) ∙ rw (drop-cut (7 + 4 * n) l t h) rest.first_part;
    }

term-alike : (n terms place l : ℕ) (t : List ℕ) → 11 + 4 * n ≤ l → l ≤ length t
    → BadAlike n zero terms (suc place) (l - (11 + 4 * n)) (drop (11 + 4 * n) t) → BadAlike n zero (suc terms) place l t
term-alike n terms place l t h k rest = go (first_is 3 (5 + 2 * n) (lines_of t)) refl
  where
    cut : first_is 3 (5 + 2 * n) (lines_of (take l t)) ≡ first_is 3 (5 + 2 * n) (lines_of t)
    cut = first-cut 3 (5 + 2 * n) l t (omega arith)

    some : 0 < length (take l t)
    some = rw (length-take-le l t k) (omega arith)

    passes : (u : List ℕ) → first_is 3 (5 + 2 * n) (lines_of u) ≡ true
        → first_bad n zero (suc terms) place (lines_of u) ≡ first_bad n zero terms (suc place) (lines_of (drop (11 + 4 * n) u))
    passes u g =
        let next = good-line 3 (5 + 2 * n) u (11 + 4 * n) (omega arith) g in
        term-passes n terms place next.1 next.0

    go : (b : Bool) → first_is 3 (5 + 2 * n) (lines_of t) ≡ b → BadAlike n zero (suc terms) place l t
    go false g = record {
      at = place;
      whole-text = term-stops n terms place t (omega arith) g;
      first_part = term-stops n terms place (take l t) some (cut ∙ g);
    }
    go true g = record {
      at = rest.at;
      whole-text = passes t g ∙ rest.whole-text;
      first_part = passes (take l t) (cut ∙ g) ∙ rw (drop-cut (11 + 4 * n) l t h) rest.first_part;
    }

bad-alike : (n rows terms place l : ℕ) (t : List ℕ) → rows * (7 + 4 * n) + terms * (11 + 4 * n) < l → l ≤ length t
    → BadAlike n rows terms place l t
bad-alike n (suc rows) terms place l t h k =
    let more = suc-mul rows (7 + 4 * n) in
    let line : ℕ = 7 + 4 * n in
    row-alike n rows terms place l t (omega arith)
    (bad-alike n rows terms (suc place) (l - line) (drop line t) (omega arith) (omega (arith, length-drop line t)))
bad-alike n zero (suc terms) place l t h k =
    let more = suc-mul terms (11 + 4 * n) in
    let line : ℕ = 11 + 4 * n in
    term-alike n terms place l t (omega arith) k
    (bad-alike n zero terms (suc place) (l - line) (drop line t) (omega arith) (omega (arith, length-drop line t)))
bad-alike n zero zero place l t h k =
    let e = length-take-le l t k in
    record { at = place; whole-text = full-stops n place t (omega arith); first_part = full-stops n place (take l t) (omega arith) }

-- ---- the whole input
sized-alike : (m n : ℕ) (l : ℕ) (t : List ℕ) → 5369 ≤ l → l ≤ length t
    → sized m n (lines_of (take l t)) ≡ sized m n (lines_of t)
unfolding sized
sized-alike m n l t h k = go (sizes_in_range m n) refl
  where
    out : Bool → List ℕ → Reading
    out b u = elim b [ true ↦ formed m n (lines_of u) (first_bad n m 64 1 (lines_of u)) | false ↦ unread 1 0 ]

    go : (b : Bool) → sizes_in_range m n ≡ b → out b (take l t) ≡ out b t
    go false e = refl
    go true e =
        let z = sizes-passed m n e in
        let room : m * (7 + 4 * n) ≤ 568 = mul-le-mul {n₂ = 8} {m₂ = 71} z.m-high (omega (arith, z.n-high)) in
        let bad = bad-alike n m 64 1 l t (omega arith) k in
        rw (bad.whole-text, bad.first_part)

reading-alike : (s : List ℕ) → 5376 ≤ length s → reading_of (lines_of (take 5376 s)) ≡ reading_of (lines_of s)
unfolding reading_of
reading-alike s h = go (first_is 1 3 (lines_of s)) refl
  where
    cut : first_is 1 3 (lines_of (take 5376 s)) ≡ first_is 1 3 (lines_of s)
    cut = first-cut 1 3 5376 s (omega arith)

    go : (b : Bool) → first_is 1 3 (lines_of s) ≡ b → reading_of (lines_of (take 5376 s)) ≡ reading_of (lines_of s)
    go false g = first-off (take 5376 s) (cut ∙ g) ∙ sym (first-off s g)
    go true g =
        let all = good-line 1 3 s 7 refl g in
        let part = good-line 1 3 (take 5376 s) 7 refl (cut ∙ g) in
        rw (part.1, reading_of, part.0, all.1, reading_of, all.0, take-take 6 5376 s (omega arith), drop-cut 7 5376 s (omega arith))
        (sized-alike _ _ 5369 (drop 7 s) (omega arith) (omega (arith, length-drop 7 s)))

pub program_prefix : (input : List ℕ) → program (take 5376 input) ≡ program input
unfolding program
program_prefix input = go (leb (length input) 5376) refl
  where
    go : (b : Bool) → leb (length input) 5376 ≡ b
        → answer_to (reading_of (lines_of (take 5376 input))) ≡ answer_to (reading_of (lines_of input))
    go true e = rw (take_all 5376 input (leb-true _ _ e))
    go false e = ap answer_to (reading-alike input (let h = leb-false (length input) 5376 e in omega arith))
