-- The printed lines: what comes next of them, and how long they are.
-- Assumes nothing.
use mathlib.Core.Path.{◌≡◌, refl, sym, ap, ◌∙◌}
use mathlib.Core.List.{List, [], ◌∷◌, ◌++◌}
use Prim.Native.Nat.{ℕ, zero, suc, ◌+◌, ◌-◌, ◌*◌, ◌/◌, ◌%◌, ◌<◌, ◌≤◌}
use native.Mathlib.Nat.{suc-mul, zero-mul, add-div_left, div-eq_of_lt, mul-div_cancel}
use native.Mathlib.Numerals.{add-one}
use native.Mathlib.Omega.{arith}
use lib.ListN.{length, get_or, take, drop, length-append, length-drop}
use lib.Seq.{drop-cons, length-take-le, take_at, drop_at}
use lib.IntN.{ℤ, pos}
use Rattle.rules.specs.Bytes.{byte, bytes_of}
use Rattle.rules.specs.Frames.{digit_of, hex, frame, row_lines, term_lines}
use Rattle.theory.proofs.Bytes.{length-bytes}
use Rattle.frames.specs.Output.{row_text, rows_text, term_text}
use Rattle.frames.proofs.Writes.{Next}

-- ---- what comes next
pub next-byte : (bs : List ℕ) (i : ℕ) → i < length bs
    → Next (hex (drop i bs)) (digit_of (get_or bs i 0 / 16) ∷ digit_of (get_or bs i 0 % 16) ∷ [])
    (hex (drop (i + 1) bs))
unfolding hex
next-byte bs i h = record { is = rw add-one (ap hex (drop-cons bs i 0 h)) }

pub next-number : (zs : List ℤ) (i : ℕ) → i < length zs
    → Next (hex (bytes_of (drop i zs))) (hex (bytes_of (get_or zs i (pos 0) ∷ []))) (hex (bytes_of (drop (i + 1) zs)))
unfolding hex bytes_of
next-number zs i h = record { is = rw add-one (ap (λ (l : List ℤ). hex (bytes_of l)) (drop-cons zs i (pos 0) h)) }

-- x is the first of the rows to come
pub next-row : (kind width : ℕ) (rest x after : List ℤ) → 0 < width → rest ≡ x ++ after → length x ≡ width
    → Next (rows_text kind width rest) (row_text kind x) (rows_text kind width after)
unfolding rows_text row_lines row_text
next-row kind width rest x after h e l =
    let k : length rest ≡ width + length after = omega (arith, ap length e, length-append x after) in
    let n : length rest / width ≡ suc (length after / width)
    = ap (λ (j : ℕ). j / width) k ∙ add-div_left (length after) h ∙ add-one (length after / width) in
    record { is = rw (n, e, take_at x after width l, drop_at x after width l) }

pub rows_none : (kind width : ℕ) (zs : List ℤ) → length zs < width → rows_text kind width zs ≡ []
unfolding rows_text row_lines
rows_none kind width zs h = ap (λ (k : ℕ). row_lines kind k width zs) (div-eq_of_lt h)

-- a table's text is that of its rows
pub table-text : (kind count width : ℕ) (zs : List ℤ) → 0 < width → length zs ≡ count * width
    → rows_text kind width zs ≡ row_lines kind count width zs
unfolding rows_text
table-text kind count width zs h e = rw (e, mul-div_cancel count h)

pub next-term : (d : ℕ) (cs : List ℤ) (i : ℕ) (es : List ℤ) → i < length cs
    → Next (term_lines d (drop i cs) es) (term_text (get_or cs i (pos 0)) (take d es))
    (term_lines d (drop (i + 1) cs) (drop d es))
unfolding term_lines term_text
next-term d cs i es h = record { is = rw add-one (ap (λ (l : List ℤ). term_lines d l es) (drop-cons cs i (pos 0) h)) }

-- n parts of w numbers each are to come, but for the first i
module _ (n i w : ℕ) (zs : List ℤ) (h : i < n) (inside : (n - i) * w ≤ length zs) where
  split : (n - i) * w ≡ (n - (i + 1)) * w + w
  split = let e : n - i ≡ suc (n - (i + 1)) = omega arith in ap (λ (k : ℕ). k * w) e ∙ suc-mul (n - (i + 1)) w

  pub after-inside : (n - (i + 1)) * w ≤ length (drop w zs)
  after-inside = omega (arith, split, length-drop w zs)

-- ---- lengths
pub hex-length : (bs : List ℕ) → length (hex bs) ≡ 2 * length bs
unfolding hex
hex-length [] = refl
hex-length (b ∷ bs) = let i = hex-length bs in omega arith

pub frame-length : (bs : List ℕ) → length (frame bs) ≡ 2 * length bs + 1
unfolding frame
frame-length bs = length-append (hex bs) (10 ∷ []) ∙ omega (arith, hex-length bs)

row-length : (kind width : ℕ) (zs : List ℤ) → width ≤ length zs → length (row_text kind (take width zs)) ≡ 3 + 8 * width
unfolding row_text
row-length kind width zs h =
    frame-length (byte kind ++ bytes_of (take width zs))
    ∙ omega (arith, length-bytes (take width zs), length-take-le width zs h)

pub rows-length : (kind count width : ℕ) (zs : List ℤ) → count * width ≤ length zs
    → length (row_lines kind count width zs) ≡ count * (3 + 8 * width)
unfolding row_lines row_text
rows-length kind zero width zs h = sym (zero-mul (3 + 8 * width))
rows-length kind (suc count) width zs h =
    let s : suc count * width ≡ count * width + width = suc-mul count width in
    let j = rows-length kind count width (drop width zs) (omega (arith, length-drop width zs)) in
    let r = row-length kind width zs (omega arith) in
    length-append (row_text kind (take width zs)) (row_lines kind count width (drop width zs))
    ∙ rw (suc-mul count (3 + 8 * width)) (omega arith)

term-length : (z : ℤ) (d : ℕ) (es : List ℤ) → d ≤ length es → length (term_text z (take d es)) ≡ 11 + 8 * d
unfolding term_text
term-length z d es h =
    frame-length (byte 0x85 ++ bytes_of (z ∷ take d es))
    ∙ omega (arith, length-bytes (z ∷ take d es), length-take-le d es h)

pub terms-length : (d : ℕ) (cs : List ℤ) (es : List ℤ) → length cs * d ≤ length es
    → length (term_lines d cs es) ≡ length cs * (11 + 8 * d)
unfolding term_lines term_text
terms-length d [] es h = sym (zero-mul (11 + 8 * d))
terms-length d (c ∷ cs) es h =
    let s : suc (length cs) * d ≡ length cs * d + d = suc-mul (length cs) d in
    let j = terms-length d cs (drop d es) (omega (arith, length-drop d es)) in
    let r = term-length c d es (omega arith) in
    length-append (term_text c (take d es)) (term_lines d cs (drop d es))
    ∙ rw (suc-mul (length cs) (11 + 8 * d)) (omega arith)
