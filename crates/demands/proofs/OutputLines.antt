-- R9.1, printed: what is printed is read back, line for line
-- and byte for byte, by the same definitions by which the program's input is read (lines_of, frame_of, numbers_of of rules/specs).
use mathlib.Core.Path.{◌≡◌, refl, sym, ◌∙◌, ap, ap₂}
use mathlib.Core.Bool.{Bool, true, false, cond, true≢false}
use mathlib.Core.List.{List, [], ◌∷◌, ◌++◌, append_assoc, append-nil}
use Prim.Native.Nat.{ℕ, zero, suc, ◌+◌, ◌*◌, ◌/◌, ◌%◌, ◌≤◌, ◌<◌}
use native.Mathlib.Nat.{div-add-mod', mod-eq_of_lt, mod-lt}
use native.Mathlib.Omega.{arith}
use lib.Dec.{ltb, eqb}
use lib.ListN.{length, drop}
use lib.Seq.{take_at, drop_at}
use lib.IntN.{ℤ}
use borrow.Author.Tests.{le-leb, lt-leb, lt-ltb, eq-eqb, ne_eqb}
use Rattle.whole.specs.Lists.{nth, tab}
use Rattle.whole.specs.Matrix.{Matrix}
use Rattle.whole.proofs.Lists.{length-tab}
use Rattle.whole.proofs.Tests.{Test, pass, fail, lt?}
use Rattle.rules.specs.Bytes.{byte_at, byte, bytes_of, numbers_of}
use Rattle.rules.specs.Calls.{grid}
use Rattle.rules.specs.Frames.{newline, TextLine, whole, before, lines_of, digit, all_digits, unhex, frame_of, is_frame, digit_of, hex, frame, row_lines, term_lines}
use Rattle.theory.proofs.Bytes.{length-bytes}
use Rattle.frames.proofs.Printed.{hex-length}
use Rattle.demands.proofs.Limits.{both}
use Rattle.demands.proofs.Bytes.{AllFit, numbers-back}
use Rattle.demands.proofs.InputLines.{Framed, framed_exactly}

-- ---- digits
digit-back : (x : ℕ) → x < 16 → digit (digit_of x) ≡ x
unfolding digit digit_of
digit-back x h = go (lt? x 10)
  where
    go : {b : Bool} → Test (x < 10) (10 ≤ x) b → digit (cond b (48 + x) (87 + x)) ≡ x
    go (pass k) = rw (le-leb 48 (48 + x) (omega arith), le-leb (48 + x) 57 (omega arith)) (omega arith)
    go (fail k) =
        rw (le-leb 48 (87 + x) (omega arith), lt-leb (87 + x) 57 (omega arith), le-leb 97 (87 + x) (omega arith), le-leb (87 + x) 102 (omega arith)) (omega arith)

not-newline : (x : ℕ) → eqb (digit_of x) newline ≡ false
unfolding digit_of
not-newline x = go (lt? x 10)
  where
    go : {b : Bool} → Test (x < 10) (10 ≤ x) b → eqb (cond b (48 + x) (87 + x)) 10 ≡ false
    go (pass k) = ne_eqb (48 + x) 10 (λ e. omega arith)
    go (fail k) = ne_eqb (87 + x) 10 (λ e. omega arith)

-- ---- a line's text is its own: nothing is cut off and nothing is added
-- the lines of a text, whatever follows it
pub record PrintsLines (printed : List ℕ) (ls : List TextLine) : Type 0 where
  pub lines : (rest : List ℕ) → lines_of (printed ++ rest) ≡ ls ++ lines_of rest

pub all_lines : {printed : List ℕ} {ls : List TextLine} → PrintsLines printed ls → lines_of printed ≡ ls
unfolding lines_of
all_lines {printed} {ls} p = ap lines_of (sym (append-nil printed)) ∙ p.lines [] ∙ append-nil ls

in_line : (b : ℕ) (t : List ℕ) → eqb b newline ≡ false → lines_of (b ∷ t) ≡ before b (lines_of t)
unfolding lines_of
in_line b t e = go (eqb b newline) e
  where
    go : (x : Bool) → x ≡ false → elim x [ true ↦ whole [] ∷ lines_of t | false ↦ before b (lines_of t) ] ≡ before b (lines_of t)
    go true e = absurd (true≢false e)
    go false e = refl

hex-line : (bs rest : List ℕ) → lines_of (hex bs ++ newline ∷ rest) ≡ whole (hex bs) ∷ lines_of rest
unfolding lines_of hex
hex-line [] rest = refl
hex-line (b ∷ bs) rest =
    let high = digit_of (b / 16) in
    let low = digit_of (b % 16) in
    in_line high (low ∷ hex bs ++ newline ∷ rest) (not-newline (b / 16))
    ∙ ap (before high) (in_line low (hex bs ++ newline ∷ rest) (not-newline (b % 16)) ∙ ap (before low) (hex-line bs rest))

pub frame_prints : (bs : List ℕ) → PrintsLines (frame bs) (whole (hex bs) ∷ [])
unfolding frame
frame_prints bs = record { lines = λ rest. ap lines_of (append_assoc (hex bs) (newline ∷ []) rest) ∙ hex-line bs rest }

pub both_print : {a b : List ℕ} {xs ys : List TextLine} → PrintsLines a xs → PrintsLines b ys → PrintsLines (a ++ b) (xs ++ ys)
both_print {a} {b} {xs} {ys} p q = record {
  lines = λ rest.
      ap lines_of (append_assoc a b rest) ∙ p.lines (b ++ rest) ∙ ap (λ (l : List TextLine). xs ++ l) (q.lines rest)
      ∙ sym (append_assoc xs ys (lines_of rest));
}

-- one row after the other, and one term after the other
pub rows_print : (kind count width : ℕ) (A : Matrix)
    → PrintsLines (row_lines kind count width (grid count width A)) (tab count (λ i. whole (hex (byte kind ++ bytes_of (tab width (λ j. A i j))))))
unfolding row_lines
rows_print kind zero width A = record { lines = λ rest. refl }
rows_print kind (suc count) width A =
    let row : List ℤ = tab width (λ j. A 0 j) in
    let more : List ℤ = grid count width (λ i. A (suc i)) in
    let l = length-tab width (λ j. A 0 j) in
    rw (take_at row more width l, drop_at row more width l)
    (both_print (frame_prints (byte kind ++ bytes_of row)) (rows_print kind count width (λ i. A (suc i))))

pub terms_print : (d : ℕ) (cs : List ℤ) (A : Matrix)
    → PrintsLines (term_lines d cs (grid (length cs) d A)) (tab (length cs) (λ t. whole (hex (byte 0x85 ++ bytes_of (nth cs t ∷ tab d (λ g. A t g))))))
unfolding term_lines
terms_print d [] A = record { lines = λ rest. refl }
terms_print d (c ∷ cs) A =
    let term : List ℤ = tab d (λ g. A 0 g) in
    let more : List ℤ = grid (length cs) d (λ t. A (suc t)) in
    let l = length-tab d (λ g. A 0 g) in
    rw (take_at term more d l, drop_at term more d l)
    (both_print (frame_prints (byte 0x85 ++ bytes_of (c ∷ term))) (terms_print d cs (λ t. A (suc t))))

-- ---- the bytes of a line
abbrev pub AllBytes : List ℕ → Type 0
AllBytes [] = Unit {0}
AllBytes (b ∷ bs) = (b < 256) × AllBytes bs

pub is_byte : (x : ℕ) → x % 256 < 256
is_byte x = mod-lt x (omega arith)

pub bytes_are : (zs : List ℤ) → AllBytes (bytes_of zs)
unfolding bytes_of
bytes_are [] = tt
bytes_are (z ∷ zs) = (is_byte _, (is_byte _, (is_byte _, (is_byte _, bytes_are zs))))

unhex-hex : (bs : List ℕ) → AllBytes bs → unhex (length bs) (hex bs) ≡ bs
unfolding unhex hex
unhex-hex [] a = refl
unhex-hex (b ∷ bs) a =
    let high = digit-back (b / 16) (omega (arith, a.0)) in
    let low = digit-back (b % 16) (mod-lt b (omega arith)) in
    ap₂ ◌∷◌ (ap₂ (λ (x y : ℕ). 16 * x + y) high low ∙ omega (arith, div-add-mod' b 16)) (unhex-hex bs a.1)

pub frame_back : (bs : List ℕ) → AllBytes bs → frame_of (whole (hex bs)) ≡ bs
unfolding frame_of
frame_back bs a =
    let e : length (hex bs) / 2 ≡ length bs = omega (arith, hex-length bs) in
    ap (λ (k : ℕ). unhex k (hex bs)) e ∙ unhex-hex bs a

written-digit : (x : ℕ) → x < 16 → ltb (digit (digit_of x)) 16 ≡ true
written-digit x h = ap (λ (y : ℕ). ltb y 16) (digit-back x h) ∙ lt-ltb x 16 h

hex-digits : (bs : List ℕ) → AllBytes bs → all_digits (hex bs) ≡ true
unfolding hex
hex-digits [] a = refl
hex-digits (b ∷ bs) a =
    both (written-digit (b / 16) (omega (arith, a.0))) (both (written-digit (b % 16) (mod-lt b (omega arith))) (hex-digits bs a.1))

pub frame-framed : (kind : ℕ) (bs : List ℕ) → AllBytes (kind ∷ bs) → Framed kind (1 + length bs) (whole (hex (kind ∷ bs)))
unfolding is_frame
frame-framed kind bs a =
    let l : List ℕ = kind ∷ bs in
    (framed_exactly kind (1 + length bs) (whole (hex l))).0
    (both (both (eq-eqb (length (hex l)) (2 * (1 + length bs)) (omega (arith, hex-length l))) (hex-digits l a))
    (eq-eqb (byte_at (frame_of (whole (hex l))) 0) kind (ap (λ (t : List ℕ). byte_at t 0) (frame_back l a))))

-- ---- a line of numbers: its kind, and behind it whole numbers of four bytes (R9.10)
abbrev pub numbers_on : TextLine → List ℤ
numbers_on l = numbers_of (drop 1 (frame_of l))

pub record NumbersLine (kind : ℕ) (numbers : List ℤ) (l : TextLine) : Type 0 where
  pub framed : Framed kind (1 + 4 * length numbers) l
  pub reads : numbers_on l ≡ numbers

pub numbers-line : (kind : ℕ) → kind < 256 → (zs : List ℤ) → AllFit zs → NumbersLine kind zs (whole (hex (byte kind ++ bytes_of zs)))
numbers-line kind h zs fit =
    let e : kind % 256 ≡ kind = mod-eq_of_lt h in
    rw e (record {
      framed = rw (← length-bytes zs) (frame-framed kind (bytes_of zs) (h, bytes_are zs));
      reads = ap (λ (bs : List ℕ). numbers_of (drop 1 bs)) (frame_back (kind ∷ bytes_of zs) (h, bytes_are zs)) ∙ numbers-back zs fit;
    })
