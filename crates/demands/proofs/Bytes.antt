-- R1.4, numbers in four bytes: what is written in bytes is read back, number for number, and what stands after it in the
-- buffer is as it was. (bytes_of writes, numbers_of reads: rules/specs/Bytes.)
use mathlib.Core.Path.{◌≡◌, sym, ◌∙◌, ap, ap₂, subst}
use mathlib.Core.Bool.{Bool, false}
use mathlib.Core.List.{List, [], ◌∷◌, ◌++◌, append-nil}
use Prim.Native.Nat.{ℕ, zero, suc, ◌+◌, ◌-◌, ◌*◌, ◌/◌, ◌%◌, ◌^◌, ◌≤◌, ◌<◌}
use native.Mathlib.Nat.{div-add-mod', div-div-eq-div-mul, div-lt_iff_lt-mul, mod-eq_of_lt, mod-lt}
use native.Mathlib.Omega.{arith}
use lib.ListN.{length, drop}
use lib.Seq.{drop-drop}
use lib.IntN.{ℤ, pos, negsuc, nat_abs}
use mir.Syntax.{w32}
use mir.Val.{SFits, to_z, of_z, sel}
use mir.Facts.{Fits-of_z, to_z-of_z}
use Rattle.whole.specs.Lists.{nth}
use Rattle.whole.specs.Matrix.{Matrix}
use Rattle.whole.proofs.Tests.{Test, pass, fail, lt?}
use Rattle.whole.proofs.Order.{fits}
use Rattle.rules.specs.Limits.{M}
use Rattle.rules.specs.Bytes.{byte_at, long, longs, four_bytes, bytes_of, numbers_in, numbers_of}
use Rattle.rules.specs.Problem.{Problem, WellFormed, N}
use Rattle.rules.specs.Steps.{on_t, on_v}
use Rattle.rules.specs.Stages.{run, H, U, W}
use Rattle.rules.specs.Calls.{filled, grid, contents_h, contents_v, contents_w}
use Rattle.theory.proofs.Grid.{table-grid, length-grid}
use Rattle.theory.proofs.RunRange.{well_formed_moderate, run-entries, run_entries_w}
use Rattle.theory.proofs.Bytes.{length-bytes}
use Rattle.demands.proofs.Buffers.{KeepsRest, filled_keeps}

-- every number of the list is one of 32 bits
abbrev pub AllFit : List ℤ → Type 0
AllFit zs = (i : ℕ) → i < length zs → SFits w32 (nth zs i)

pub within-fits : {z : ℤ} → nat_abs z ≤ M → SFits w32 z
within-fits {z} h = fits w32 z (omega arith)

-- ---- one number
four_digits : (x a b c p q s : ℕ) → a * 256 + p ≡ x → b * 256 + q ≡ a → c * 256 + s ≡ b → 16_777_216 * c + 65_536 * s + 256 * q + p ≡ x
four_digits x a b c p q s e f g = omega arith

pub read_four : (x : ℕ) → x < 2 ^ 32
    → 16_777_216 * (x / 16_777_216 % 256) + 65_536 * (x / 65_536 % 256) + 256 * (x / 256 % 256) + x % 256 ≡ x
read_four x h =
    let a = x / 256 in
    let b = a / 256 in
    let c = b / 256 in
    let eb : b ≡ x / 65_536 = div-div-eq-div-mul x 256 256 in
    let ec : c ≡ x / 16_777_216 = ap (λ (y : ℕ). y / 256) eb ∙ div-div-eq-div-mul x 65_536 256 in
    let top : c % 256 ≡ c = mod-eq_of_lt (omega arith) in
    rw (← eb, ← ec, top) (four_digits x a b c (x % 256) (a % 256) (b % 256) (div-add-mod' x 256) (div-add-mod' a 256) (div-add-mod' b 256))

read-written_one : (z : ℤ) (rest : List ℕ) → SFits w32 z → long (four_bytes (of_z w32 z) ++ rest) ≡ z
unfolding long
read-written_one z rest f = ap (to_z w32) (read_four (of_z w32 z) (Fits-of_z f).fits) ∙ to_z-of_z f

-- ---- a list of them, with more bytes behind
read-written : (zs : List ℤ) → AllFit zs → (k : ℕ) (rest : List ℕ) → longs (length zs + k) (bytes_of zs ++ rest) ≡ zs ++ longs k rest
unfolding longs bytes_of
read-written [] f k rest = let e : 0 + k ≡ k = omega arith in rw e
read-written (z ∷ zs) f k rest =
    let e : suc (length zs) + k ≡ suc (length zs + k) = omega arith in
    rw e (ap₂ ◌∷◌ (read-written_one z (bytes_of zs ++ rest) (f 0 (omega arith))) (read-written zs (λ i l. f (suc i) (omega arith)) k rest))

-- .. and with none
pub numbers-back : (zs : List ℤ) → AllFit zs → numbers_of (bytes_of zs) ≡ zs
unfolding longs
numbers-back zs f =
    let e : numbers_in (bytes_of zs) ≡ length zs + 0 = omega (arith, length-bytes zs) in
    ap₂ longs e (sym (append-nil (bytes_of zs))) ∙ read-written zs f 0 [] ∙ append-nil zs

-- the numbers after the first count
drop-longs : (count k : ℕ) (bs : List ℕ) → longs k (drop (4 * count) bs) ≡ drop count (longs (count + k) bs)
unfolding longs
drop-longs zero k bs = let e : 0 + k ≡ k = omega arith in rw e
drop-longs (suc count) k bs =
    let e : suc count + k ≡ suc (count + k) = omega arith in
    let f : 4 * suc count ≡ 4 + 4 * count = omega arith in
    rw (e, f) (ap (longs k) (sym (drop-drop (4 * count) 4 bs)) ∙ drop-longs count k (drop 4 bs))

-- ---- a lent buffer
pub numbers-filled : (contents : List ℤ) (lent : List ℕ) → AllFit contents → 4 * length contents ≤ length lent
    → numbers_of (filled (bytes_of contents) lent) ≡ filled contents (numbers_of lent)
numbers-filled contents lent f h =
    let count = length contents in
    let k = numbers_in lent - count in
    let l = length-bytes contents in
    let same = (filled_keeps (4 * count) (bytes_of contents) lent l h).same_length in
    let e : numbers_in lent ≡ count + k = omega arith in
    ap (λ (i : ℕ). longs (i / 4) (filled (bytes_of contents) lent)) same
    ∙ ap (λ (i : ℕ). longs i (filled (bytes_of contents) lent)) e
    ∙ read-written contents f k (drop (length (bytes_of contents)) lent)
    ∙ ap (λ (i : ℕ). contents ++ longs k (drop i lent)) l
    ∙ ap (λ (xs : List ℤ). contents ++ xs) (drop-longs count k lent ∙ ap (λ (i : ℕ). drop count (longs i lent)) (sym e))

-- the bytes after the contents are untouched
pub bytes-keep : (count : ℕ) (contents : List ℤ) (lent : List ℕ) → length contents ≡ count → 4 * count ≤ length lent
    → KeepsRest (4 * count) lent (filled (bytes_of contents) lent)
bytes-keep count contents lent e h = filled_keeps (4 * count) (bytes_of contents) lent (length-bytes contents ∙ ap (λ (i : ℕ). 4 * i) e) h

-- ---- what is read has 32 bits
read_fits : (x : ℕ) → SFits w32 (to_z w32 x)
read_fits x = go (lt? x (2 ^ 31))
  where
    go : {b : Bool} → Test (x < 2 ^ 31) (2 ^ 31 ≤ x) b → SFits w32 (sel b (pos x) (negsuc (2 ^ 32 - suc x)))
    go (pass h) = record { sfits = h }
    go (fail h) = record { sfits = omega arith }

pub long-fits : (bs : List ℕ) → SFits w32 (long bs)
unfolding long
long-fits bs = read_fits (16_777_216 * byte_at bs 0 + 65_536 * byte_at bs 1 + 256 * byte_at bs 2 + byte_at bs 3)

longs-fit : (count : ℕ) (bs : List ℕ) → AllFit (longs count bs)
unfolding longs
longs-fit zero bs i l = absurd (omega arith)
longs-fit (suc count) bs zero l = long-fits bs
longs-fit (suc count) bs (suc i) l = longs-fit count (drop 4 bs) i (omega arith)

pub numbers_fit : (bs : List ℕ) → AllFit (numbers_of bs)
numbers_fit bs = longs-fit (numbers_in bs) bs

-- ---- what is written has 32 bits
pub grid-fits : (m n : ℕ) (A : Matrix) → ((i j : ℕ) → i < m → j < n → nat_abs (A i j) ≤ M) → AllFit (grid m n A)
grid-fits m zero A h k l = absurd (omega (arith, length-grid m zero A))
grid-fits m (suc n) A h k l =
    let i = k / suc n in
    let j = k % suc n in
    let b : j < suc n = mod-lt k (omega arith) in
    let a : i < m = (div-lt_iff_lt-mul {k = suc n} {x = k} {y = m} (omega arith)).1 (omega (arith, length-grid m (suc n) A)) in
    within-fits (subst (λ (k : ℕ). nat_abs (nth (grid m (suc n) A) k) ≤ M) (div-add-mod' k (suc n)) (rw (table-grid m (suc n) A i j a b) (h i j a b)))

-- the entries of an accepted build
module _ (P : Problem) (F : WellFormed P) (o : (run P).state.over ≡ false) where
  pub H-fits : AllFit (contents_h P)
  unfolding contents_h
  H-fits = grid-fits P.m (N P) (H (run P)) (λ i j _ _. run-entries P (well_formed_moderate P F) o on_t i j)

  pub V-fits : AllFit (contents_v P)
  unfolding contents_v
  V-fits = grid-fits (N P) (N P) (U (run P)) (λ i j _ _. run-entries P (well_formed_moderate P F) o on_v i j)

  pub W-fits : AllFit (contents_w P)
  unfolding contents_w
  W-fits = grid-fits (N P) (N P) (W (run P)) (λ i j _ _. run_entries_w P (well_formed_moderate P F) o i j)
