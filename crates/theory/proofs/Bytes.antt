-- Numbers in bytes, one after the other (rules/specs/Bytes): written by bytes_of, read by shorts and longs.
use mathlib.Core.Path.{◌≡◌, refl, ap, ◌∙◌}
use mathlib.Core.List.{List, [], ◌∷◌, ◌++◌}
use Prim.Native.Nat.{ℕ, zero, suc, ◌+◌, ◌*◌, ◌<◌}
use native.Mathlib.Numerals.{add-one}
use native.Mathlib.Omega.{arith}
use lib.ListN.{length, get_or, take, drop}
use lib.Seq.{drop-drop, take-suc}
use lib.IntN.{ℤ, pos}
use mir.Syntax.{w32}
use mir.Val.{of_z}
use Rattle.rules.specs.Bytes.{four_bytes, bytes_of, long, shorts, longs}

-- ---- writing
pub length-bytes : (zs : List ℤ) → length (bytes_of zs) ≡ 4 * length zs
unfolding bytes_of
length-bytes [] = refl
length-bytes (z ∷ zs) = omega (arith, length-bytes zs)

pub bytes-append : (xs ys : List ℤ) → bytes_of (xs ++ ys) ≡ bytes_of xs ++ bytes_of ys
unfolding bytes_of
bytes-append [] ys = refl
bytes-append (x ∷ xs) ys = ap (λ (t : List ℕ). four_bytes (of_z w32 x) ++ t) (bytes-append xs ys)

pub bytes-more : (xs : List ℤ) (i : ℕ) → i < length xs → bytes_of (take (i + 1) xs) ≡ bytes_of (take i xs) ++ bytes_of (get_or xs i (pos 0) ∷ [])
bytes-more xs i h = rw add-one (ap bytes_of (take-suc xs i (pos 0) h) ∙ bytes-append (take i xs) (get_or xs i (pos 0) ∷ []))

-- ---- reading
pub length-shorts : (count : ℕ) (bs : List ℕ) → length (shorts count bs) ≡ count
unfolding shorts
length-shorts zero bs = refl
length-shorts (suc count) bs = ap suc (length-shorts count (drop 2 bs))

pub length-longs : (count : ℕ) (s : List ℕ) → length (longs count s) ≡ count
unfolding longs
length-longs zero s = refl
length-longs (suc count) s = ap suc (length-longs count (drop 4 s))

-- one number more
pub longs-suc : (count : ℕ) (s : List ℕ) → longs (suc count) s ≡ longs count s ++ (long (drop (count * 4) s) ∷ [])
unfolding longs
longs-suc zero s = refl
longs-suc (suc count) s =
    let e : 4 + count * 4 ≡ suc count * 4 = omega arith in
    ap (λ (t : List ℤ). long s ∷ t) (longs-suc count (drop 4 s)
    ∙ ap (λ (t : List ℕ). longs count (drop 4 s) ++ (long t ∷ [])) (drop-drop (count * 4) 4 s ∙ ap (λ (k : ℕ). drop k s) e))
