-- Numbers in the bytes of a buffer: read there, four by four, and written there, one behind the other. Assumes nothing.
use Rattle.std.proofs.Common.{◌≡◌, refl, ap₂, List, [], ◌∷◌, ◌++◌, map, append_assoc, ℕ, zero, suc, ◌+◌, ◌-◌, ◌*◌, ◌<◌, arith, rules, length, get_or, take, drop, length-append, take_at, drop_at, drop-drop, get_or-take, length-take-le, ℤ, pos}
use borrow.Rule.Slice.PartMut.{put_mid}
use Rattle.std.specs.Simd.{first_chunks}
use Rattle.rules.specs.Bytes.{long, longs, bytes_of}
use Rattle.rules.specs.Calls.{filled}
use Rattle.theory.proofs.Bytes.{length-bytes, bytes-more}

-- ---- reading
long-take : (s : List ℕ) → long (take 4 s) ≡ long s
unfolding long
long-take s = search (rules, get_or-take)

pub longs_by_chunks : (k : ℕ) (s : List ℕ) → map long (first_chunks 4 k s) ≡ longs k s
unfolding longs
longs_by_chunks zero s = refl
longs_by_chunks (suc k) s = ap₂ (λ (z : ℤ) (zs : List ℤ). z ∷ zs) (long-take s) (longs_by_chunks k (drop 4 s))

-- ---- writing
-- a text put right behind what is filled
filled-more : (a b lent : List ℕ) (at k : ℕ) → length a ≡ at → length b ≡ k → put_mid at k (filled a lent) b ≡ filled (a ++ b) lent
filled-more a b lent at k e f = rw (← e, ← f) (simp (take_at, drop_at, drop-drop, length-append, append_assoc))

pub filled-suc : (xs : List ℤ) (lent out bytes : List ℕ) (i : ℕ) → i < length xs → out ≡ filled (bytes_of (take i xs)) lent
    → bytes ≡ bytes_of (get_or xs i (pos 0) ∷ []) → put_mid (4 * i) (4 * i + 4 - 4 * i) out bytes ≡ filled (bytes_of (take (i + 1) xs)) lent
filled-suc xs lent out bytes i h e f =
    let a = length-bytes (take i xs) in
    let b = length-bytes (get_or xs i (pos 0) ∷ []) in
    let t = length-take-le i xs (omega arith) in
    rw (e, f, bytes-more xs i h) (filled-more _ _ lent (4 * i) (4 * i + 4 - 4 * i) (omega arith) (omega arith))
