-- There is one right answer: two normal answers for one matrix C have the same rank, the same H, the same V and the same W.
use mathlib.Core.Path.{◌≡◌, refl, sym, ◌∙◌}
use Prim.Native.Nat.{ℕ, ◌+◌, ◌-◌, ◌<◌}
use native.Mathlib.Omega.{arith}
use native.Mathlib.Decide.{dec_lt}
use lib.IntN.{ℤ, nat_abs, ◌*ℤ◌, ◌-ℤ◌, *ℤ-zero}
use Rattle.whole.specs.Matrix.{Matrix, mul, δ}
use Rattle.whole.proofs.Ring.{sub-zero→eq, eq→sub-zero}
use Rattle.whole.proofs.Sum.{sum-out}
use Rattle.whole.proofs.Matrix.{Inverse, mul_cong, mul_cancel, mul_one, mul-sub}
use Rattle.rules.specs.Forms.{Normal, from}
use Rattle.theory.proofs.KeyLemma.{small-is_zero, ranges_near}
use Rattle.theory.proofs.Lattice.{Combined, SameForm, hermite_unique}
use Rattle.theory.proofs.Kernel.{Kills, coordinate, product_is, last_killed, killed_is}

-- the answers agree at every entry within their sizes
pub record Alike (m N r r' : ℕ) (H H' U U' W W' : Matrix) : Type 0 where
  pub ranks : r ≡ r'
  pub forms : (i j : ℕ) → i < m → j < N → H i j ≡ H' i j
  pub multipliers : (i j : ℕ) → i < N → j < N → U i j ≡ U' i j
  pub inverses : (i j : ℕ) → i < N → j < N → W i j ≡ W' i j

-- ---- H: both forms span the column lattice of C
forms_combined : {m N r r' : ℕ} {C H U W H' U' W' : Matrix} → Normal m N r C H U W → Normal m N r' C H' U' W' → Combined m N N H H'
forms_combined {N = N} {W = W} {U' = U'} R R' = record {
  coefficients = mul N W U';
  combines = λ i j a b. sym (R'.product i j a b) ∙ product_is R U' i j a;
}

-- ---- V: the last columns of both span the kernel of C
last_combined : {m N r : ℕ} {C H U W H' U' W' : Matrix} → Normal m N r C H U W → Normal m N r C H' U' W'
    → Combined N (N - r) (N - r) (from r U) (from r U')
unfolding mul
last_combined {N = N} {r = r} {W = W} {U' = U'} R R' = record {
  coefficients = λ l j. coordinate N W (λ c. U' c (r + j)) (r + l);
  combines = λ i j a b. killed_is R (λ c. U' c (r + j)) (last_killed R' j b) i a;
}

module _ {m N r : ℕ} {C H U W H' U' W' : Matrix} (R : Normal m N r C H U W) (R' : Normal m N r C H' U' W')
    (same : (i j : ℕ) → i < m → j < N → H i j ≡ H' i j) where
  same_last : SameForm N (N - r) (N - r) (N - r) (from r U) (from r U') R.last_rows R'.last_rows
  same_last = hermite_unique R.last_columns R'.last_columns (last_combined R R') (last_combined R' R)

  -- the difference of two first columns is a combination of the last ones, too small to be any but 0
  module _ (j : ℕ) (b : j < r) where
    difference : ℕ → ℤ
    difference i = U i j -ℤ U' i j

    difference_killed : Kills m N C difference
    unfolding difference mul
    difference_killed i a =
        let c : j < N = omega (arith, R.hermite.rank) in
        mul-sub N C U U' i j
        ∙ eq→sub-zero (mul N C U i j) (mul N C U' i j) (R.product i j a c ∙ same i j a c ∙ sym (R'.product i j a c))

    difference-small : (l : ℕ) → l < N - r → nat_abs (difference (R.last_rows l)) < nat_abs (U (R.last_rows l) (r + l))
    unfolding difference
    difference-small l c =
        let e = same_last.pivot_rows l c in
        ranges_near {b = U' (R.last_rows l) j} (R.first_columns l j c b)
        (rw (same_last.entries (R.last_rows l) l (R.last_columns.within l c) c, e) (R'.first_columns l j c b))

    same_first : (i : ℕ) → i < N → U i j ≡ U' i j
    unfolding difference
    same_first i a =
        let y : ℕ → ℤ = λ l. coordinate N W difference (r + l) in
        let is = killed_is R difference difference_killed in
        let z = small-is_zero R.last_columns y (λ k d. rw (← is (R.last_rows k) (R.last_columns.within k d)) (difference-small k d)) in
        sub-zero→eq (U i j) (U' i j) (is i a ∙ sum-out (N - r) (λ l. U i (r + l) *ℤ y l) (λ l c. rw (z l c) (*ℤ-zero (U i (r + l)))))

  same_multiplier : (i j : ℕ) → i < N → j < N → U i j ≡ U' i j
  same_multiplier i j a b = go (dec_lt j r)
    where
      go : Dec (j < r) → U i j ≡ U' i j
      go (yes c) = same_first j c i a
      go (no c) =
          let e : j ≡ r + (j - r) = omega arith in
          rw e (same_last.entries i (j - r) a (omega arith))

  -- ---- W: a matrix has one inverse
  same_inverse : (i j : ℕ) → i < N → j < N → W i j ≡ W' i j
  same_inverse i j a b =
      sym (mul_one N W i j b)
      ∙ sym (mul_cong N W W (mul N U' W') δ i j (λ k c. refl) (λ k c. R'.inverse_right k j c b))
      ∙ mul_cancel N W U' W' left i j a
    where
      left : Inverse N W U'
      left i k a c = mul_cong N W W U' U i k (λ l d. refl) (λ l d. sym (same_multiplier l k d c)) ∙ R.inverse_left i k a c

pub normal_unique : {m N r r' : ℕ} {C H U W H' U' W' : Matrix} → Normal m N r C H U W → Normal m N r' C H' U' W'
    → Alike m N r r' H H' U U' W W'
normal_unique {m} {N} {r} {C = C} {H' = H'} {U' = U'} {W' = W'} R R' =
    let f = hermite_unique R.hermite R'.hermite (forms_combined R R') (forms_combined R' R) in
    let S : Normal m N r C H' U' W' = rw f.ranks R' in
    record {
      ranks = f.ranks;
      forms = f.entries;
      multipliers = same_multiplier R S f.entries;
      inverses = same_inverse R S f.entries;
    }
