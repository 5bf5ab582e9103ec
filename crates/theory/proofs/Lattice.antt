-- A column lattice has one Hermite form: two whose columns are whole combinations of each other are equal.
use mathlib.Core.Path.{◌≡◌, sym, ◌∙◌, ap, ap₂}
use mathlib.Core.Logic.{◌⊎◌, inl, inr}
use Prim.Native.Nat.{ℕ, zero, suc, ◌≤◌, ◌<◌}
use native.Mathlib.Omega.{arith}
use native.Mathlib.Decide.{ℕ_discrete, dec_lt}
use lib.IntN.{ℤ, nat_abs, ◌*ℤ◌, ◌-ℤ◌, zero-*ℤ, *ℤ-zero, +ℤ_invr}
use Rattle.whole.specs.Sum.{sum}
use Rattle.whole.specs.Matrix.{Matrix, mul, δ}
use Rattle.whole.proofs.Order.{zarith, parts, multiple_size}
use Rattle.whole.proofs.Ring.{sub-zero→eq}
use Rattle.whole.proofs.Sum.{sum-out, sum_head}
use Rattle.whole.proofs.Matrix.{mul_is, mul_one, mul-sub}
use Rattle.rules.specs.Forms.{Hermite}
use Rattle.theory.proofs.KeyLemma.{AllZero, LastNonZero, all-zero-or_last, zero-below, pivot-times_last}
use Rattle.theory.proofs.KeyLemma.{pivot_size, in_range, columns-rise, small-is_zero, ranges_near}

-- on m rows, each of the l columns of B is a whole combination of the n columns of A
pub record Combined (m n l : ℕ) (A B : Matrix) : Type 0 where
  pub coefficients : Matrix
  pub combines : (i j : ℕ) → i < m → j < l → B i j ≡ mul n A coefficients i j

-- the zero columns of a Hermite form add nothing
combines-rank : {m n r l : ℕ} {H B : Matrix} {row : ℕ → ℕ} → Hermite m n r H row → (g : Combined m n l H B)
    → (i j : ℕ) → i < m → j < l → B i j ≡ sum r (λ k. H i k *ℤ g.coefficients k j)
combines-rank {n = n} {r = r} {H = H} h g i j a b =
    let X = g.coefficients in
    g.combines i j a b ∙ mul_is n H X i j
    ∙ sum_head r n (λ k. H i k *ℤ X k j) h.rank (λ k c d. rw (h.rest i k a c d) (zero-*ℤ (X k j)))

-- ---- each pivot row of one form is a pivot row of the other, and the other's pivot there is no larger
record PivotFound (r' : ℕ) (H H' : Matrix) (row row' : ℕ → ℕ) (j l : ℕ) : Type 0 where
  within : l < r'
  same_row : row j ≡ row' l
  no_larger : nat_abs (H' (row' l) l) ≤ nat_abs (H (row j) j)

module _ {m n r r' : ℕ} {H H' : Matrix} {row row' : ℕ → ℕ} (h : Hermite m n r H row) (h' : Hermite m n r' H' row')
    (g : Combined m n n H' H) where
  pivot_found : (j : ℕ) → j < r → (l : ℕ) × PivotFound r' H H' row row' j l
  pivot_found j b = go (all-zero-or_last r' x)
    where
      x : ℕ → ℤ
      x k = g.coefficients k j

      is : (i : ℕ) → i < m → H i j ≡ sum r' (λ k. H' i k *ℤ g.coefficients k j)
      is i a = combines-rank h' g i j a (omega (arith, h.rank))

      pivot : 0 < nat_abs (H (row j) j)
      pivot = pivot_size h j b

      go : AllZero r' x ⊎ ((l : ℕ) × LastNonZero r' x l) → (l : ℕ) × PivotFound r' H H' row row' j l
      go (inl f) = absurd (omega (
        arith,
        pivot,
        ap nat_abs (is (row j) (h.within j b)
            ∙ sum-out r' (λ k. H' (row j) k *ℤ x k) (λ k c. rw (f k c) (*ℤ-zero (H' (row j) k)))),
      ))
      go (inr (l, a)) = (l, record { within = a.within; same_row = same; no_larger = rw same no_larger_lem })
        where
          no_larger_lem : nat_abs (H' (row' l) l) ≤ nat_abs (H (row' l) j)
          no_larger_lem =
              let e : H (row' l) j ≡ H' (row' l) l *ℤ x l = is (row' l) (h'.within l a.within) ∙ pivot-times_last h' a in
              rw e (multiple_size (H' (row' l) l) (x l) a.non_zero)

          not-above : ¬ (row' l < row j)
          not-above c = omega (arith, pivot, ap nat_abs (is (row j) (h.within j b) ∙ zero-below h' a (row j) c (h.within j b)))

          not-below : ¬ (row j < row' l)
          not-below c =
              let e = ap nat_abs (h.below (row' l) j b c (h'.within l a.within)) in
              omega (arith, no_larger_lem, pivot_size h' l a.within)

          same : row j ≡ row' l
          same = omega (arith, not-above, not-below)

  at_least : (j l : ℕ) → j < r → l < r' → row j ≡ row' l → j ≤ l
  at_least zero l b c e = omega arith
  at_least (suc j) l b c e = go (pivot_found j (omega arith)) (λ k d f. at_least j k (omega arith) d f)
    where
      go : (k : ℕ) × PivotFound r' H H' row row' j k → ((k : ℕ) → k < r' → row j ≡ row' k → j ≤ k) → suc j ≤ l
      go (k, f) ih =
          let up : row' k < row' l = omega (arith, f.same_row, h.rising j (suc j) (omega arith) b) in
          omega (arith, ih k f.within f.same_row, columns-rise h' k l f.within c up)

-- ---- so the pivots agree column by column
module _ {m n r r' : ℕ} {H H' : Matrix} {row row' : ℕ → ℕ} (h : Hermite m n r H row) (h' : Hermite m n r' H' row')
    (f : Combined m n n H H') (g : Combined m n n H' H) where
  paired : (j : ℕ) → j < r → PivotFound r' H H' row row' j j
  paired j b = go (pivot_found h h' g j b)
    where
      go : (l : ℕ) × PivotFound r' H H' row row' j l → PivotFound r' H H' row row' j j
      go (l, p) =
          let below = at_least h h' g j l b p.within p.same_row in
          let above = at_least h' h f l j p.within b (sym p.same_row) in
          let e : l ≡ j = omega arith in
          rw e at p

  rank-le : r ≤ r'
  rank-le = go (dec_lt r' r)
    where
      go : Dec (r' < r) → r ≤ r'
      go (yes c) = absurd (omega (arith, (paired r' c).within))
      go (no c) = omega arith

-- ---- and the difference of two columns is a combination that is too small
pub record SameForm (m n r r' : ℕ) (H H' : Matrix) (row row' : ℕ → ℕ) : Type 0 where
  pub ranks : r ≡ r'
  pub pivot_rows : (j : ℕ) → j < r → row j ≡ row' j
  pub entries : (i j : ℕ) → i < m → j < n → H i j ≡ H' i j

module _ {m n r r' : ℕ} {H H' : Matrix} {row row' : ℕ → ℕ} (h : Hermite m n r H row) (h' : Hermite m n r' H' row')
    (f : Combined m n n H H') (g : Combined m n n H' H) where
  X : Matrix
  X = f.coefficients

  pair : (j : ℕ) → j < r → PivotFound r' H H' row row' j j
  pair = paired h h' f g

  same_rank : r ≡ r'
  same_rank = omega (arith, rank-le h h' f g, rank-le h' h g f)

  same_pivot : (l : ℕ) → l < r → H (row l) l ≡ H' (row' l) l
  same_pivot l b =
      let p = pair l b in
      let q = paired h' h g f l p.within in
      let a = h.positive l b in
      let a' = h'.positive l p.within in
      omega (zarith, p.no_larger, q.no_larger, parts (H (row l) l), parts (H' (row' l) l))

  difference : (i j : ℕ) → i < m → j < r → sum r (λ k. H i k *ℤ (δ k j -ℤ X k j)) ≡ H i j -ℤ H' i j
  unfolding X
  difference i j a b =
      sym (mul_is r H (λ k c. δ k c -ℤ X k c) i j) ∙ mul-sub r H δ X i j
      ∙ ap₂ ◌-ℤ◌ (mul_one r H i j b) (mul_is r H X i j ∙ sym (combines-rank h f i j a (omega (arith, h.rank))))

  small : (j : ℕ) → j < r → (l : ℕ) → l < r → nat_abs (H (row l) j -ℤ H' (row l) j) < nat_abs (H (row l) l)
  small j b l c = go (ℕ_discrete j l)
    where
      p : PivotFound r' H H' row row' l l
      p = pair l c

      go : Dec (j ≡ l) → nat_abs (H (row l) j -ℤ H' (row l) j) < nat_abs (H (row l) l)
      go (yes e) = rw (e, same_pivot l c, p.same_row, +ℤ_invr (H' (row' l) l)) (pivot_size h' l p.within)
      go (no d) =
          ranges_near {b = H' (row l) j} (in_range h l j c b d)
          (rw (same_pivot l c, p.same_row) (in_range h' l j p.within (pair j b).within d))

  same_entry : (i j : ℕ) → i < m → j < n → H i j ≡ H' i j
  same_entry i j a b = go (dec_lt j r)
    where
      go : Dec (j < r) → H i j ≡ H' i j
      go (no c) = h.rest i j a (omega arith) b ∙ sym (h'.rest i j a (omega (arith, same_rank)) b)
      go (yes c) =
          let y : ℕ → ℤ = λ k. δ k j -ℤ X k j in
          let z = small-is_zero h y (λ l d. rw (difference (row l) j (h.within l d) c) (small j c l d)) in
          sub-zero→eq (H i j) (H' i j) (sym (difference i j a c) ∙ sum-out r (λ k. H i k *ℤ y k) (λ k d. rw (z k d) (*ℤ-zero (H i k))))

pub hermite_unique : {m n r r' : ℕ} {H H' : Matrix} {row row' : ℕ → ℕ} → Hermite m n r H row → Hermite m n r' H' row'
    → Combined m n n H H' → Combined m n n H' H → SameForm m n r r' H H' row row'
hermite_unique h h' f g = record {
  ranks = same_rank h h' f g;
  pivot_rows = λ j b. (paired h h' f g j b).same_row;
  entries = same_entry h h' f g;
}
