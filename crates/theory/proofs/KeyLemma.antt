-- The key lemma of column Hermite forms: for coefficients x that are not all 0, the lowest non-zero entry of H·x stands in the pivot row of the
-- last l with x l not 0, and is that pivot times x l. So a combination of the columns that is smaller than each pivot in the pivot's row has no
-- coefficient but 0, and the columns are independent.
use mathlib.Core.Path.{◌≡◌, ◌∙◌, ap}
use mathlib.Core.Logic.{◌≢◌, ◌⊎◌, inl, inr}
use Prim.Native.Nat.{ℕ, zero, suc, ◌<◌}
use native.Mathlib.Omega.{arith}
use native.Mathlib.Decide.{ℕ_discrete, dec_lt}
use lib.IntN.{ℤ, pos, nat_abs, ◌*ℤ◌, ◌-ℤ◌, zero-*ℤ, *ℤ-zero, ℤ_discrete}
use Rattle.whole.specs.Sum.{sum}
use Rattle.whole.specs.Matrix.{Matrix, mul}
use Rattle.whole.proofs.Order.{zarith, -is, parts, abs_is, below_suc, multiple_size}
use Rattle.whole.proofs.Ring.{sub-zero→eq, eq→sub-zero}
use Rattle.whole.proofs.Sum.{sum-out, sum_one}
use Rattle.whole.proofs.Matrix.{mul-sub}
use Rattle.rules.specs.Forms.{InRange, Hermite}

-- ---- the last non-zero index
abbrev pub AllZero : ℕ → (ℕ → ℤ) → Type 0
AllZero r x = (j : ℕ) → j < r → x j ≡ pos 0

pub record LastNonZero (r : ℕ) (x : ℕ → ℤ) (l : ℕ) : Type 0 where
  pub within : l < r
  pub non_zero : x l ≢ pos 0
  pub after : (j : ℕ) → l < j → j < r → x j ≡ pos 0

pub all-zero-or_last : (r : ℕ) (x : ℕ → ℤ) → AllZero r x ⊎ ((l : ℕ) × LastNonZero r x l)
all-zero-or_last zero x = inl (λ j h. absurd (omega arith))
all-zero-or_last (suc r) x = go (ℤ_discrete (x r) (pos 0)) (all-zero-or_last r x)
  where
    one_more : x r ≡ pos 0 → (j : ℕ) → (j < r → x j ≡ pos 0) → j < suc r → x j ≡ pos 0
    one_more = below_suc (λ j. x j ≡ pos 0) r

    go : Dec (x r ≡ pos 0) → AllZero r x ⊎ ((l : ℕ) × LastNonZero r x l) → AllZero (suc r) x ⊎ ((l : ℕ) × LastNonZero (suc r) x l)
    go (no d) b = inr (r, record { within = omega arith; non_zero = d; after = λ j h g. absurd (omega arith) })
    go (yes e) (inl f) = inl (λ j h. one_more e j (f j) h)
    go (yes e) (inr (l, a)) = inr (
      l,
      record {
        within = omega (arith, a.within);
        non_zero = a.non_zero;
        after = λ j h g. one_more e j (a.after j h) g;
      },
    )

-- ---- the lowest non-zero entry of H·x
module _ {m n r : ℕ} {H : Matrix} {row : ℕ → ℕ} (h : Hermite m n r H row) {x : ℕ → ℤ} {l : ℕ} (a : LastNonZero r x l) where
  pub zero-below : (i : ℕ) → row l < i → i < m → sum r (λ j. H i j *ℤ x j) ≡ pos 0
  zero-below i g f = sum-out r (λ j. H i j *ℤ x j) (λ j b. go j b (dec_lt l j))
    where
      higher : (j : ℕ) → ¬ (l < j) → Dec (j ≡ l) → row j < i
      higher j c (yes e) = rw e g
      higher j c (no e) = omega (arith, h.rising j l (omega arith) a.within)

      go : (j : ℕ) → j < r → Dec (l < j) → H i j *ℤ x j ≡ pos 0
      go j b (yes c) = rw (a.after j c b) (*ℤ-zero (H i j))
      go j b (no c) = rw (h.below i j b (higher j c (ℕ_discrete j l)) f) (zero-*ℤ (x j))

  pub pivot-times_last : sum r (λ j. H (row l) j *ℤ x j) ≡ H (row l) l *ℤ x l
  pivot-times_last = sum_one r l (λ j. H (row l) j *ℤ x j) a.within (λ j b d. go j b d (dec_lt l j))
    where
      go : (j : ℕ) → j < r → j ≢ l → Dec (l < j) → H (row l) j *ℤ x j ≡ pos 0
      go j b d (yes c) = rw (a.after j c b) (*ℤ-zero (H (row l) j))
      go j b d (no c) = rw (h.below (row l) j b (h.rising j l (omega arith) a.within) (h.within l a.within)) (zero-*ℤ (x j))

-- ---- what the key lemma gives
module _ {m n r : ℕ} {H : Matrix} {row : ℕ → ℕ} (h : Hermite m n r H row) where
  pub pivot_size : (j : ℕ) → j < r → 0 < nat_abs (H (row j) j)
  pivot_size j b = omega (zarith, abs_is (H (row j) j), h.positive j b)

  -- all of a pivot's row but the pivot, also what stands left of it
  pub in_range : (j l : ℕ) → j < r → l < r → l ≢ j → InRange (H (row j) l) (H (row j) j)
  in_range j l b c d = go (dec_lt j l)
    where
      go : Dec (j < l) → InRange (H (row j) l) (H (row j) j)
      go (yes g) = h.right j l g c
      go (no g) =
          rw (h.below (row j) l c (h.rising l j (omega arith) b) (h.within j b))
          (record { low = omega zarith; high = h.positive j b })

  pub columns-rise : (j l : ℕ) → j < r → l < r → row j < row l → j < l
  columns-rise j l b c g = go (dec_lt j l) (ℕ_discrete j l)
    where
      go : Dec (j < l) → Dec (j ≡ l) → j < l
      go (yes f) e = f
      go (no f) (yes e) = absurd (omega (arith, ap row e))
      go (no f) (no e) = absurd (omega (arith, h.rising l j (omega arith) b))

  pub small-is_zero : (x : ℕ → ℤ) → ((l : ℕ) → l < r → nat_abs (sum r (λ j. H (row l) j *ℤ x j)) < nat_abs (H (row l) l))
      → AllZero r x
  small-is_zero x s = go (all-zero-or_last r x)
    where
      go : AllZero r x ⊎ ((l : ℕ) × LastNonZero r x l) → AllZero r x
      go (inl f) = f
      go (inr (l, a)) = absurd (omega (
        arith,
        s l a.within,
        multiple_size (H (row l) l) (x l) a.non_zero,
        ap nat_abs (pivot-times_last h a),
      ))

  pub independent : (x : ℕ → ℤ) → ((i : ℕ) → i < m → sum r (λ j. H i j *ℤ x j) ≡ pos 0) → AllZero r x
  independent x z = small-is_zero x (λ l b. rw (z (row l) (h.within l b)) (pivot_size l b))

  -- coefficients on the columns are determined
  pub one_combination : (x y : ℕ → ℤ) → ((i : ℕ) → i < m → sum r (λ j. H i j *ℤ x j) ≡ sum r (λ j. H i j *ℤ y j))
      → (j : ℕ) → j < r → x j ≡ y j
  unfolding mul
  one_combination x y e j b =
      sub-zero→eq (x j) (y j) (independent (λ j. x j -ℤ y j) (λ i a. mul-sub r H (λ j c. x j) (λ j c. y j) i 0
      ∙ eq→sub-zero (sum r (λ j. H i j *ℤ x j)) (sum r (λ j. H i j *ℤ y j)) (e i a)) j b)

-- two numbers of one range differ by less than its length
pub ranges_near : {a b p : ℤ} → InRange a p → InRange b p → nat_abs (a -ℤ b) < nat_abs p
ranges_near {a} {b} {p} f g = omega (zarith, f.low, f.high, g.low, g.high, -is a b, parts (a -ℤ b), parts p, parts a, parts b)
