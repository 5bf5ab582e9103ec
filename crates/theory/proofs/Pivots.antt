-- A finished column and its pivot, as the stages leave it, and how finished columns make a column Hermite form of rules/specs/Forms.
use mathlib.Core.Path.{◌≡◌, ◌∙◌, ap}
use mathlib.Core.Logic.{◌≢◌}
use mathlib.Core.Bool.{Bool, true, false, not, true≢false}
use Prim.Native.Nat.{ℕ, suc, ◌+◌, ◌≤◌, ◌<◌}
use native.Mathlib.Omega.{arith}
use lib.IntN.{ℤ, pos, nat_abs}
use lib.Signed.{◌<ℤ◌}
use Rattle.whole.specs.Matrix.{Matrix}
use Rattle.whole.proofs.Tests.{Test, pass, fail, lt?, eq?, true-not-false}
use Rattle.whole.proofs.Order.{zarith, nat_abs-zero}
use Rattle.rules.specs.Limits.{is_zero}
use Rattle.rules.specs.Forms.{InRange, Hermite}
use Rattle.rules.specs.Search.{Found, none, found, last}
use Rattle.theory.proofs.Search.{In, LastIs, no_last, is_last, last_is}

-- column c of A is finished, among columns lo to hi: its pivot stands in row 'at', at or below row k of m
pub record FinishedColumn (A : Matrix) (lo hi m k c : ℕ) : Type 0 where
  pub at : ℕ
  pub first : k ≤ at
  pub within : at < m
  pub positive : pos 0 <ℤ A at c
  pub below : (r : ℕ) → at < r → r < m → A r c ≡ pos 0
  -- the columns left of it are zero from its row down: so the pivot rows rise
  pub left : (r d : ℕ) → at ≤ r → r < m → In lo c d → A r d ≡ pos 0
  pub right : (d : ℕ) → In (suc c) hi d → InRange (A at d) (A at c)

-- it reads only rows k and below of columns lo to hi
pub pivot-kept : (A B : Matrix) (lo hi m k l c : ℕ) → l ≤ k → In lo hi c → ((r d : ℕ) → k ≤ r → r < m → In lo hi d → B r d ≡ A r d)
    → FinishedColumn A lo hi m k c → FinishedColumn B lo hi m l c
pivot-kept A B lo hi m k l c h i same p =
    let at : ℕ = p.at in
    record {
      at = at;
      first = omega (arith, p.first);
      within = p.within;
      positive = rw (same at c p.first p.within i) p.positive;
      below = λ r g f. same r c (omega (arith, p.first)) f i ∙ p.below r g f;
      left = λ r d g f j. same r d (omega (arith, p.first)) f (omega arith) ∙ p.left r d g f j;
      right = λ d j. rw (same at d p.first p.within (omega arith), same at c p.first p.within i) (p.right d j);
    }

-- columns s to s + d of A, as columns 0 to d of B
pub pivot_shifted : (A B : Matrix) (lo hi m s d c : ℕ) → lo ≤ s → s + d ≤ hi → c < d → ((r j : ℕ) → j < d → B r j ≡ A r (s + j))
    → FinishedColumn A lo hi m 0 (s + c) → FinishedColumn B 0 d m 0 c
pivot_shifted A B lo hi m s d c l h i same p =
    let at : ℕ = p.at in
    record {
      at = at;
      first = omega arith;
      within = p.within;
      positive = rw (same at c i) p.positive;
      below = λ r f g. same r c i ∙ p.below r f g;
      left = λ r j f g x. same r j (omega arith) ∙ p.left r (s + j) f g (omega arith);
      right = λ j x. rw (same at j x.high, same at c i) (p.right (s + j) (omega arith));
    }

-- ---- the row of the lowest non-zero entry of column c, as it is searched for
abbrev pub lowest : Matrix → (m c : ℕ) → Found
lowest A m c = last (λ k. not (is_zero (A k c))) m

abbrev row_of : Found → ℕ
row_of none = 0
row_of (found k) = k

abbrev pub lowest_row : Matrix → (m c : ℕ) → ℕ
lowest_row A m c = row_of (lowest A m c)

pub lowest_row_is : (A : Matrix) (m c k : ℕ) → lowest A m c ≡ found k → lowest_row A m c ≡ k
lowest_row_is A m c k e = ap row_of e

pub pivot_found : (A : Matrix) (lo hi m k c : ℕ) (p : FinishedColumn A lo hi m k c) → lowest A m c ≡ found p.at
pivot_found A lo hi m k c p = go (last_is (λ r. not (is_zero (A r c))) m)
  where
    zero_is : (x : ℤ) → x ≡ pos 0 → not (is_zero x) ≡ false
    zero_is x e = rw e

    filled : (x : ℤ) → pos 0 <ℤ x → not (is_zero x) ≡ false → ⊥
    filled x h = from (eq? (nat_abs x) 0)
      where
        from : {b : Bool} → Test (nat_abs x ≡ 0) (nat_abs x ≢ 0) b → not b ≡ false → ⊥
        from (pass e) z = let o : x ≡ pos 0 = nat_abs-zero x e in omega zarith
        from (fail d) z = true≢false z

    same : {b b' : Bool} (r : ℕ) → r < m → not (is_zero (A r c)) ≡ true → ((i : ℕ) → r < i → i < m → not (is_zero (A i c)) ≡ false)
        → Test (p.at < r) (r ≤ p.at) b → Test (r < p.at) (p.at ≤ r) b' → r ≡ p.at
    same r h t z (pass l) y = absurd (true-not-false t (zero_is (A r c) (p.below r l h)))
    same r h t z (fail l) (pass g) = absurd (filled (A p.at c) p.positive (z p.at g p.within))
    same r h t z (fail l) (fail g) = omega arith

    go : {x : Found} → LastIs (λ r. not (is_zero (A r c))) m x → x ≡ found p.at
    go (no_last z) = absurd (filled (A p.at c) p.positive (z p.at p.within))
    go (is_last r h t z) = ap found (same r h t z (lt? p.at r) (lt? r p.at))

-- ---- finished columns 0 to r, the others zero
module _ (A : Matrix) (lo hi m k : ℕ) where
  pub pivots-rise : (c d : ℕ) → c < d → lo ≤ c → (p : FinishedColumn A lo hi m k c) (q : FinishedColumn A lo hi m k d) → p.at < q.at
  pivots-rise c d h l p q = go (lt? p.at q.at)
    where
      go : {b : Bool} → Test (p.at < q.at) (q.at ≤ p.at) b → p.at < q.at
      go (pass g) = g
      go (fail g) = let z : A p.at c ≡ pos 0 = q.left p.at c g p.within (omega arith) in absurd (omega (zarith, p.positive, z))

pub hermite_of : (A : Matrix) (m n r : ℕ) → r ≤ n → ((c : ℕ) → c < r → FinishedColumn A 0 r m 0 c) → ((i j : ℕ) → i < m → r ≤ j → j < n → A i j ≡ pos 0)
    → Hermite m n r A (lowest_row A m)
hermite_of A m n r h p z = record {
  rank = h;
  rest = z;
  within = λ j l. rw (row j l) (p j l).within;
  below = λ i j l f g. (p j l).below i (rw (row j l) at f) g;
  rising = λ j l f g. rw (row j (omega arith), row l g) (pivots-rise A 0 r m 0 j l f (omega arith) (p j (omega arith)) (p l g));
  positive = λ j l. rw (row j l) (p j l).positive;
  right = λ j l f g. rw (row j (omega arith)) ((p j (omega arith)).right l (omega arith));
}
  where
    row : (j : ℕ) (l : j < r) → lowest_row A m j ≡ (p j l).at
    row j l = lowest_row_is A m j (p j l).at (pivot_found A 0 r m 0 j (p j l))
