-- A list made from the pairs of another, pair by pair.
-- Assumes nothing.
use mathlib.Core.Path.{◌≡◌, sym, ap, ◌∙◌}
use mathlib.Core.List.{List, [], ◌∷◌, ◌++◌, append-nil, append_assoc}
use Prim.Native.Nat.{ℕ, suc, ◌+◌, ◌/◌, ◌%◌, ◌<◌, ◌≤◌}
use native.Mathlib.Omega.{arith}
use lib.ListN.{length, get_or, length-append}

-- made from the pairs behind, and the pairs to come, are what all give; there is room for them
pub record PairsLeft {B : Type 0} (f : ℕ → List ℕ → List B) (made all : List B) (most : ℕ) (rest : List ℕ) : Type 0 where
  pub even : length rest % 2 ≡ 0
  pub room : length made + length rest / 2 ≤ most
  pub same : made ++ f (length rest / 2) rest ≡ all

-- f gives one element for each pair
module _ {B : Type 0} (f : ℕ → List ℕ → List B) (g : ℕ → ℕ → B) (none : (t : List ℕ) → f 0 t ≡ [])
    (one : (k a b : ℕ) (t : List ℕ) → f (suc k) (a ∷ b ∷ t) ≡ g a b ∷ f k t) where
  pub pairs_more : {made all : List B} {most : ℕ} (rest next x : List ℕ) (z : B) → PairsLeft f made all most rest
      → rest ≡ x ++ next → length x ≡ 2
      → z ≡ g (get_or x 0 0) (get_or x 1 0) → PairsLeft f (made ++ z ∷ []) all most next
  pairs_more rest next [] z p e l i = absurd (omega (arith, l))
  pairs_more rest next (a ∷ []) z p e l i = absurd (omega (arith, l))
  pairs_more rest next (a ∷ b ∷ c ∷ x) z p e l i = absurd (omega (arith, l))
  pairs_more {made} {all} rest next (a ∷ b ∷ []) z p e l i =
      let n : length rest ≡ suc (suc (length next)) = ap length e in
      let h : length rest / 2 ≡ suc (length next / 2) = omega (arith, n) in
      record {
        even = omega (arith, n, p.even);
        room = omega (arith, n, p.room, length-append made (z ∷ []));
        same = append_assoc made (z ∷ []) _ ∙ rw (h, e, one, ← i) at p.same;
      }

  pub pairs_end : {made all : List B} {most : ℕ} (rest : List ℕ) → PairsLeft f made all most rest → length rest < 2
      → made ≡ all
  pairs_end {made} rest p l =
      let h : length rest / 2 ≡ 0 = omega arith in
      sym (append-nil made) ∙ rw (h, none) at p.same
