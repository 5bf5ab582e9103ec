-- Bytes as numbers, and pairs of digits as bytes: one more at the front.
-- Assumes nothing.
use mathlib.Core.Path.{◌≡◌, refl, ap}
use mathlib.Core.List.{List, [], ◌∷◌}
use Prim.Native.Nat.{ℕ, zero, suc, ◌+◌, ◌*◌}
use lib.ListN.{length, drop}
use Rattle.rules.specs.Bytes.{short, shorts}
use Rattle.rules.specs.Frames.{digit, unhex}

pub shorts_none : (t : List ℕ) → shorts 0 t ≡ []
unfolding shorts
shorts_none t = refl

pub shorts_one : (k a b : ℕ) (t : List ℕ) → shorts (suc k) (a ∷ b ∷ t) ≡ short (a ∷ b ∷ []) ∷ shorts k t
unfolding shorts short
shorts_one k a b t = refl

pub unhex_none : (t : List ℕ) → unhex 0 t ≡ []
unfolding unhex
unhex_none t = refl

pub unhex_one : (k a b : ℕ) (t : List ℕ) → unhex (suc k) (a ∷ b ∷ t) ≡ (16 * digit a + digit b) ∷ unhex k t
unfolding unhex
unhex_one k a b t = refl

pub length-unhex : (k : ℕ) (t : List ℕ) → length (unhex k t) ≡ k
unfolding unhex
length-unhex zero t = refl
length-unhex (suc k) t = ap suc (length-unhex k (drop 2 t))
