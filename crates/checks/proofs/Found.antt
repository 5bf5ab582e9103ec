-- The library's search along a list, as the definitions' search over indices.
use Rattle.std.proofs.Common.{◌≡◌, ℕ, ◌<◌, ◌≤◌, ℤ, List, Bool, true, not, length, get_or, Some, None, cond, arith, refl}
use Rattle.std.specs.List.{position, position_or_len}
use Rattle.std.proofs.lemmas.List.Sums.{fails_before_first, passes_at_first}
use lib.IntN.{pos}
use Rattle.whole.proofs.Tests.{true-not-false, Test, pass, fail, lt?}
use Rattle.rules.specs.Search.{Found, none, found, first}
use Rattle.rules.specs.Calls.{first_out}
use Rattle.theory.proofs.Search.{In, Nowhere, FirstIs, no_first, is_first, first_is_lem}
use Rattle.theory.proofs.Loops.{first_hit}
use Rattle.checks.specs.Checks.{finding}

-- where the test holds nowhere the definition finds none, and where it holds first it finds that
pub first-none : (test : ℕ → Bool) (lo hi : ℕ) → Nowhere test lo hi → first test lo hi ≡ none
first-none test lo hi z = go (first_is_lem test lo hi)
  where
    go : {x : Found} → FirstIs test lo hi x → x ≡ none
    go (no_first _) = refl
    go (is_first j i e _) = absurd (true-not-false e (z j i))

pub first-found : (test : ℕ → Bool) (lo hi j : ℕ) → In lo hi j → test j ≡ true → Nowhere test lo j → first test lo hi ≡ found j
first-found test lo hi j i e z = first_hit test lo j hi i.low i.high (first-none test lo j z) e

-- ---- position
pub first_position : {A : Type 0} (p : A → Bool) (d : A) (xs : List A) → first (λ j. p (get_or xs j d)) 0 (length xs) ≡ finding (position p xs)
first_position p d xs = go (lt? (position_or_len p xs) (length xs))
  where
    k : ℕ
    k = position_or_len p xs

    go : {b : Bool} → Test (k < length xs) (length xs ≤ k) b → first (λ j. p (get_or xs j d)) 0 (length xs) ≡ finding (cond b (Some k) None)
    go (pass l) =
        first-found (λ j. p (get_or xs j d)) 0 (length xs) k (record { low = omega arith; high = l }) (passes_at_first p xs d l)
        (λ j i. fails_before_first p xs j d i.high)
    go (fail l) = first-none (λ j. p (get_or xs j d)) 0 (length xs) (λ j i. let h = i.high in fails_before_first p xs j d (omega arith))

-- the first number out of range
pub out-position : (good : ℤ → Bool) (xs : List ℤ) → first_out good xs ≡ finding (position (λ x. not (good x)) xs)
unfolding first_out
out-position good xs = first_position (λ x. not (good x)) (pos 0) xs
