-- Lent outputs: whether the numbers that the code hands on have room, and what is written of filled ones. Assumes nothing.
use Rattle.std.proofs.Common.{◌≡◌, sym, ap, ◌∙◌, List, ℕ, ◌<◌, ◌≤◌, arith, leb, length, take, take_at, ℤ}
use Rattle.std.proofs.lemmas.Bool.Decides.{nat_tests}
use Rattle.rules.specs.Bytes.{bytes_of}
use Rattle.rules.specs.Calls.{filled}
use Rattle.rules.specs.Bench.{has_room}
use Rattle.bench.specs.Words.{room_of}

-- xs is handed on for the lent bytes bs
pub room_same : (bs : List ℕ) (least : ℕ) (xs : List ℤ) → 0 < least → length xs ≡ room_of bs least → leb least (length xs) ≡ has_room least bs
room_same bs least xs h e = grind (arith, nat_tests)

-- the first count of xs are the contents
pub record Written (least : ℕ) (xs contents : List ℤ) (count : ℕ) : Type 0 where
  pub fits : count ≤ least
  pub front : take count xs ≡ contents
  pub long : count ≡ length (take count xs)

pub filled-written : (least count : ℕ) (xs contents lent : List ℤ) → length contents ≡ count → length contents ≤ least → xs ≡ filled contents lent
    → Written least xs contents count
filled-written least count xs contents lent l f e =
    let q : take count xs ≡ contents = rw e (take_at contents _ count l) in
    record { fits = omega arith; front = q; long = sym (ap length q ∙ l) }

pub written_is : (bs : List ℕ) {bs₁ : List ℕ} {least : ℕ} {xs contents : List ℤ} {count : ℕ} → Written least xs contents count
    → bs₁ ≡ filled (bytes_of (take count xs)) bs → bs₁ ≡ filled (bytes_of contents) bs
written_is bs T e = e ∙ ap (λ (t : List ℤ). filled (bytes_of t) bs) T.front
