-- Ring identities over ℤ, proved by computing: both sides are written once more as expressions, and their difference has the normal form 0.
--     undone : (a b q : ℤ) → (a +ℤ q *ℤ b) +ℤ neg_ℤ q *ℤ b ≡ a
--     undone a b q = ring₃ a b q (λ a b q. (a ⊕ q ⊗ b) ⊕ ⊝ q ⊗ b ≟ a) tt
-- The number in the name is that of the variables. Any terms may stand for them (`ring₂ (f i) (sum n g) ..`); a literal is `con (pos 1)`.
-- The expressions have to spell the sides as they stand, with their brackets. Where `tt` is refused the identity is false.
use mathlib.Core.Path.{◌≡◌}
use mathlib.Core.List.{List, [], ◌∷◌}
use lib.IntN.{ℤ}
pub use Rattle.whole.proofs.Polynomial.{E, var, con, ◌⊕◌, ◌⊗◌, ◌⊖◌, ⊝◌}
use Rattle.whole.proofs.Polynomial.{eval, Null, null_zero}
use Rattle.whole.proofs.Ring.{sub-zero→eq}

infix 4 ◌≟◌
pub record Identity : Type 0 where
  pub lhs : E
  pub rhs : E

abbrev pub ◌≟◌ : E → E → Identity
l ≟ r = record { lhs = l; rhs = r }

abbrev pub Holds : List ℤ → Identity → Type 0
Holds ρ t = eval ρ t.lhs ≡ eval ρ t.rhs

abbrev pub Valid : Identity → Type 0
Valid t = Null (t.lhs ⊖ t.rhs)

-- for any number of variables: ρ lists their values, `var 0`, `var 1`, .. stand for them
pub solve : (ρ : List ℤ) (t : Identity) → Valid t → Holds ρ t
solve ρ t h = sub-zero→eq (eval ρ t.lhs) (eval ρ t.rhs) (null_zero ρ (t.lhs ⊖ t.rhs) h)

pub ring₁ : (a : ℤ) (f : E → Identity) → Valid (f (var 0)) → Holds (a ∷ []) (f (var 0))
ring₁ a f = solve (a ∷ []) (f (var 0))

pub ring₂ : (a b : ℤ) (f : E → E → Identity) → Valid (f (var 0) (var 1)) → Holds (a ∷ b ∷ []) (f (var 0) (var 1))
ring₂ a b f = solve (a ∷ b ∷ []) (f (var 0) (var 1))

pub ring₃ : (a b c : ℤ) (f : E → E → E → Identity) → Valid (f (var 0) (var 1) (var 2)) → Holds (a ∷ b ∷ c ∷ []) (f (var 0) (var 1) (var 2))
ring₃ a b c f = solve (a ∷ b ∷ c ∷ []) (f (var 0) (var 1) (var 2))

pub ring₄ : (a b c d : ℤ) (f : E → E → E → E → Identity) → Valid (f (var 0) (var 1) (var 2) (var 3))
    → Holds (a ∷ b ∷ c ∷ d ∷ []) (f (var 0) (var 1) (var 2) (var 3))
ring₄ a b c d f = solve (a ∷ b ∷ c ∷ d ∷ []) (f (var 0) (var 1) (var 2) (var 3))

pub ring₅ : (a b c d e : ℤ) (f : E → E → E → E → E → Identity) → Valid (f (var 0) (var 1) (var 2) (var 3) (var 4))
    → Holds (a ∷ b ∷ c ∷ d ∷ e ∷ []) (f (var 0) (var 1) (var 2) (var 3) (var 4))
ring₅ a b c d e f = solve (a ∷ b ∷ c ∷ d ∷ e ∷ []) (f (var 0) (var 1) (var 2) (var 3) (var 4))
