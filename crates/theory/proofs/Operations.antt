-- The operations of a group, one quantity after the other: which quantities they name, what they come to, and the sum of their exponents.
use mathlib.Core.Path.{◌≡◌, refl, sym, ap, ap₂, ◌∙◌}
use mathlib.Core.List.{List, [], ◌∷◌, ◌++◌}
use Prim.Native.Nat.{ℕ, zero, suc, ◌<◌}
use native.Mathlib.Omega.{arith}
use lib.ListN.{replicate}
use lib.IntN.{ℤ, pos, negsuc, ◌+ℤ◌, ◌*ℤ◌, ◌-ℤ◌, +ℤ_idr, zero-*ℤ, suc_ℤ-*ℤ, *ℤ_comm, *ℤ-negsuc}
use lib.Ieee.{Float, binary64, mul, div}
use Rattle.whole.specs.Sum.{sum}
use Rattle.whole.proofs.Solver.{◌⊕◌, ◌⊖◌, ◌≟◌, ring₃}
use Rattle.rules.specs.Gauges.{Operation, multiply, divide, units, operations, after, running, one, operate, group_value, Every}

-- ---- what holds of each
pub every_of : {A : Type 0} (Q R : A → Type 0) → ((a : A) → Q a → R a) → (l : List A) → Every Q l → Every R l
every_of Q R f [] h = tt
every_of Q R f (a ∷ l) h = (f a h.0, every_of Q R f l h.1)

every_append : {A : Type 0} (Q : A → Type 0) (l m : List A) → Every Q l → Every Q m → Every Q (l ++ m)
every_append Q [] m h k = k
every_append Q (a ∷ l) m h k = (h.0, every_append Q l m h.1 k)

every-replicate : {A : Type 0} (Q : A → Type 0) (n : ℕ) (a : A) → Q a → Every Q (replicate n a)
every-replicate Q zero a q = tt
every-replicate Q (suc n) a q = (q, every-replicate Q n a q)

-- the quantity that an operation names; what holds of each
abbrev quantity : Operation → ℕ
quantity (multiply j) = j
quantity (divide j) = j

abbrev pub Naming : (ℕ → Type 0) → Operation → Type 0
Naming Q o = Q (quantity o)

units_name : (Q : ℕ → Type 0) (j : ℕ) (z : ℤ) → Q j → Every (Naming Q) (units j z)
units_name Q j (pos k) q = every-replicate (Naming Q) k (multiply j) q
units_name Q j (negsuc k) q = every-replicate (Naming Q) (suc k) (divide j) q

pub operations_name : (Q : ℕ → Type 0) (n : ℕ) (v : ℕ → ℤ) → ((j : ℕ) → j < n → Q j) → Every (Naming Q) (operations n v)
unfolding operations
operations_name Q zero v q = tt
operations_name Q (suc n) v q =
    every_append (Naming Q) (operations n v) (units n (v n)) (operations_name Q n v (λ j h. q j (omega arith))) (units_name Q n (v n) (q n (omega arith)))

-- ---- one after the other
module _ {A : Type 0} (f : A → Operation → A) where
  after-append : (a : A) (os ps : List Operation) → after f a (os ++ ps) ≡ after f (after f a os) ps
  after-append a [] ps = refl
  after-append a (o ∷ os) ps = after-append (f a o) os ps

  pub every_first : (Q : A → Type 0) (a : A) (os : List Operation) → Every Q (running f a os) → Q a
  every_first Q a [] h = h.0
  every_first Q a (o ∷ os) h = h.0

-- no quantity; and one quantity more
pub value_none : (v : ℕ → ℤ) (x : ℕ → Float) → group_value 0 v x ≡ one
unfolding group_value
value_none v x = refl

value-more : (n : ℕ) (v : ℕ → ℤ) (x : ℕ → Float) → group_value (suc n) v x ≡ after (operate x) (group_value n v x) (units n (v n))
unfolding group_value
value-more n v x = after-append (operate x) one (operations n v) (units n (v n))

-- the operations of one quantity know its reading only
module _ (x : ℕ → Float) (j : ℕ) where
  multiplied_by : (k : ℕ) (r : Float) → after (operate x) r (replicate k (multiply j)) ≡ after (operate (λ i. x j)) r (replicate k (multiply 0))
  multiplied_by zero r = refl
  multiplied_by (suc k) r = multiplied_by k (mul binary64 r (x j))

  divided_by : (k : ℕ) (r : Float) → after (operate x) r (replicate k (divide j)) ≡ after (operate (λ i. x j)) r (replicate k (divide 0))
  divided_by zero r = refl
  divided_by (suc k) r = divided_by k (div binary64 r (x j))

  units_by : (z : ℤ) (r : Float) → after (operate x) r (units j z) ≡ after (operate (λ i. x j)) r (units 0 z)
  units_by (pos k) r = multiplied_by k r
  units_by (negsuc k) r = divided_by (suc k) r

pub value_by : (n : ℕ) (v : ℕ → ℤ) (x : ℕ → Float) {r p : Float} {z : ℤ} → r ≡ group_value n v x → z ≡ v n → p ≡ after (operate (λ i. x n)) r (units 0 z)
    → p ≡ group_value (suc n) v x
value_by n v x h e k = k ∙ rw (e, h) (sym (value-more n v x ∙ units_by x n (v n) (group_value n v x)))

-- ---- only the exponents and the readings of the first n quantities count
operations_same : (n : ℕ) (v w : ℕ → ℤ) → ((j : ℕ) → j < n → v j ≡ w j) → operations n v ≡ operations n w
unfolding operations
operations_same zero v w h = refl
operations_same (suc n) v w h = ap₂ ◌++◌ (operations_same n v w (λ j l. h j (omega arith))) (ap (units n) (h n (omega arith)))

after_same : (x y : ℕ → Float) (os : List Operation) (r : Float) → Every (Naming (λ j. x j ≡ y j)) os → after (operate x) r os ≡ after (operate y) r os
after_same x y [] r h = refl
after_same x y (multiply j ∷ os) r h = after_same x y os (mul binary64 r (x j)) h.1 ∙ rw h.0
after_same x y (divide j ∷ os) r h = after_same x y os (div binary64 r (x j)) h.1 ∙ rw h.0

pub value_same : (n : ℕ) (v w : ℕ → ℤ) (x y : ℕ → Float) → ((j : ℕ) → j < n → v j ≡ w j) → ((j : ℕ) → j < n → x j ≡ y j)
    → group_value n v x ≡ group_value n w y
unfolding group_value
value_same n v w x y h k = after_same x y (operations n v) one (operations_name (λ j. x j ≡ y j) n v k) ∙ ap (after (operate y) one) (operations_same n v w h)

-- ---- the exponents of the running values, where the reading of quantity j is 2 ^ e j
abbrev pub shift : (e : ℕ → ℤ) → ℤ → Operation → ℤ
shift e a (multiply j) = a +ℤ e j
shift e a (divide j) = a -ℤ e j

unfoldable pub running_exponents : (n : ℕ) (exponents e : ℕ → ℤ) → List ℤ
unfolding operations
running_exponents n v e = running (shift e) (pos 0) (operations n v)

module _ (e : ℕ → ℤ) (j : ℕ) where
  multiplied : (k : ℕ) (a : ℤ) → after (shift e) a (replicate k (multiply j)) ≡ a +ℤ pos k *ℤ e j
  multiplied zero a = rw (zero-*ℤ (e j)) (sym (+ℤ_idr a))
  multiplied (suc k) a =
      multiplied k (a +ℤ e j) ∙ rw (suc_ℤ-*ℤ (pos k) (e j)) (ring₃ a (e j) (pos k *ℤ e j) (λ a x y. (a ⊕ x) ⊕ y ≟ a ⊕ (y ⊕ x)) tt)

  divided : (k : ℕ) (a : ℤ) → after (shift e) a (replicate k (divide j)) ≡ a -ℤ pos k *ℤ e j
  divided zero a = rw (zero-*ℤ (e j)) (sym (+ℤ_idr a))
  divided (suc k) a =
      divided k (a -ℤ e j) ∙ rw (suc_ℤ-*ℤ (pos k) (e j)) (ring₃ a (e j) (pos k *ℤ e j) (λ a x y. (a ⊖ x) ⊖ y ≟ a ⊖ (y ⊕ x)) tt)

  units-sum : (z a : ℤ) → after (shift e) a (units j z) ≡ a +ℤ z *ℤ e j
  units-sum (pos k) a = multiplied k a
  units-sum (negsuc k) a = divided (suc k) a ∙ rw (*ℤ_comm (negsuc k) (e j), *ℤ-negsuc (e j) k, *ℤ_comm (pos (suc k)) (e j))

pub operations-sum : (n : ℕ) (v e : ℕ → ℤ) → after (shift e) (pos 0) (operations n v) ≡ sum n (λ j. v j *ℤ e j)
unfolding operations sum
operations-sum zero v e = refl
operations-sum (suc n) v e =
    after-append (shift e) (pos 0) (operations n v) (units n (v n))
    ∙ units-sum e n (v n) (after (shift e) (pos 0) (operations n v))
    ∙ rw (operations-sum n v e)
