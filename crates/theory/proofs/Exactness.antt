-- Order 2, exactness. The readings are powers of two, subnormal ones included, and the running values, rounded as they are, lie from 2^-1022 to 2^1023.
-- Then nothing was rounded: the value is a power of two, and its exponent the sum of the group's exponents times those of the readings.
use mathlib.Core.Path.{◌≡◌, refl, ap, subst, ◌∙◌}
use mathlib.Core.Bool.{false}
use mathlib.Core.List.{List, [], ◌∷◌}
use Prim.Native.Nat.{ℕ, ◌<◌}
use lib.IntN.{ℤ, pos, ◌*ℤ◌}
use lib.Ieee.{Float}
use Rattle.whole.specs.Sum.{sum}
use Rattle.whole.proofs.Order.{zarith}
use Rattle.rules.specs.Gauges.{Operation, multiply, divide, operations, after, running, operate, group_value, running_values}
use Rattle.rules.specs.Gauges.{two, Between, Every, is_out, leaves_range}
use Rattle.theory.proofs.Powers.{Held, Normal, normal_held, mul-two, div-two, mul_normal, div_normal}
use Rattle.theory.proofs.Operations.{shift, running_exponents, Naming, operations_name, every_first, every_of, operations-sum}
use Rattle.theory.proofs.LastValue.{last_tells}

-- ---- any operations, from any power of two
module _ (x : ℕ → Float) (e : ℕ → ℤ) where
  abbrev Power : Operation → Type 0
  Power = Naming (λ j. x j ≡ two (e j))

  step-two : (a : ℤ) (o : Operation) → Power o → Held (shift e a o) → operate x (two a) o ≡ two (shift e a o)
  step-two a (multiply j) p h = rw p (mul-two a (e j) h)
  step-two a (divide j) p h = rw p (div-two a (e j) h)

  step_normal : (a : ℤ) (o : Operation) → Power o → Between (operate x (two a) o) → Normal (shift e a o)
  step_normal a (multiply j) p h = mul_normal a (e j) (rw p at h)
  step_normal a (divide j) p h = div_normal a (e j) (rw p at h)

  after_two : (a : ℤ) (os : List Operation) → Every Power os → Every Held (running (shift e) a os) → after (operate x) (two a) os ≡ two (after (shift e) a os)
  after_two a [] p h = refl
  after_two a (o ∷ os) p h = rw (step-two a o p.0 (every_first (shift e) Held (shift e a o) os h.1)) (after_two (shift e a o) os p.1 h.1)

  running_normal : (a : ℤ) (os : List Operation) → Every Power os → Normal a → Every Between (running (operate x) (two a) os) → Every Normal (running (shift e) a os)
  running_normal a [] p n h = (n, tt)
  running_normal a (o ∷ os) p n h =
      let next = step_normal a o p.0 (every_first (operate x) Between (operate x (two a) o) os h.1) in
      let s = step-two a o p.0 (normal_held (shift e a o) next) in
      (n, running_normal (shift e a o) os p.1 next (subst (λ (r : Float). Every Between (running (operate x) r os)) s h.1))

-- ---- those of a group
module _ (n : ℕ) (v e : ℕ → ℤ) (x : ℕ → Float) (readings : (j : ℕ) → j < n → x j ≡ two (e j)) where
  named : Every (Power x e) (operations n v)
  named = operations_name (λ j. x j ≡ two (e j)) n v readings

  -- as long as binary64 has the running values' powers at all, subnormal ones included
  module _ (held : Every Held (running_exponents n v e)) where
    pub group_exact : group_value n v x ≡ two (sum n (λ j. v j *ℤ e j))
    unfolding group_value running_exponents
    group_exact = after_two x e (pos 0) (operations n v) named held ∙ ap two (operations-sum n v e)

    -- and then no running value is zero or not finite
    pub stays-in_range : leaves_range n v x ≡ false
    stays-in_range = last_tells n v x ∙ ap is_out group_exact

  -- which it has where the running values themselves lie in the range
  pub between-held : Every Between (running_values n v x) → Every Held (running_exponents n v e)
  unfolding running_values running_exponents
  between-held within =
      every_of Normal Held normal_held (running (shift e) (pos 0) (operations n v))
      (running_normal x e (pos 0) (operations n v) named (record { low = omega zarith; high = omega zarith }) within)
