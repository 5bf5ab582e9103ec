-- The tests of rules/specs/Limits, and what their answers say.
use mathlib.Core.Path.{◌≡◌, ap}
use mathlib.Core.Logic.{◌≢◌}
use mathlib.Core.Bool.{Bool, true}
use Prim.Native.Nat.{ℕ, ◌≤◌}
use lib.IntN.{ℤ, pos, neg_ℤ, nat_abs}
use lib.Signed.{◌≤ℤ◌, le_z, le_z_yes}
use Rattle.whole.proofs.Tests.{Test, pass, fail, eq?, and_both}
use Rattle.whole.proofs.Order.{zarith, parts, P-neg, N-neg, nat_abs-zero}
use Rattle.rules.specs.Limits.{is_zero, within}

pub is_zero? : (z : ℤ) → Test (z ≡ pos 0) (z ≢ pos 0) (is_zero z)
is_zero? z = go (eq? (nat_abs z) 0)
  where
    go : {b : Bool} → Test (nat_abs z ≡ 0) (nat_abs z ≢ 0) b → Test (z ≡ pos 0) (z ≢ pos 0) b
    go (pass e) = pass (nat_abs-zero z e)
    go (fail d) = fail (λ e. d (ap nat_abs e))

pub between : (lo hi z : ℤ) → within lo hi z ≡ true → (lo ≤ℤ z) × (z ≤ℤ hi)
between lo hi z e =
    let a = and_both (le_z lo z) (le_z z hi) e in
    (le_z_yes (rw a.0 tt), le_z_yes (rw a.1 tt))

pub small : (k : ℕ) (z : ℤ) → within (neg_ℤ (pos k)) (pos k) z ≡ true → nat_abs z ≤ k
small k z e =
    let a = between (neg_ℤ (pos k)) (pos k) z e in
    omega (zarith, a.0, a.1, parts z, P-neg (pos k), N-neg (pos k))
