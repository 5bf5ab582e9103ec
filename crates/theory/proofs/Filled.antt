-- How many of columns lo to a are not zero in a row, whose absolute values are given by a function.
use mathlib.Core.Path.{◌≡◌, ap}
use mathlib.Core.Logic.{◌≢◌}
use Prim.Native.Nat.{ℕ, ◌-◌, ◌≤◌, ◌<◌, min}
use native.Mathlib.Omega.{arith}
use native.Mathlib.Decide.{ℕ_discrete}
use Rattle.rules.specs.Search.{total}
use Rattle.theory.proofs.Search.{In, total_cong, total-le, at_most-total, total-less}

unfoldable pub filled : (ℕ → ℕ) → (lo a : ℕ) → ℕ
filled f lo a = total (λ c. min 1 (f c)) lo a

module _ (f : ℕ → ℕ) (lo a : ℕ) where
  pub filled-le : filled f lo a ≤ a - lo
  unfolding filled
  filled-le = omega (arith, total-le lo (λ c. min 1 (f c)) 1 a (λ c _. omega arith))

  pub filled-some : (p : ℕ) → In lo a p → f p ≢ 0 → 1 ≤ filled f lo a
  unfolding filled
  filled-some p i h = omega (arith, at_most-total lo (λ c. min 1 (f c)) a p i)

-- ---- one column of a row changes, from f to g
module _ (lo a : ℕ) (f g : ℕ → ℕ) (j : ℕ) (active : In lo a j) (before : f j ≢ 0) (off : (c : ℕ) → j ≢ c → g c ≡ f c) where
  pub filled-less : g j ≡ 0 → filled g lo a < filled f lo a
  unfolding filled
  filled-less z = total-less lo (λ c. min 1 (f c)) (λ c. min 1 (g c)) a j active (omega arith) (λ c _ d. ap (min 1) (off c d))

  pub filled_same : g j ≢ 0 → filled g lo a ≡ filled f lo a
  unfolding filled
  filled_same h = total_cong lo (λ c. min 1 (f c)) (λ c. min 1 (g c)) a (λ c _. go c (ℕ_discrete j c))
    where
      go : (c : ℕ) → Dec (j ≡ c) → min 1 (g c) ≡ min 1 (f c)
      go c (yes e) = rw (← e) (omega arith)
      go c (no d) = ap (min 1) (off c d)
