-- The scan of a row for its smallest entry, as the code's loop goes through it: best is the column found so far.
use mathlib.Core.Path.{◌≡◌, sym, ◌∙◌, ap}
use Prim.Native.Nat.{ℕ, ◌+◌, ◌≤◌, ◌<◌}
use native.Mathlib.Numerals.{add-one}
use native.Mathlib.Omega.{arith}
use Rattle.std.specs.Prelude.{Option, Some, None, IfSome}
use Rattle.rules.specs.Search.{or_smaller, smallest}
use Rattle.theory.proofs.Loops.{smallest_start, smallest-step}
use Rattle.theory.proofs.Search.{smallest-there}
use Rattle.checks.specs.Checks.{finding}
use Rattle.scaling.specs.Scan.{better_of}
use Rattle.scaling.proofs.Finding.{better_is}

pub record Best (f : ℕ → ℕ) (lo a j : ℕ) (best : Option ℕ) : Type 0 where
  pub low : lo ≤ j
  pub high : j ≤ a
  pub is : finding best ≡ smallest f lo j

pub best_start : (f : ℕ → ℕ) (lo a : ℕ) → lo ≤ a → Best f lo a lo None
best_start f lo a h = record { low = omega arith; high = h; is = sym (smallest_start f lo lo (omega arith)) }

module _ {f : ℕ → ℕ} {lo a j : ℕ} {best : Option ℕ} (b : Best f lo a j best) where
  pub best_step : j < a → Best f lo a (j + 1) (better_of f best j)
  best_step h = record {
    low = omega (arith, b.low);
    high = omega arith;
    is = better_is f best j ∙ ap (or_smaller f j) b.is ∙ sym (rw add-one (smallest-step f lo j b.low));
  }

-- what was found is one of the columns
pub best_in : {f : ℕ → ℕ} {lo a j n : ℕ} (best : Option ℕ) → Best f lo a j best → a ≤ n → IfSome best (λ p. p < n)
best_in None b h = tt
best_in {f} {lo} {a} {j} (Some p) b h = omega (arith, b.high, (smallest-there f lo j p (sym b.is)).within.high)
