-- What was read has the lengths that the calls ask.
-- Assumes nothing.
use mathlib.Core.Path.{◌≡◌, ap₂}
use mathlib.Core.Bool.{true, ◌&&◌}
use Prim.Native.Nat.{◌≤◌}
use native.Mathlib.Omega.{arith}
use borrow.Author.Tests.{eq-eqb, le-leb}
use lib.ListN.{length}
use Rattle.rules.specs.Problem.{s}
use Rattle.rules.specs.Calls.{problem_fits, formula_fits}
use Rattle.theory.proofs.ModulusRows.{s-le-m}
use Rattle.frames.specs.declared.input.Input.{Input}
use Rattle.frames.specs.Input.{problem_in, formula_in}

module _ (x : Input) where
  pub few-moduli : s (problem_in x) ≤ 8
  few-moduli = omega (arith, s-le-m (problem_in x) x.sized.moduli-length, x.sized.few-rows)

  pub problem-fits : problem_fits (problem_in x) ≡ true
  problem-fits = ap₂ ◌&&◌ (eq-eqb _ _ x.sized.matrix-length) (eq-eqb _ _ x.sized.moduli-length)

  pub formula-fits : formula_fits (problem_in x) (formula_in x) ≡ true
  formula-fits =
      ap₂ ◌&&◌ (eq-eqb _ _ x.sized.exponents-length) (le-leb (length x.coefficients.items) 64 x.sized.few-terms)
