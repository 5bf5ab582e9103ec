-- What a term of the code stands for.
use Rattle.std.specs.Prelude.{ℕ, ℤ}
use Rattle.whole.specs.Lists.{nth}
use Rattle.rules.specs.Problem.{Problem}
use Rattle.checks.specs.Checks.{problem_of}
use Rattle.formulas.specs.declared.terms.Term.{Term}

abbrev pub problem_at : Term → Problem
problem_at e = problem_of e.problem.now

-- its exponents
abbrev pub v_at : Term → ℕ → ℤ
v_at e = nth e.exponents.now
