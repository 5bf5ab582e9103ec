-- What a translation of the code stands for.
use Rattle.std.specs.Prelude.{List, ℕ, ℤ}
use Rattle.whole.specs.Lists.{tab}
use Rattle.rules.specs.Problem.{Problem}
use Rattle.rules.specs.Stages.{run}
use Rattle.rules.specs.Formulas.{Formula, term, d, translated}
use Rattle.checks.specs.Checks.{problem_of}
use Rattle.formulas.specs.FormulaPromises.{lent_formula}
use Rattle.formulas.specs.declared.translation.Translation.{Translation}

abbrev pub problem_in : Translation → Problem
problem_in x = problem_of x.problem.now

abbrev pub formula_in : Translation → Formula
formula_in x = lent_formula x.coefficients.now x.exponents.now

-- the exponents of term t
abbrev pub v_in : Translation → (t : ℕ) → ℕ → ℤ
v_in x t = term (problem_in x) (formula_in x) t

-- how many groups there are
abbrev pub groups_in : Translation → ℕ
groups_in x = d (problem_in x) (run (problem_in x))

-- the exponents of term t in the groups
abbrev pub exponents_in : Translation → (t : ℕ) → List ℤ
exponents_in x t = tab (groups_in x) (translated (problem_in x) (run (problem_in x)) (v_in x t))
