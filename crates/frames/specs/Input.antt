-- What was read, and what it has to do with the lines.
use Rattle.std.specs.Prelude.{◌≡◌, Result, Ok, Err}
use Rattle.rules.specs.Problem.{Problem}
use Rattle.rules.specs.Formulas.{Formula}
use Rattle.rules.specs.Frames.{Reading, unread, read}
use Rattle.checks.specs.declared.Refusal.{Refusal}
use Rattle.checks.specs.Refusals.{number_of, place_of}
use Rattle.frames.specs.declared.input.Input.{Input}

-- the problem and the formula
abbrev pub problem_in : Input → Problem
problem_in x = record { m = x.m; n = x.n; matrix = x.matrix.items; moduli = x.moduli.items }

abbrev pub formula_in : Input → Formula
formula_in x = record { coefficients = x.coefficients.items; exponents = x.exponents.items }

-- what was read is what the lines say
abbrev pub InputHolds : Result Input Refusal → Reading → Type 0
InputHolds (Ok x) r = r ≡ read (problem_in x) (formula_in x)
InputHolds (Err e) r = r ≡ unread (number_of e) (place_of e)
