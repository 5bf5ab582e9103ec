-- What a check's answer says of the definitions' verdict.
use Rattle.std.specs.Prelude.{◌≡◌, Bool, ◌&&◌, List, ℕ, ◌*◌, leb, eqb, length, ℤ, Option, Some, None, Result, IfOk}
use Rattle.rules.specs.Limits.{most_terms}
use Rattle.rules.specs.Search.{Found, none, found}
use Rattle.rules.specs.Problem.{Problem}
use Rattle.rules.specs.Calls.{verdict, problem_fits, checks_to5, checks_to6}
use Rattle.checks.specs.Lent.{lent_problem}
use Rattle.checks.specs.Refusals.{told}
use Rattle.checks.specs.declared.Refusal.{Refusal}
use Rattle.checks.specs.declared.lent.Checked.{Checked}

-- the problem as it was given, before anything is known of it
abbrev pub given : (m n : ℕ) (matrix moduli : List ℤ) → Problem
given m n matrix moduli = record { m = m; n = n; matrix = matrix; moduli = moduli }

-- the problem that has passed
abbrev pub problem_of : Checked → Problem
problem_of p = lent_problem p.n p.matrix.now p.moduli.now

-- what a search of the code found
abbrev pub finding : Option ℕ → Found
finding None = none
finding (Some i) = found i

-- 1 to 5; more: the other inputs have the right lengths. A problem that is taken is the one that was given
pub record TellsTo5 (m n : ℕ) (matrix moduli : List ℤ) (more outputs : Bool) (r : Result Checked Refusal) : Type 0 where
  pub says : told r ≡ verdict (checks_to5 (given m n matrix moduli) (problem_fits (given m n matrix moduli) && more) outputs)
  pub same : IfOk r (λ p. problem_of p ≡ given m n matrix moduli)

-- R4.2: n exponents for each term, and at most 64 terms
abbrev pub terms_fit : (n terms exponents : ℕ) → Bool
terms_fit n terms exponents = eqb exponents (terms * n) && leb terms most_terms

-- 1 to 6
pub record TellsTo6 (m n : ℕ) (matrix moduli : List ℤ) (terms : ℕ) (es : List ℤ) (outputs : Bool) (r : Result Checked Refusal) : Type 0 where
  pub says : told r
      ≡ verdict (checks_to6 (given m n matrix moduli) es (problem_fits (given m n matrix moduli) && terms_fit n terms (length es)) outputs)
  pub same : IfOk r (λ p. problem_of p ≡ given m n matrix moduli)
