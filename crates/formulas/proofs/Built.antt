-- What a build in a translation tells and leaves: check 7, and W with the rank, once checks 1 to 6 are passed.
use mathlib.Core.Path.{◌≡◌, sym, ◌∙◌, subst}
use mathlib.Core.Bool.{Bool, true}
use mathlib.Core.List.{List, [], ◌∷◌}
use Prim.Native.Nat.{ℕ}
use native.Mathlib.Omega.{arith}
use lib.ListN.{length}
use lib.IntN.{ℤ}
use Rattle.std.proofs.Common.{Result, Ok}
use Rattle.std.proofs.lemmas.Result.{IfOk-at_ok}
use Rattle.rules.specs.Limits.{room_w}
use Rattle.rules.specs.Problem.{Problem, N}
use Rattle.rules.specs.Stages.{run, W}
use Rattle.rules.specs.Calls.{verdict, range_check, contents_w, checks_to5, problem_fits}
use Rattle.theory.proofs.Run.{run_right}
use Rattle.theory.proofs.Groups.{d-le-n}
use Rattle.theory.proofs.Grid.{table_filled}
use Rattle.theory.proofs.Refusals.{goes_on}
use Rattle.checks.specs.declared.Refusal.{Refusal}
use Rattle.checks.specs.declared.lent.Checked.{Checked}
use Rattle.checks.specs.Refusals.{told}
use Rattle.checks.specs.Checks.{given, problem_of, TellsTo6}
use Rattle.checks.proofs.Verdicts.{problem-passed-alone}
use Rattle.scaling.specs.declared.Built.{Built}
use Rattle.scaling.proofs.Called.{Called, build_says, build_taken, build_well_formed}
use Rattle.formulas.specs.FormulaPromises.{Solved}

module _ {m n : ℕ} {matrix moduli : List ℤ} {terms : ℕ} {es : List ℤ} {outputs : Bool} {c : Result Checked Refusal}
    (t : TellsTo6 m n matrix moduli terms es outputs c) {p : Checked} (passed : c ≡ Ok p)
    {h v w : List ℤ} {r : Result Built Refusal} {h₁ v₁ w₁ : List ℤ} (K : Called (given m n matrix moduli) h v w r h₁ v₁ w₁) where
  abbrev P : Problem
  P = given m n matrix moduli

  -- its answer is that of check 7
  pub range-says : told r ≡ verdict (range_check (run P) ∷ [])
  range-says = build_says K ∙ goes_on (checks_to5 P (problem_fits P) true) (range_check (run P) ∷ []) (problem-passed-alone t passed)

  module _ {b : Built} (e : r ≡ Ok b) (long : length w₁ ≡ room_w) where
    as_given : Solved P w₁ b.rank
    unfolding contents_w
    as_given =
        let B = build_taken K e in
        record {
          rank = B.rank;
          upto = omega (arith, B.rank, (run_right P).hermite.rank);
          groups = omega (arith, B.rank, d-le-n P (build_well_formed K e).moduli (run_right P));
          length = long;
          entries = λ i j a b. rw B.w (table_filled (N P) (N P) (W (run P)) w i j a b);
        }

    pub solved : Solved (problem_of p) w₁ b.rank
    solved = subst (λ Q. Solved Q w₁ b.rank) (sym (IfOk-at_ok (λ p. problem_of p ≡ P) passed t.same)) as_given
