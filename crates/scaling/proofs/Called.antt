-- A build by a later call, which lends outputs of its own with room enough: what its answer says of the verdict, and what it leaves.
use mathlib.Core.Path.{◌≡◌, refl, sym, ◌∙◌, ap, ap₂, subst}
use Rattle.std.proofs.Common.{Result, Ok, Err}
use mathlib.Core.Logic.{◌≢◌}
use mathlib.Core.Bool.{Bool, true, false, ◌&&◌}
use mathlib.Core.List.{List, [], ◌∷◌, ◌++◌}
use Prim.Native.Nat.{ℕ}
use lib.Dec.{leb}
use lib.ListN.{length}
use lib.IntN.{ℤ}
use Rattle.rules.specs.Limits.{room_h, room_v, room_w}
use Rattle.rules.specs.Problem.{Problem, WellFormed}
use Rattle.rules.specs.Stages.{run}
use Rattle.rules.specs.Calls.{Verdict, taken, refused, verdict, problem_fits, checks_to5, range_check, build_verdict, build_of, built}
use Rattle.theory.proofs.Accepted.{build_accepted}
use Rattle.theory.proofs.Refusals.{build_not_0}
use Rattle.checks.specs.Refusals.{told}
use Rattle.checks.specs.declared.Refusal.{Refusal}
use Rattle.scaling.specs.declared.Built.{Built}
use Rattle.checks.proofs.Refusals.{refusal_not-0}
use Rattle.scaling.specs.Answers.{answer_of}
use Rattle.scaling.specs.BuildPromise.{Builds}

abbrev pub of_build : Problem → Verdict
of_build P = verdict (checks_to5 P (problem_fits P) true ++ range_check (run P) ∷ [])

pub record Called (P : Problem) (h v w : List ℤ) (r : Result Built Refusal) (h₁ v₁ w₁ : List ℤ) : Type 0 where
  pub builds : Builds (build_of P h v w) (answer_of r) h₁ v₁ w₁
  pub room : leb room_h (length h) && leb room_v (length v) && leb room_w (length w) ≡ true

module _ {P : Problem} {h v w : List ℤ} {r : Result Built Refusal} {h₁ v₁ w₁ : List ℤ} (K : Called P h v w r h₁ v₁ w₁) where
  builds : Builds (built P h v w (of_build P)) (answer_of r) h₁ v₁ w₁
  unfolding build_of build_verdict
  builds = subst (λ (b : Bool). Builds (built P h v w (build_verdict P (problem_fits P) b)) (answer_of r) h₁ v₁ w₁) K.room K.builds

  never_0 : (k p : ℕ) → of_build P ≡ refused k p → k ≢ 0
  unfolding build_verdict
  never_0 k p e = build_not_0 P (problem_fits P) true k p e

  pub build_says : told r ≡ of_build P
  build_says = go r (of_build P) builds never_0
    where
      go : (r : Result Built Refusal) (x : Verdict) → Builds (built P h v w x) (answer_of r) h₁ v₁ w₁ → ((k p : ℕ) → x ≡ refused k p → k ≢ 0) → told r ≡ x
      go (Ok b) taken B not-0 = refl
      go (Ok b) (refused number place) B not-0 = absurd (not-0 number place refl (sym B.number))
      go (Err e) taken B not-0 = absurd (refusal_not-0 e B.number)
      go (Err e) (refused number place) B not-0 = ap₂ refused B.number B.place

  module _ {b : Built} (e : r ≡ Ok b) where
    taken_is : of_build P ≡ taken
    taken_is = sym build_says ∙ ap told e

    pub build_taken : Builds (built P h v w taken) (answer_of (Ok b)) h₁ v₁ w₁
    build_taken = rw (taken_is, e) at builds

    pub build_well_formed : WellFormed P
    unfolding build_verdict
    build_well_formed = (build_accepted P true taken_is).0

    pub build_in_range : (run P).state.over ≡ false
    unfolding build_verdict
    build_in_range = (build_accepted P true taken_is).1
