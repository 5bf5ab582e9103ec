-- The call `build`: from the answer of checks 1 to 5, a refusal as it stands, or what the build then comes to.
use mathlib.Core.Path.{◌≡◌, refl}
use Rattle.std.proofs.Common.{Result, Ok, Err}
use mathlib.Core.Bool.{Bool, true, ◌&&◌, and-true, and_assoc}
use mathlib.Core.List.{List, [], ◌∷◌, ◌++◌}
use Prim.Native.Nat.{ℕ}
use lib.Dec.{leb}
use lib.ListN.{length}
use lib.IntN.{ℤ}
use Rattle.rules.specs.Limits.{room_h, room_v, room_w}
use Rattle.rules.specs.Problem.{Problem}
use Rattle.rules.specs.Stages.{run}
use Rattle.rules.specs.Calls.{verdict, range_check, problem_fits, build_verdict, build_of, built}
use Rattle.checks.specs.declared.Refusal.{Refusal}
use Rattle.checks.specs.declared.lent.Checked.{Checked}
use Rattle.checks.specs.Checks.{given, problem_of, TellsTo5}
use Rattle.checks.proofs.Verdicts.{to5, problem-refused, past_5}
use Rattle.scaling.specs.Answers.{answer_of}
use Rattle.scaling.specs.declared.BuildAnswer.{BuildAnswer}
use Rattle.scaling.specs.BuildPromise.{Builds, build_checked}

-- the outputs' lengths, as the code takes them together
abbrev pub roomy : (h v w : List ℤ) → Bool
roomy h v w = leb room_h (length h) && (leb room_v (length v) && leb room_w (length w))

-- what the code knows once the checks have answered
pub record Known (m n : ℕ) (matrix moduli h v w : List ℤ) (outputs : Bool) (r : Result Checked Refusal) : Type 0 where
  pub room : outputs ≡ roomy h v w
  pub tells : TellsTo5 m n matrix moduli true outputs r

module _ {m n : ℕ} {matrix moduli h v w : List ℤ} {outputs : Bool} {r : Result Checked Refusal} (k : Known m n matrix moduli h v w outputs r) where
  abbrev P : Problem
  P = given m n matrix moduli

  build_is : build_of P h v w ≡ built P h v w (verdict (to5 m n matrix moduli true outputs ++ range_check (run P) ∷ []))
  unfolding build_of build_verdict
  build_is = rw (and-true (problem_fits P), k.room, and_assoc (leb room_h (length h)) (leb room_v (length v)) (leb room_w (length w)))

  pub build_refused : {e : Refusal} → r ≡ Err e → Builds (build_of P h v w) (answer_of (Err e)) h v w
  build_refused d = rw (build_is, problem-refused k.tells d (range_check (run P) ∷ [])) (record {
    number = refl;
    place = refl;
    rank = refl;
    moduli = refl;
    steps = refl;
    h = refl;
    v = refl;
    w = refl;
  })

  module _ {p : Checked} (d : r ≡ Ok p) where
    pub build_passed : {a : BuildAnswer} {h₁ v₁ w₁ : List ℤ}
        → Builds (build_checked (problem_of p) h v w) a h₁ v₁ w₁ → Builds (build_of P h v w) a h₁ v₁ w₁
    build_passed b = rw (build_is, past_5 k.tells d (range_check (run P) ∷ []), ← (rw d at k.tells.same)) b
