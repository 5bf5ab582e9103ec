-- What `build` answers and leaves in the lent outputs, held to what rules/specs/Calls says of it.
use Rattle.std.specs.Prelude.{◌≡◌, List, ◌∷◌, [], ◌≤◌, length, ℤ}
use Rattle.rules.specs.Limits.{room_h, room_v, room_w}
use Rattle.rules.specs.Problem.{Problem}
use Rattle.rules.specs.Stages.{run}
use Rattle.rules.specs.Calls.{verdict, range_check, Built, built}
use Rattle.scaling.specs.declared.BuildAnswer.{BuildAnswer}

-- of numbers, or of bytes where the call lends bytes
pub record Builds {A : Type 0} (b : Built A) (r : BuildAnswer) (h₁ v₁ w₁ : List A) : Type 0 where
  pub number : r.number ≡ b.answer.number
  pub place : r.place ≡ b.answer.place
  pub rank : r.rank ≡ b.answer.rank
  pub moduli : r.moduli ≡ b.answer.moduli
  pub steps : r.steps ≡ b.answer.steps
  pub h : h₁ ≡ b.h
  pub v : v₁ ≡ b.v
  pub w : w₁ ≡ b.w

-- a build of a problem that has passed checks 1 to 5: check 7 alone is left
abbrev pub build_checked : Problem → (h₀ v₀ w₀ : List ℤ) → Built ℤ
build_checked P h₀ v₀ w₀ = built P h₀ v₀ w₀ (verdict (range_check (run P) ∷ []))

pub record RoomToBuild (h₀ v₀ w₀ : List ℤ) : Type 0 where
  pub h : room_h ≤ length h₀
  pub v : room_v ≤ length v₀
  pub w : room_w ≤ length w₀
