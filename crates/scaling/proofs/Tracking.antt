-- The code's state beside the definition's: how an addition counts, and the ways in which a state tracks one.
use mathlib.Core.Path.{◌≡◌, refl, sym, ◌∙◌, ap}
use mathlib.Core.Bool.{true, false}
use Prim.Native.Nat.{ℕ, suc}
use lib.IntN.{ℤ}
use Rattle.whole.proofs.Tests.{true-not-false}
use Rattle.rules.specs.Steps.{State, add_step, step}
use Rattle.scaling.specs.declared.work.Work.{Work}
use Rattle.scaling.specs.WorkState.{state_of, Tracks, Same}
use Rattle.scaling.proofs.State.{state_over}

pub add_steps : (i j : ℕ) (q : ℤ) (u : State) → (add_step i j q u).steps ≡ suc u.steps
unfolding add_step step
add_steps i j q u = refl

module _ {m n : ℕ} {r : Work} {u : State} (t : Tracks m n r u) where
  -- a state that is over tracks each one that is
  pub over_tracks : (v : State) → r.over ≡ true → v.over ≡ true → Tracks m n r v
  over_tracks v o e = record { rows = t.rows; cols = t.cols; flag = o ∙ sym e; same = λ z. absurd (true-not-false o z) }

  -- what tracks a state on from r tracks one on from u
  pub on_tracks : {z : Work} {v w : State} → Tracks r.m r.cols z v → v ≡ w → Tracks m n z w
  on_tracks g e = record {
    rows = g.rows ∙ t.rows;
    cols = g.cols ∙ t.cols;
    flag = g.flag ∙ ap (λ (x : State). x.over) e;
    same = λ o. g.same o ∙ e;
  }

  pub tracked-same : r.over ≡ false → Same m n r u
  tracked-same o = record { rows = t.rows; cols = t.cols; clear = o; same = t.same o }

-- a state tracks what it is
pub same_tracks : (s : Work) {u : State} → state_of s ≡ u → Tracks s.m s.cols s u
same_tracks s e = record { rows = refl; cols = refl; flag = sym (state_over s) ∙ ap (λ (x : State). x.over) e; same = λ _. e }

pub tracks-same : {m n : ℕ} {s : Work} {u : State} → Same m n s u → Tracks m n s u
tracks-same {s = s} g = record { rows = g.rows; cols = g.cols; flag = sym (state_over s) ∙ ap (λ (x : State). x.over) g.same; same = λ _. g.same }
