-- The code's run is the definition's, stage by stage; it stops at the first state that is over, which the definition's end then is too.
-- a is what stage 1 leaves active, so that the rank is what is left of all columns.
use mathlib.Core.Path.{◌≡◌, refl, sym, ◌∙◌, ap}
use mathlib.Core.Bool.{true, false}
use Prim.Native.Nat.{ℕ, ◌-◌}
use native.Mathlib.Omega.{arith}
use native.Mathlib.Nat.{mul-le-mul}
use Rattle.std.proofs.Common.{Ok, Err}
use Rattle.checks.specs.declared.Refusal.{Refusal}
use Rattle.checks.specs.declared.Refusal.TheVariants.{Overflow}
use Rattle.rules.specs.Problem.{Problem, N, WellFormed, columns as columns_of}
use Rattle.rules.specs.Steps.{State, reorder, start, on_t, on_v}
use Rattle.rules.specs.Stages.{Progress, stage1, stage2, stage3, rows, run_on, run}
use Rattle.theory.proofs.Flag.{stage2_over, stage3_over}
use Rattle.scaling.specs.declared.work.Work.{Work}
use Rattle.scaling.specs.declared.work.Table.TheVariants.{T, V}
use Rattle.scaling.specs.WorkState.{state_of, Tracks, Same, Reorders}
use Rattle.scaling.specs.Rows.{RowsBegun, RowsDone, Stage3Begun}
use Rattle.scaling.specs.Problem.{Starts, Ran}
use Rattle.scaling.proofs.Tracking.{on_tracks, tracks-same, tracked-same}
use Rattle.scaling.proofs.MatrixC.{columns-some}

module _ {P : Problem} (g : WellFormed P) {w₀ : Work} (begun : Starts P w₀) where
  abbrev x : ℕ
  x = N P

  abbrev m : ℕ
  m = P.m

  abbrev first : Progress
  first = stage1 m x (start (columns_of P))

  abbrev r : ℕ
  r = x - first.a

  abbrev second : State
  second = (stage2 x r (reorder first.a first.state)).state

  abbrev end : State
  end = stage3 x r x second

  ended : end ≡ (run P).state
  unfolding run run_on
  ended = refl

  refuses : {d : Refusal} → d ≡ Overflow → end.over ≡ true → Ran P (Err d)
  refuses f o = (f, rw ended at o)

  -- ---- stage 1
  start_steps : w₀.steps ≡ 0
  unfolding state_of
  start_steps = ap (λ (u : State). u.steps) begun.same

  pub first_begun : RowsBegun T 0 w₀
  first_begun = record { clear = begun.clear; lo_in = omega arith; room = omega (arith, start_steps, w₀.sound.rows) }

  module _ {w₁ : Work} {a : ℕ} (d : RowsDone T 0 w₀ w₁ a) where
    first_is : rows on_t w₀.cols 0 w₀.m (record { state = state_of w₀; a = w₀.cols }) ≡ first
    unfolding stage1
    first_is = λ i. rows on_t (begun.cols i) 0 (begun.rows i) (record { state = begun.same i; a = begun.cols i })

    first_tracks : Tracks m x w₁ first.state
    first_tracks = on_tracks (tracks-same begun) d.tracks (ap (λ (g : Progress). g.state) first_is)

    first_over : w₁.over ≡ true → end.over ≡ true
    unfolding reorder
    first_over o = stage3_over x r x second (stage2_over x r (reorder first.a first.state) (sym first_tracks.flag ∙ o))

    pub refused-first : {f : Refusal} → f ≡ Overflow → w₁.over ≡ true → Ran P (Err f)
    refused-first f o = refuses f (first_over o)

    module _ (o : w₁.over ≡ false) where
      first_active : a ≡ first.a
      first_active = d.active o ∙ ap (λ (g : Progress). g.a) first_is

      rank_is : w₁.cols - a ≡ r
      rank_is = λ i. first_tracks.cols i - first_active i

      -- ---- the reordering and stage 2
      pub reorders : Reorders a w₁
      reorders = record { clear = o; some = omega (arith, columns-some g, first_tracks.cols); a_in = omega (arith, d.upto, begun.cols, first_tracks.cols) }

      module _ {w₂ : Work} (t : Same w₁.m w₁.cols w₂ (reorder a (state_of w₁))) where
        reorder_tracks : Tracks m x w₂ (reorder first.a first.state)
        reorder_tracks = on_tracks first_tracks (tracks-same t) (λ i. reorder (first_active i) (first_tracks.same o i))

        reorder_steps : w₂.steps ≡ w₁.steps
        unfolding state_of reorder
        reorder_steps = ap (λ (u : State). u.steps) t.same

        pub second-begun : RowsBegun V (w₁.cols - a) w₂
        second-begun = record {
          clear = t.clear;
          lo_in = omega (arith, t.cols);
          room = omega (arith, reorder_steps, d.counted o, start_steps, w₀.sound.rows, w₂.sound.cols);
        }

        module _ {w₃ : Work} {b : ℕ} (d₂ : RowsDone V (w₁.cols - a) w₂ w₃ b) where
          second-is : (rows on_v w₂.cols (w₁.cols - a) w₂.cols (record { state = state_of w₂; a = w₂.cols })).state ≡ second
          unfolding stage2
          second-is = λ i. (rows on_v (reorder_tracks.cols i) (rank_is i) (reorder_tracks.cols i) (record { state = reorder_tracks.same t.clear i; a = reorder_tracks.cols i })).state

          second-tracks : Tracks m x w₃ second
          second-tracks = on_tracks reorder_tracks d₂.tracks second-is

          pub refused-second : {f : Refusal} → f ≡ Overflow → w₃.over ≡ true → Ran P (Err f)
          refused-second f p = refuses f (stage3_over x r x second (sym second-tracks.flag ∙ p))

          module _ (p : w₃.over ≡ false) where
            -- ---- stage 3
            pub third_begun : Stage3Begun (w₁.cols - a) w₃
            third_begun = record {
              clear = p;
              r_in = omega (arith, first_tracks.cols, second-tracks.cols);
              room = omega (
                arith,
                d₂.counted p,
                reorder_steps,
                d.counted o,
                start_steps,
                w₀.sound.rows,
                w₂.sound.cols,
                mul-le-mul w₃.sound.cols w₃.sound.cols,
              );
            }

            module _ {w₄ : Work} (t₃ : Tracks w₃.m w₃.cols w₄ (stage3 w₃.cols (w₁.cols - a) w₃.cols (state_of w₃))) where
              third_tracks : Tracks m x w₄ end
              third_tracks = on_tracks second-tracks t₃ (λ i. stage3 (second-tracks.cols i) (rank_is i) (second-tracks.cols i) (second-tracks.same p i))

              pub refused-third : {f : Refusal} → f ≡ Overflow → w₄.over ≡ true → Ran P (Err f)
              refused-third f q = refuses f (sym third_tracks.flag ∙ q)

              pub ran : w₄.over ≡ false → Ran P (Ok (record { work = w₄; rank = w₁.cols - a }))
              unfolding run run_on
              ran q = (tracked-same third_tracks q, rank_is)
