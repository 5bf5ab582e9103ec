-- How many steps a problem's run takes at most, if it is accepted.
use mathlib.Core.Path.{◌≡◌}
use mathlib.Core.Bool.{false}
use mathlib.Core.List.{List}
use Prim.Native.Nat.{ℕ, ◌+◌, ◌*◌, ◌-◌, ◌≤◌}
use native.Mathlib.Omega.{arith}
use lib.IntN.{ℤ}
use Rattle.whole.proofs.Tests.{false_of}
use Rattle.rules.specs.Problem.{Problem, N, columns}
use Rattle.rules.specs.Steps.{State, on_t, on_v, reorder, start}
use Rattle.rules.specs.Stages.{Progress, stage1, stage2, stage3, run_on, run}
use Rattle.theory.proofs.Sequence.{begin, reordered, follow}
use Rattle.theory.proofs.Stage.{Advanced, no_row_done, stage_is}
use Rattle.theory.proofs.Flag.{stage2_over, stage3_over}
use Rattle.theory.proofs.Range.{NearState, steps_fine}
use Rattle.theory.proofs.RunRange.{Moderate, problem-fine}
use Rattle.theory.proofs.StepBound.{rows_steps, stage3_steps}

-- 31 for each column are enough for the repetitions that clear none: two columns have 62, and one alone needs none
module _ (n : ℕ) (u : State) (f : NearState n u) where
  stage1_steps : (m : ℕ) → (stage1 m n u).state.over ≡ false → (stage1 m n u).state.steps ≤ u.steps + m * (32 * n + 2)
  unfolding stage1
  stage1_steps m o =
      let all : n - 0 + 31 * n + 2 ≡ 32 * n + 2 = omega arith in
      rw all at (rows_steps on_t n 0 (31 * n) (omega arith) m m (omega arith) (record { state = u; a = n }) (no_row_done on_t n 0 m u f.lines (omega arith)) f o)

  stage2_steps : (r : ℕ) → r ≤ n → (stage2 n r u).state.over ≡ false → (stage2 n r u).state.steps ≤ u.steps + n * (32 * (n - r) + 2)
  unfolding stage2
  stage2_steps r h o =
      let all : n - r + 31 * (n - r) + 2 ≡ 32 * (n - r) + 2 = omega arith in
      rw all at (rows_steps on_v n r (31 * (n - r)) (omega arith) n n (omega arith) (record { state = u; a = n }) (no_row_done on_v n r n u f.lines h) f o)

pub run_on_bound : (m n : ℕ) (cols : List (List ℤ)) → NearState n (start cols) → (run_on m n cols).state.over ≡ false
    → (run_on m n cols).state.steps ≤ m * (32 * n + 2) + n * (32 * (n - (run_on m n cols).rank) + 2) + (n - (run_on m n cols).rank) * (run_on m n cols).rank
unfolding run_on reorder stage1
run_on_bound m n cols f o = omega (
  arith,
  stage1_steps n (start cols) f m before,
  stage2_steps n v fv r (omega arith) middle,
  stage3_steps n r n h.state,
)
  where
    g : Progress
    g = stage1 m n (start cols)

    r : ℕ
    r = n - g.a

    v : State
    v = reorder g.a g.state

    h : Progress
    h = stage2 n r v

    middle : h.state.over ≡ false
    middle = false_of h.state.over (stage3 n r n h.state).over (stage3_over n r n h.state) o

    before : g.state.over ≡ false
    before = false_of v.over h.state.over (stage2_over n r v) middle

    done : Advanced on_t n 0 m 0 (record { state = start cols; a = n }) g
    done = stage_is on_t n 0 m (start cols) f.lines (omega arith)

    fv : NearState n v
    fv = steps_fine (reordered g.a done.stands.high (follow (omega arith) begin done.moves)) f

-- if a problem is accepted, its steps are at most m·(32N + 2) + N·(32d + 2) + d·r, where d is N - r
pub run_bound : (P : Problem) → Moderate P → (run P).state.over ≡ false
    → (run P).state.steps ≤ P.m * (32 * N P + 2) + N P * (32 * (N P - (run P).rank) + 2) + (N P - (run P).rank) * (run P).rank
unfolding run
run_bound P h o = run_on_bound P.m (N P) (columns P) (problem-fine P h) o
