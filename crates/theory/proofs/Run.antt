-- Theorem 3: the run ends with r, H, V and W as section 6 of the rules wants them; and it is a sequence of steps from the start.
use mathlib.Core.Path.{◌≡◌, subst}
use mathlib.Core.List.{List}
use Prim.Native.Nat.{ℕ, ◌-◌}
use native.Mathlib.Omega.{arith}
use lib.ListN.{length}
use lib.IntN.{ℤ}
use Rattle.rules.specs.Problem.{Problem, N, C, columns}
use Rattle.rules.specs.Forms.{Normal, Right}
use Rattle.rules.specs.Steps.{State, on_t, reorder, start}
use Rattle.rules.specs.Stages.{Progress, stage1, stage2, run_on, run, H, U, W}
use Rattle.theory.proofs.Equations.{Equations}
use Rattle.theory.proofs.Start.{matrix_of, start_holds}
use Rattle.theory.proofs.Sequence.{Steps, begin, reordered, follow}
use Rattle.theory.proofs.Stage.{Advanced}
use Rattle.theory.proofs.AfterStages.{AfterFirst, first_advanced, first_is_lem, AfterSecond, second_is, late_moves, end_normal}
use Rattle.theory.proofs.Shape.{length-columns}

-- ---- the run
module _ (m n : ℕ) (cols : List (List ℤ)) (e : length cols ≡ n) where
  abbrev first : Progress
  first = stage1 m n (start cols)

  abbrev rank : ℕ
  rank = n - first.a

  abbrev second : State
  second = (stage2 n rank (reorder first.a first.state)).state

  start_holds-n : Equations n (matrix_of cols) (start cols)
  start_holds-n = subst (λ (k : ℕ). Equations k (matrix_of cols) (start cols)) e (start_holds cols)

  after_first : AfterFirst m n (matrix_of cols) rank (reorder first.a first.state)
  after_first = first_is_lem m n (matrix_of cols) (start cols) start_holds-n

  after-second : AfterSecond n rank (matrix_of cols) (reorder first.a first.state) second
  after-second = second_is n rank (matrix_of cols) (reorder first.a first.state) after_first.rank after_first.holds

  pub run_on_normal : Normal m n (run_on m n cols).rank (matrix_of cols) (H (run_on m n cols)) (U (run_on m n cols)) (W (run_on m n cols))
  unfolding run_on
  run_on_normal = end_normal m n (matrix_of cols) rank (reorder first.a first.state) second after_first after-second

  -- the run is a sequence of steps: those of stage 1, the reordering, those of stages 2 and 3
  pub run_on_steps : Steps n (start cols) (run_on m n cols).state
  unfolding run_on
  run_on_steps =
      let g : Advanced on_t n 0 m 0 (record { state = start cols; a = n }) first = first_advanced m n (matrix_of cols) (start cols) start_holds-n in
      follow (omega arith) (reordered first.a g.stands.high (follow (omega arith) begin g.moves))
      (late_moves m n (matrix_of cols) rank (reorder first.a first.state) second after_first after-second)

-- ---- a problem's run
pub run_right : (P : Problem) → Right P (run P).rank (H (run P)) (U (run P)) (W (run P))
unfolding run C
run_right P = run_on_normal P.m (N P) (columns P) (length-columns P)

pub run_steps : (P : Problem) → Steps (N P) (start (columns P)) (run P).state
unfolding run
run_steps P = run_on_steps P.m (N P) (columns P) (length-columns P)
