-- There is one right answer, said of the lists that hold it: entries row after row, as the build writes them.
use mathlib.Core.Path.{◌≡◌}
use Prim.Native.Nat.{ℕ}
use Rattle.whole.specs.Matrix.{Matrix}
use Rattle.rules.specs.Problem.{Problem, N}
use Rattle.rules.specs.Forms.{Normal, Right}
use Rattle.rules.specs.Stages
use Rattle.rules.specs.Stages.{Run, run}
use Rattle.rules.specs.Calls.{grid, contents_h, contents_v, contents_w}
use Rattle.theory.proofs.Unique.{normal_unique}
use Rattle.theory.proofs.Grid.{grid_cong}

-- ---- two right answers, written row after row
pub record AlikeLists (m N r r' : ℕ) (H H' U U' W W' : Matrix) : Type 0 where
  pub ranks : r ≡ r'
  pub forms : grid m N H ≡ grid m N H'
  pub multipliers : grid N N U ≡ grid N N U'
  pub inverses : grid N N W ≡ grid N N W'

pub normal_lists_unique : {m N r r' : ℕ} {C H U W H' U' W' : Matrix} → Normal m N r C H U W → Normal m N r' C H' U' W'
    → AlikeLists m N r r' H H' U U' W W'
normal_lists_unique {m} {N} {H = H} {U = U} {W = W} {H' = H'} {U' = U'} {W' = W'} R R' =
    let a = normal_unique R R' in
    record {
      ranks = a.ranks;
      forms = grid_cong m N H H' a.forms;
      multipliers = grid_cong N N U U' a.multipliers;
      inverses = grid_cong N N W W' a.inverses;
    }

-- ---- the answer of a run
-- the run u comes to a right answer for P
abbrev pub RightRun : Problem → Run → Type 0
RightRun P u = Right P u.rank (Stages.H u) (Stages.U u) (Stages.W u)

-- then whatever is right for P is what the build writes
pub right_is_built : (P : Problem) → RightRun P (run P) → {r : ℕ} {H U W : Matrix} → Right P r H U W
    → (r ≡ (run P).rank) × (grid P.m (N P) H ≡ contents_h P) × (grid (N P) (N P) U ≡ contents_v P) × (grid (N P) (N P) W ≡ contents_w P)
unfolding contents_h contents_v contents_w
right_is_built P R R' =
    let a = normal_lists_unique R' R in
    (a.ranks, a.forms, a.multipliers, a.inverses)
