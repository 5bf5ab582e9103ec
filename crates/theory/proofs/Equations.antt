-- Theorem 1, "kept throughout": T = C·V, V·W = I and W·V = I after each of the three steps and after the reordering (at the start: Start).
use mathlib.Core.Path.{◌≡◌, ◌∙◌}
use mathlib.Core.Logic.{◌≢◌}
use Prim.Native.Nat.{ℕ, ◌+◌, ◌-◌, ◌≤◌, ◌<◌}
use native.Mathlib.Omega.{arith}
use lib.IntN.{ℤ}
use Rattle.whole.specs.Matrix.{Matrix}
use Rattle.whole.proofs.Columns.{Kept, kept_same, add_kept, swap-kept, negate-kept}
use Rattle.rules.specs.Steps.{State, on_t, on_v, get, get_w, swap_step, negate_step, add_step, reorder}
use Rattle.theory.proofs.StepLines.{count, swap_count, negate_count, add_count}
use Rattle.theory.proofs.Entries.{swap-get, swap-get_w, negate-get, negate-get_w, add-get, add-get_w}
use Rattle.theory.proofs.Reorder.{turn-kept, reorder_count, reorder-get, reorder-get_w}

-- u has n lines, and its T, V and W belong together
pub record Equations (n : ℕ) (C : Matrix) (u : State) : Type 0 where
  pub lines : count u ≡ n
  pub tables : Kept n C (get on_t u) (get on_v u) (get_w u)

module _ (n : ℕ) (C : Matrix) (u : State) (h : Equations n C u) where
  pub swap_holds : (i j : ℕ) → i < n → j < n → Equations n C (swap_step i j u)
  swap_holds i j hi hj =
      let ki : i < count u = omega (arith, h.lines) in
      let kj : j < count u = omega (arith, h.lines) in
      record {
        lines = swap_count i j u ∙ h.lines;
        tables = kept_same (λ r c _. swap-get i j u ki kj on_t r c) (λ r c _. swap-get i j u ki kj on_v r c) (λ r c _. swap-get_w i j u ki kj r c)
            (swap-kept i j hi hj h.tables);
      }

  pub negate-holds : (i : ℕ) → i < n → Equations n C (negate_step i u)
  negate-holds i hi =
      let ki : i < count u = omega (arith, h.lines) in
      record {
        lines = negate_count i u ∙ h.lines;
        tables = kept_same (λ r c _. negate-get i u ki on_t r c) (λ r c _. negate-get i u ki on_v r c) (λ r c _. negate-get_w i u ki r c)
            (negate-kept i h.tables);
      }

  pub add_holds : (i j : ℕ) (q : ℤ) → i < n → j < n → i ≢ j → Equations n C (add_step i j q u)
  add_holds i j q hi hj d =
      let ki : i < count u = omega (arith, h.lines) in
      let kj : j < count u = omega (arith, h.lines) in
      record {
        lines = add_count i j q u ∙ h.lines;
        tables = kept_same (λ r c _. add-get i j q u kj on_t r c) (λ r c _. add-get i j q u kj on_v r c) (λ r c _. add-get_w i j q u ki d r c)
            (add_kept q i j hi hj d h.tables);
      }

  pub reorder-holds : (a : ℕ) → a ≤ n → Equations n C (reorder a u)
  reorder-holds a fit =
      let e : a + (n - a) ≡ n = omega arith in
      record {
        lines = reorder_count a u ∙ h.lines;
        tables = kept_same (reorder-get n a (n - a) e u h.lines on_t) (reorder-get n a (n - a) e u h.lines on_v) (reorder-get_w n a (n - a) e u h.lines)
            (turn-kept n a (n - a) e h.tables);
      }
