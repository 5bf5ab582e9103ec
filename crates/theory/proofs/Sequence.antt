-- A run as an explicit sequence of steps, with the reordering among them: what the steps of a sequence keep (theorem 1), what they write, and how
-- many they are.
use mathlib.Core.Path.{◌≡◌, ◌∙◌}
use mathlib.Core.List.{List, [], ◌++◌}
use Prim.Native.Nat.{ℕ, suc, ◌+◌, ◌≤◌}
use native.Mathlib.Omega.{arith}
use lib.IntN.{ℤ}
use Rattle.whole.specs.Matrix.{Matrix}
use Rattle.rules.specs.Steps.{State, line, values, negated, source, target, reorder}
use Rattle.theory.proofs.StepLines.{swap_steps, negate_steps, add_steps}
use Rattle.theory.proofs.Moves.{Move, swap, negate, add, Moves, stay, one, both, widen_move, moves-keep}
use Rattle.theory.proofs.Lines.{Shape, swap_shape, negate_shape, add_shape, reorder_shape}
use Rattle.theory.proofs.Equations.{Equations, swap_holds, negate-holds, add_holds, reorder-holds}

-- a sequence that leads from u, among n columns
pub data Steps (n : ℕ) (u : State) : State → Type 0 where
  begin : Steps n u u
  then : {v w : State} → Steps n u v → Move n 0 n v w → Steps n u w
  reordered : {v : State} (a : ℕ) → a ≤ n → Steps n u v → Steps n u (reorder a v)

pub follow : {n lo a : ℕ} {u v w : State} → a ≤ n → Steps n u v → Moves n lo a v w → Steps n u w
follow h s stay = s
follow h s (one m) = then s (widen_move (omega arith) h m)
follow h s (both x y) = follow h (follow h s x) y

-- ---- what every step and the reordering keep, a sequence keeps
pub steps_keep : {n : ℕ} {u w : State} (Q : State → Type 0) → ((u w : State) → Move n 0 n u w → Q u → Q w)
    → ((a : ℕ) (u : State) → a ≤ n → Q u → Q (reorder a u))
    → Steps n u w → Q u → Q w
steps_keep Q f g begin q = q
steps_keep Q f g (then s m) q = f _ _ m (steps_keep Q f g s q)
steps_keep Q f g (reordered a h s) q = g a _ h (steps_keep Q f g s q)

module _ (n lo a : ℕ) (fit : a ≤ n) where
  pub move_holds : (C : Matrix) (u w : State) → Move n lo a u w → Equations n C u → Equations n C w
  move_holds C u w (swap i j x y) h = swap_holds n C u h i j (omega arith) (omega arith)
  move_holds C u w (negate i x) h = negate-holds n C u h i (omega arith)
  move_holds C u w (add i j q x y d) h = add_holds n C u h i j q (omega arith) y d

  move_shape : (m : ℕ) (u w : State) → Move n lo a u w → Shape m n u → Shape m n w
  move_shape m u w (swap i j x y) h = swap_shape m n u h i j (omega arith) (omega arith)
  move_shape m u w (negate i x) h = negate_shape m n u h i (omega arith)
  move_shape m u w (add i j q x y d) h = add_shape m n u h i j q (omega arith) y d

pub moves_hold : {n lo a : ℕ} {u w : State} (C : Matrix) → a ≤ n → Moves n lo a u w → Equations n C u → Equations n C w
moves_hold {n} {lo} {a} C fit m = moves-keep (Equations n C) (move_holds n lo a fit C) m

-- theorem 1
pub steps_hold : {n : ℕ} {u w : State} (C : Matrix) → Steps n u w → Equations n C u → Equations n C w
steps_hold {n} C s = steps_keep (Equations n C) (move_holds n 0 n (omega arith) C) (λ a u l h. reorder-holds n C u h a l) s

pub steps_shape : {n : ℕ} {u w : State} (m : ℕ) → Steps n u w → Shape m n u → Shape m n w
steps_shape {n} m s = steps_keep (Shape m n) (move_shape n 0 n (omega arith) m) (λ a u l h. reorder_shape m n u h a l) s

-- ---- what is written, in order
-- by one step: both lines whole for a swap, the line whole for a negation; for an addition only what it changes, column j of T and V and row i of W
abbrev pub written_by : {n lo a : ℕ} {u w : State} → Move n lo a u w → List ℤ
written_by {u = u} (swap i j _ _) = values (line u j) ++ values (line u i)
written_by {u = u} (negate i _) = values (negated (line u i))
written_by {u = u} (add i j q _ _ _) = (target q (line u i) (line u j)).t ++ (target q (line u i) (line u j)).v ++ (source q (line u i) (line u j)).w

abbrev pub written : {n : ℕ} {u w : State} → Steps n u w → List ℤ
written begin = []
written (then s m) = written s ++ written_by m
written (reordered a h s) = written s

-- ---- how many steps: R7.5; the reordering is none (R7.10)
abbrev pub taken : {n : ℕ} {u w : State} → Steps n u w → ℕ
taken begin = 0
taken (then s m) = suc (taken s)
taken (reordered a h s) = taken s

move_steps : {n lo a : ℕ} {u w : State} → Move n lo a u w → w.steps ≡ suc u.steps
move_steps {u = u} (swap i j x y) = swap_steps i j u
move_steps {u = u} (negate i x) = negate_steps i u
move_steps {u = u} (add i j q x y d) = add_steps i j q u

pub steps_counted : {n : ℕ} {u w : State} (s : Steps n u w) → w.steps ≡ u.steps + taken s
unfolding reorder
steps_counted begin = omega arith
steps_counted (then s m) = move_steps m ∙ omega (arith, steps_counted s)
steps_counted (reordered a h s) = steps_counted s
