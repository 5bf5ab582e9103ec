-- Theorem 3, stage by stage: stage 1 and the reordering leave T as [H 0] in column Hermite form; stage 2 leaves T alone and puts the last columns of V
-- in column Hermite form; stage 3 leaves both alone and brings the first r columns of V into range. What is left is normal.
use mathlib.Core.Path.{◌≡◌, refl, sym, ◌∙◌}
use mathlib.Core.Bool.{Bool}
use Prim.Native.Nat.{ℕ, ◌+◌, ◌-◌, ◌≤◌, ◌<◌}
use native.Mathlib.Omega.{arith}
use lib.IntN.{pos, ◌*ℤ◌, *ℤ-zero}
use Rattle.whole.specs.Matrix.{Matrix}
use Rattle.whole.proofs.Tests.{Test, pass, fail, lt?}
use Rattle.whole.proofs.Order.{zarith}
use Rattle.whole.proofs.Sum.{sum-out, δ-same}
use Rattle.whole.proofs.Matrix.{mul_is}
use Rattle.whole.proofs.Columns.{Kept}
use Rattle.rules.specs.Problem.{C}
use Rattle.rules.specs.Forms.{InRange, Hermite, from, Normal}
use Rattle.rules.specs.Search.{found}
use Rattle.rules.specs.Steps.{State, on_t, on_v, get, get_w, reorder}
use Rattle.rules.specs.Stages.{stage1, stage2, stage3, pivot_row, U, W}
use Rattle.theory.proofs.Search.{In}
use Rattle.theory.proofs.StepLines.{count}
use Rattle.theory.proofs.Moves.{Moves, both, still}
use Rattle.theory.proofs.Reorder.{turn_low, turn-high, reorder-get}
use Rattle.theory.proofs.Equations.{Equations, reorder-holds}
use Rattle.theory.proofs.Sequence.{moves_hold}
use Rattle.theory.proofs.Pivots.{FinishedColumn, pivot-kept, pivot_shifted, lowest_row, lowest_row_is, pivots-rise, hermite_of}
use Rattle.theory.proofs.Stage.{Advanced, stage_is}
use Rattle.theory.proofs.StageThree.{Finished, finished-row, pivot_row_is, pivot_row_same, FirstReduced, stage3_is}

-- ---- stage 1 and the reordering: T is [H 0]
pub record AfterFirst (m n : ℕ) (C : Matrix) (r : ℕ) (u : State) : Type 0 where
  pub rank : r ≤ n
  pub holds : Equations n C u
  pub zeros : (i c : ℕ) → i < m → In r n c → get on_t u i c ≡ pos 0
  pub pivots : (c : ℕ) → c < r → FinishedColumn (get on_t u) 0 r m 0 c

module _ (m n : ℕ) (C : Matrix) (u : State) (h : Equations n C u) where
  pub first_advanced : Advanced on_t n 0 m 0 (record { state = u; a = n }) (stage1 m n u)
  unfolding stage1
  first_advanced = stage_is on_t n 0 m u h.lines (omega arith)

  pub first_is_lem : AfterFirst m n C (n - (stage1 m n u).a) (reorder (stage1 m n u).a (stage1 m n u).state)
  first_is_lem = record {
    rank = omega arith;
    holds = reorder-holds n C w (moves_hold C (omega arith) first_advanced.moves h) a fit;
    zeros = λ i c l j. reorder-get n a r e w ct on_t i c j.high
        ∙ rw (turn-high a r c j.low) (first_advanced.stands.clean i (omega arith) l (c - r) (omega arith));
    pivots = λ c i. pivot_shifted (get on_t w) (get on_t (reorder a w)) 0 n m a r c (omega arith) (omega arith) i
        (λ k j l. reorder-get n a r e w ct on_t k j (omega arith) ∙ rw (turn_low a r j l)) (first_advanced.stands.pivots (a + c) (omega arith));
  }
    where
      a : ℕ
      a = (stage1 m n u).a

      r : ℕ
      r = n - a

      w : State
      w = (stage1 m n u).state

      fit : a ≤ n
      fit = first_advanced.stands.high

      e : a + r ≡ n
      e = omega (arith, fit)

      ct : count w ≡ n
      ct = first_advanced.stands.lines

-- [H 0] in column Hermite form, and r its rank
pub first_hermite : {m n r : ℕ} {C : Matrix} {u : State} → AfterFirst m n C r u → Hermite m n r (get on_t u) (lowest_row (get on_t u) m)
first_hermite {m} {n} {r} {C} {u} v = hermite_of (get on_t u) m n r v.rank v.pivots (λ i j l f g. v.zeros i j l (record { low = f; high = g }))

-- a run of steps from the zero columns leaves T alone
pub top_still : {m n r : ℕ} {C : Matrix} {u w : State} → AfterFirst m n C r u → Moves n r n u w → (i c : ℕ) → i < m → get on_t w i c ≡ get on_t u i c
top_still v s i c l = still (omega arith) s v.holds.lines on_t i (λ x j. v.zeros i x l j) c

-- ---- stage 2: the last n - r columns of V are in column Hermite form, none of them zero
pub record AfterSecond (n r : ℕ) (C : Matrix) (u w : State) : Type 0 where
  pub moves : Moves n r n u w
  pub holds : Equations n C w
  pub finished : Finished n r w

-- W · V = I: V has no zero column
no_zero-column : (n : ℕ) (C T U W : Matrix) → Kept n C T U W → (c : ℕ) → c < n → ((i : ℕ) → i < n → U i c ≡ pos 0) → ⊥
no_zero-column n C T U W g c h z =
    let x : pos 1 ≡ pos 0 = sym (δ-same c) ∙ sym (g.left c c h h) ∙ mul_is n W U c c
    ∙ sum-out n (λ k. W c k *ℤ U k c) (λ k l. rw (z k l) (*ℤ-zero (W c k))) in
    omega (zarith, x)

module _ (n r : ℕ) (C : Matrix) (u : State) (fit : r ≤ n) (h : Equations n C u) where
  second_advanced : Advanced on_v n r n 0 (record { state = u; a = n }) (stage2 n r u)
  unfolding stage2
  second_advanced = stage_is on_v n r n u h.lines fit

  second_holds : Equations n C (stage2 n r u).state
  second_holds = moves_hold C (omega arith) second_advanced.moves h

  -- no active column is left: it would be a zero column of V
  pub second-none_left : (stage2 n r u).a ≡ r
  second-none_left = go (lt? r (stage2 n r u).a)
    where
      w : State
      w = (stage2 n r u).state

      go : {b : Bool} → Test (r < (stage2 n r u).a) ((stage2 n r u).a ≤ r) b → (stage2 n r u).a ≡ r
      go (pass l) = absurd (no_zero-column n C (get on_t w) (get on_v w) (get_w w) second_holds.tables r (omega (arith, second_advanced.stands.high))
          (λ i k. second_advanced.stands.clean i (omega arith) k r (record { low = omega arith; high = l })))
      go (fail l) = omega (arith, second_advanced.stands.low)

  pub second_is : AfterSecond n r C u (stage2 n r u).state
  second_is = record {
    moves = second_advanced.moves;
    holds = second_holds;
    finished = λ c i. second_advanced.stands.pivots c (omega (arith, second-none_left));
  }

finished-hermite : (n r : ℕ) (w : State) → r ≤ n → Finished n r w → Hermite n (n - r) (n - r) (from r (get on_v w)) (lowest_row (from r (get on_v w)) n)
finished-hermite n r w fit f = hermite_of (from r (get on_v w)) n (n - r) (n - r) (omega arith)
    (λ c i. pivot_shifted (get on_v w) (from r (get on_v w)) r n n r (n - r) c (omega arith) (omega arith) i (λ k j l. refl) (f (r + c) (omega arith)))
    (λ i j l x y. absurd (omega arith))

pub second-hermite : {n r : ℕ} {C : Matrix} {u w : State} → r ≤ n → AfterSecond n r C u w
    → Hermite n (n - r) (n - r) (from r (get on_v w)) (lowest_row (from r (get on_v w)) n)
second-hermite {n} {r} {w = w} fit v = finished-hermite n r w fit v.finished

-- the pivot rows rise with the columns: the lowest row first (R7.13) is the last column first, as stage 3 goes
pub second-rising : {n r : ℕ} {C : Matrix} {u w : State} → AfterSecond n r C u w → (c d k l : ℕ) → In r n c → In r n d → pivot_row n c w ≡ found k
    → pivot_row n d w ≡ found l → c < d → k < l
second-rising {n} {r} {w = w} v c d k l i j x y h =
    let x₂ : pivot_row n c w ≡ found (v.finished c i).at = finished-row n r w v.finished c i in
    let y₂ : pivot_row n d w ≡ found (v.finished d j).at = finished-row n r w v.finished d j in
    let ek : k ≡ (v.finished c i).at = cc in
    let el : l ≡ (v.finished d j).at = cc in
    rw (ek, el) (pivots-rise (get on_v w) r n n 0 c d h i.low (v.finished c i) (v.finished d j))

-- stage 2 leaves T alone
pub second_leaves_T : {m n r : ℕ} {C : Matrix} {u w : State} → AfterFirst m n C r u → AfterSecond n r C u w → (i c : ℕ) → i < m
    → get on_t w i c ≡ get on_t u i c
second_leaves_T v v₂ i c l = top_still v v₂.moves i c l

-- ---- stage 3 and the end: it leaves the last columns of V alone, and brings the first r into range (FirstReduced); it leaves T alone
module _ (m n : ℕ) (C : Matrix) (r : ℕ) (u w : State) (v : AfterFirst m n C r u) (v₂ : AfterSecond n r C u w) where
  pub third_is : FirstReduced n r n w (stage3 n r n w)
  third_is = stage3_is n r v.rank n (omega arith) w v₂.holds.lines v₂.finished

  pub late_moves : Moves n r n u (stage3 n r n w)
  late_moves = both v₂.moves third_is.moves

  pub third_leaves_T : (i c : ℕ) → i < m → get on_t (stage3 n r n w) i c ≡ get on_t w i c
  third_leaves_T i c l = top_still v late_moves i c l ∙ sym (second_leaves_T v v₂ i c l)

  end_finished : Finished n r (stage3 n r n w)
  end_finished c i = pivot-kept (get on_v w) (get on_v (stage3 n r n w)) r n n 0 0 c (omega arith) i
      (λ k x _ _ j. third_is.same k x j.low) (v₂.finished c i)

  pub end_normal : Normal m n r C (get on_t (stage3 n r n w)) (get on_v (stage3 n r n w)) (get_w (stage3 n r n w))
  end_normal = record {
    rows = lowest_row (get on_t e) m;
    last_rows = lowest_row (from r (get on_v e)) n;
    product = λ i j l h. sym (tables.made i j h);
    hermite = hermite_of (get on_t e) m n r v.rank
        (λ c i. pivot-kept (get on_t u) (get on_t e) 0 r m 0 0 c (omega arith) (omega arith) (λ k x _ l _. top_still v late_moves k x l) (v.pivots c i))
        (λ i j l f g. top_still v late_moves i j l ∙ v.zeros i j l (record { low = f; high = g }));
    inverse_right = tables.right;
    inverse_left = tables.left;
    last_columns = finished-hermite n r e v.rank end_finished;
    first_columns = λ j k l h. in_range j k l h;
  }
    where
      e : State
      e = stage3 n r n w

      tables : Kept n C (get on_t e) (get on_v e) (get_w e)
      tables = (moves_hold C (omega arith) late_moves v.holds).tables

      in_range : (j k : ℕ) → j < n - r → k < r
          → InRange (get on_v e (lowest_row (from r (get on_v e)) n j) k) (get on_v e (lowest_row (from r (get on_v e)) n j) (r + j))
      in_range j k l h =
          let i : In r n (r + j) = omega arith in
          let row : pivot_row n (r + j) w ≡ found (v₂.finished (r + j) i).at = finished-row n r w v₂.finished (r + j) i in
          let at_end : lowest_row (from r (get on_v e)) n j ≡ (v₂.finished (r + j) i).at = lowest_row_is (from r (get on_v e)) n j (v₂.finished (r + j) i).at
          (sym (pivot_row_is n (r + j) e) ∙ pivot_row_same n (r + j) w e (λ x. third_is.same x (r + j) (omega arith)) ∙ row) in
          rw at_end (third_is.in_range (r + j) (v₂.finished (r + j) i).at k i row h)
