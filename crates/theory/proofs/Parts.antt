-- What the three steps keep, whatever the columns, every part of the run keeps: for facts that need no bounds, such as that the flag never falls.
use mathlib.Core.Bool.{Bool, true, false}
use Prim.Native.Nat.{ℕ, zero, suc, ◌-◌}
use lib.Dec.{ltb, eqb}
use lib.IntN.{ℤ, pos, neg_ℤ}
use lib.Signed.{lt_z}
use Rattle.whole.specs.Division.{floor_z}
use Rattle.rules.specs.Limits.{is_zero}
use Rattle.rules.specs.Search.{Found, none, found, total}
use Rattle.rules.specs.Steps.{State, Table, on_v, get, swap_step, negate_step, add_step}
use Rattle.rules.specs.Stages.{size, pivot_column, Next, done, adds, next, repeat_a, eliminate, reduce, bring, make_positive, settle, Progress, settled, row, rows, stage1, stage2, pivot_row, reduce_first, stage3}
use Rattle.theory.proofs.Search.{each_keeps}

module _ (Q : State → Type 0)
    (swap-q : (i j : ℕ) (u : State) → Q u → Q (swap_step i j u))
    (negate-q : (i : ℕ) (u : State) → Q u → Q (negate_step i u))
    (add-q : (i j : ℕ) (q : ℤ) (u : State) → Q u → Q (add_step i j q u)) where
  -- ---- (A)
  pub repeat_a_keeps : (times : ℕ) (tb : Table) (lo a k : ℕ) (u : State) → Q u → Q (repeat_a times tb lo a k u)
  unfolding repeat_a
  repeat_a_keeps zero tb lo a k u q = q
  repeat_a_keeps (suc times) tb lo a k u q = go (next tb lo a k u) (repeat_a_keeps times tb lo a k)
    where
      go : (x : Next) → ((w : State) → Q w → Q (repeat_a times tb lo a k w)) → Q (elim x [ done ↦ u | adds p j q ↦ repeat_a times tb lo a k (add_step p j q u) ])
      go done r = q
      go (adds p j z) r = r (add_step p j z u) (add-q p j z u q)

  pub eliminate_keeps : (tb : Table) (lo a k : ℕ) (u : State) → Q u → Q (eliminate tb lo a k u)
  unfolding eliminate
  eliminate_keeps tb lo a k u q = repeat_a_keeps (total (size tb u k) lo a) tb lo a k u q

  -- ---- (B)
  pub reduce_keeps : (tb : Table) (k b c : ℕ) (u : State) → Q u → Q (reduce tb k b c u)
  unfolding reduce
  reduce_keeps tb k b c u q = go (is_zero z)
    where
      z : ℤ
      z = neg_ℤ (floor_z (get tb u k c) (get tb u k b))

      go : (x : Bool) → Q (elim x [ true ↦ u | false ↦ add_step b c z u ])
      go true = q
      go false = add-q b c z u q

  pub bring_keeps : (p b : ℕ) (u : State) → Q u → Q (bring p b u)
  unfolding bring
  bring_keeps p b u q = go (eqb p b)
    where
      go : (x : Bool) → Q (elim x [ true ↦ u | false ↦ swap_step p b u ])
      go true = q
      go false = swap-q p b u q

  pub make_positive_keeps : (tb : Table) (k b : ℕ) (u : State) → Q u → Q (make_positive tb k b u)
  unfolding make_positive
  make_positive_keeps tb k b u q = go (lt_z (get tb u k b) (pos 0))
    where
      go : (x : Bool) → Q (elim x [ true ↦ negate_step b u | false ↦ u ])
      go true = negate-q b u q
      go false = q

  pub settle_keeps : (tb : Table) (n k p b : ℕ) (u : State) → Q u → Q (settle tb n k p b u)
  unfolding settle
  settle_keeps tb n k p b u q = each_keeps Q (reduce tb k b) (reduce_keeps tb k b) (suc b) n (make_positive tb k b (bring p b u))
      (make_positive_keeps tb k b (bring p b u) (bring_keeps p b u q))

  -- ---- rows and stages
  pub row_keeps : (tb : Table) (n lo k : ℕ) (g : Progress) → Q g.state → Q (row tb n lo k g).state
  unfolding row
  row_keeps tb n lo k g q = go (pivot_column tb lo g.a k u)
    where
      u : State
      u = eliminate tb lo g.a k g.state

      go : (x : Found) → Q (settled tb n g.a k u x).state
      go none = eliminate_keeps tb lo g.a k g.state q
      go (found p) = settle_keeps tb n k p (g.a - 1) u (eliminate_keeps tb lo g.a k g.state q)

  pub rows-keep : (tb : Table) (n lo k : ℕ) (g : Progress) → Q g.state → Q (rows tb n lo k g).state
  unfolding rows
  rows-keep tb n lo zero g q = q
  rows-keep tb n lo (suc k) g q = rows-keep tb n lo k (row tb n lo k g) (row_keeps tb n lo k g q)

  pub stage1_keeps : (m n : ℕ) (u : State) → Q u → Q (stage1 m n u).state
  unfolding stage1
  stage1_keeps m n u q = rows-keep _ n 0 m (record { state = u; a = n }) q

  pub stage2_keeps : (n r : ℕ) (u : State) → Q u → Q (stage2 n r u).state
  unfolding stage2
  stage2_keeps n r u q = rows-keep _ n r n (record { state = u; a = n }) q

  pub reduce_first_keeps : (r c : ℕ) (u : State) (x : Found) → Q u → Q (reduce_first r c u x)
  reduce_first_keeps r c u none q = q
  reduce_first_keeps r c u (found k) q = each_keeps Q (reduce on_v k c) (reduce_keeps on_v k c) 0 r u q

  pub stage3_keeps : (n r c : ℕ) (u : State) → Q u → Q (stage3 n r c u)
  unfolding stage3
  stage3_keeps n r zero u q = q
  stage3_keeps n r (suc c) u q = go (ltb c r) (stage3_keeps n r c)
    where
      go : (b : Bool) → ((w : State) → Q w → Q (stage3 n r c w)) → Q (elim b [ true ↦ u | false ↦ stage3 n r c (reduce_first r c u (pivot_row n c u)) ])
      go true r₂ = q
      go false r₂ = r₂ (reduce_first r c u (pivot_row n c u)) (reduce_first_keeps r c u (pivot_row n c u) q)
