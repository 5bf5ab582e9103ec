-- How many steps each part of the run takes at most; those of (A) are bounded by Depth, as long as no value has passed M.
use mathlib.Core.Path.{◌≡◌}
use mathlib.Core.Bool.{Bool, true, false}
use Prim.Native.Nat.{ℕ, zero, suc, ◌+◌, ◌*◌, ◌-◌, ◌≤◌, ◌<◌}
use native.Mathlib.Omega.{arith}
use native.Mathlib.Decide.{dec_lt}
use native.Mathlib.Nat.{suc-mul}
use lib.Dec.{eqb}
use lib.IntN.{ℤ, pos, neg_ℤ}
use lib.Signed.{lt_z}
use Rattle.whole.specs.Division.{floor_z}
use Rattle.whole.proofs.Tests.{Test, pass, fail, lt?, false_of}
use Rattle.rules.specs.Limits.{is_zero}
use Rattle.rules.specs.Search.{Found, none, found, each}
use Rattle.rules.specs.Steps.{State, Table, on_v, get, swap_step, negate_step, add_step}
use Rattle.rules.specs.Stages.{size, eliminate, reduce, bring, make_positive, settle, Progress, settled, row, rows, pivot_row, reduce_first, stage3}
use Rattle.theory.proofs.Search.{SmallestIs, all-zero, is_smallest, smallest_is}
use Rattle.theory.proofs.StepLines.{swap_steps, negate_steps, add_steps}
use Rattle.theory.proofs.Sequence.{begin, follow}
use Rattle.theory.proofs.Flag.{rows_over}
use Rattle.theory.proofs.Range.{NearState, steps_fine, fine-get}
use Rattle.theory.proofs.Stage.{RowsFinished, Advanced, row_is}
use Rattle.theory.proofs.Depth.{depth_all-within, depth_alone}

-- ---- (B)
reduce_steps : (tb : Table) (k b c : ℕ) (u : State) → (reduce tb k b c u).steps ≤ suc u.steps
unfolding reduce
reduce_steps tb k b c u = go (is_zero z)
  where
    z : ℤ
    z = neg_ℤ (floor_z (get tb u k c) (get tb u k b))

    go : (x : Bool) → (elim x as (λ _. State) [ true ↦ u | false ↦ add_step b c z u ]).steps ≤ suc u.steps
    go true = omega arith
    go false = omega (arith, add_steps b c z u)

reduces_steps : (tb : Table) (k b lo hi : ℕ) (u : State) → (each (reduce tb k b) lo hi u).steps ≤ u.steps + (hi - lo)
unfolding each
reduces_steps tb k b lo zero u = omega arith
reduces_steps tb k b lo (suc c) u = go (lt? c lo) (reduces_steps tb k b lo c u)
  where
    w : State
    w = each (reduce tb k b) lo c u

    go : {x : Bool} → Test (c < lo) (lo ≤ c) x → w.steps ≤ u.steps + (c - lo)
        → (elim x as (λ _. State) [ true ↦ u | false ↦ reduce tb k b c w ]).steps ≤ u.steps + (suc c - lo)
    go (pass h) r = omega arith
    go (fail h) r = omega (arith, reduce_steps tb k b c w)

pub bring_steps : (p b : ℕ) (u : State) → (bring p b u).steps ≤ suc u.steps
unfolding bring
bring_steps p b u = go (eqb p b)
  where
    go : (x : Bool) → (elim x as (λ _. State) [ true ↦ u | false ↦ swap_step p b u ]).steps ≤ suc u.steps
    go true = omega arith
    go false = omega (arith, swap_steps p b u)

pub make_positive_steps : (tb : Table) (k b : ℕ) (u : State) → (make_positive tb k b u).steps ≤ suc u.steps
unfolding make_positive
make_positive_steps tb k b u = go (lt_z (get tb u k b) (pos 0))
  where
    go : (x : Bool) → (elim x as (λ _. State) [ true ↦ negate_step b u | false ↦ u ]).steps ≤ suc u.steps
    go true = omega (arith, negate_steps b u)
    go false = omega arith

pub settle_steps : (tb : Table) (n k p b : ℕ) (u : State) → (settle tb n k p b u).steps ≤ u.steps + (2 + (n - suc b))
unfolding settle
settle_steps tb n k p b u = omega (
  arith,
  bring_steps p b u,
  make_positive_steps tb k b (bring p b u),
  reduces_steps tb k b (suc b) n (make_positive tb k b (bring p b u)),
)

-- ---- rows, with e for the repetitions of (A) that clear no column: 42 are enough, and a column alone needs none
module _ (tb : Table) (n lo e : ℕ) (enough : 1 < n - lo → 42 ≤ e) where
  eliminate_steps : (k a : ℕ) (u : State) → a ≤ n → NearState n u → u.over ≡ false → (eliminate tb lo a k u).steps ≤ u.steps + (a - lo + e)
  unfolding size
  eliminate_steps k a u fit f o = go (dec_lt 1 (a - lo))
    where
      go : Dec (1 < a - lo) → (eliminate tb lo a k u).steps ≤ u.steps + (a - lo + e)
      go (yes h) = omega (arith, enough (omega arith), depth_all-within tb lo a k u (λ c _. fine-get n u f o tb k c))
      go (no h) = omega (arith, depth_alone tb lo a k u (omega arith))

  pub row_steps : (k : ℕ) (g : Progress) → g.a ≤ n → NearState n g.state → g.state.over ≡ false
      → (row tb n lo k g).state.steps ≤ g.state.steps + (n - lo + e + 2)
  unfolding row
  row_steps k g fit f o = go (smallest_is (size tb u k) lo g.a)
    where
      u : State
      u = eliminate tb lo g.a k g.state

      swept : u.steps ≤ g.state.steps + (g.a - lo + e)
      swept = eliminate_steps k g.a g.state fit f o

      go : {x : Found} → SmallestIs (size tb u k) lo g.a x → (settled tb n g.a k u x).state.steps ≤ g.state.steps + (n - lo + e + 2)
      go (all-zero z) = omega (arith, swept)
      go (is_smallest p s) = omega (arith, s.within.low, s.within.high, settle_steps tb n k p (g.a - 1) u, swept)

  pub rows_steps : (m k : ℕ) → k ≤ m → (g : Progress) → RowsFinished tb n lo m k g.state g.a → NearState n g.state → (rows tb n lo k g).state.over ≡ false
      → (rows tb n lo k g).state.steps ≤ g.state.steps + k * (n - lo + e + 2)
  unfolding rows
  rows_steps m zero h g v f o = omega arith
  rows_steps m (suc k) h g v f o =
      let w : Progress = row tb n lo k g in
      let d : Advanced tb n lo m k g w = row_is tb n lo m k h g v in
      let f₂ : NearState n w.state = steps_fine (follow (omega arith) begin d.moves) f in
      let o₂ : g.state.over ≡ false = false_of g.state.over (rows tb n lo (suc k) g).state.over (rows_over tb n lo (suc k) g) o in
      omega (arith, suc-mul k (n - lo + e + 2), row_steps k g v.high f o₂, rows_steps m k (omega arith) w d.stands f₂ o)

-- ---- stage 3
pub stage3_steps : (n r c : ℕ) (u : State) → (stage3 n r c u).steps ≤ u.steps + (c - r) * r
unfolding stage3
stage3_steps n r zero u = omega arith
stage3_steps n r (suc c) u = go (lt? c r) (stage3_steps n r c)
  where
    first : (x : Found) → (reduce_first r c u x).steps ≤ u.steps + r
    first none = omega arith
    first (found k) = omega (arith, reduces_steps on_v k c 0 r u)

    go : {b : Bool} → Test (c < r) (r ≤ c) b → ((w : State) → (stage3 n r c w).steps ≤ w.steps + (c - r) * r)
        → (elim b as (λ _. State) [ true ↦ u | false ↦ stage3 n r c (reduce_first r c u (pivot_row n c u)) ]).steps ≤ u.steps + (suc c - r) * r
    go (pass h) rest = omega arith
    go (fail h) rest =
        let e : suc c - r ≡ suc (c - r) = omega arith in
        rw e (omega (arith, suc-mul (c - r) r, first (pivot_row n c u), rest (reduce_first r c u (pivot_row n c u))))
