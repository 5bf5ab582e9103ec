use Rattle.std.proofs.Common.{◌≡◌, ◌+◌, ◌-◌, ◌<◌, ℕ, false, arith, sym, subst, ◌∙◌, w64, Some}
use Rattle.std.proofs.lemmas.Int.{to_z-of_z}
use Rattle.rules.specs.Stages.{bring, make_positive}
use Rattle.scaling.specs.declared.work.Table.{Table}
use Rattle.scaling.specs.declared.work.Work.{Work}
use Rattle.scaling.specs.WorkState.{state_of, Same, table_for}
use Rattle.scaling.specs.Scan.{Filled}
use Rattle.scaling.specs.Rows.{Eliminated, Pivot, AllReduced, RowDone}
use Rattle.scaling.proofs.Repeating.{begun-done, begun-divides, begun-ready}
use Rattle.scaling.proofs.Reducing.{bring_same, bring_swaps, negative_same, positive_same}
use Rattle.scaling.proofs.Settling.{brought_pivot, signed-pivot, pivot_divisors, reduced_rest, reduced_none, settled}
use Rattle.scaling.proofs.Rowing.{row-p, row-begun, row-refused, row-pivot, some-left, row_done}
use Rattle.scaling.proofs.work.Work.row.Goals as goal
use Rattle.scaling.proofs.work.Work.row.Goals.{in-Some+else-self, in_default, then-left-b, else-left-b, then-negative, else-negative}
use Rattle.scaling.proofs.work.Work.row.Goals.{Joined-other, After-unwrap-left, Joined-left-b, Joined-negative, After-row_of-3}

-- ---- what is known of the state after each part: after (A), with the column left in column b, with its pivot positive
record Swept (which : Table) (k lo a : ℕ) (s w : Work) : Type 0 where
  done : Eliminated which k lo a s w
  clear : w.over ≡ false

abbrev Brought : (left b : ℕ) (w u : Work) → Type 0
Brought left b w u = Same w.m w.cols u (bring left b (state_of w))

abbrev Signed : (which : Table) (k b : ℕ) (u v : Work) → Type 0
Signed which k b u v = Same u.m u.cols v (make_positive (table_for which) k b (state_of u))

-- ---- (A)
pub quotient-q-requires : goal.quotient-q-requires
quotient-q-requires c = begun-divides (row-begun c.requires) c.row_of-x.ensures c.in-Some.ensures

pub eliminate-self-requires : goal.eliminate-self-requires
eliminate-self-requires c =
    begun-ready (row-begun c.requires) c.row_of-x.ensures c.in-Some.ensures _
    (to_z-of_z w64 _ (record { sfits = c.quotient-q.type_inv }) ∙ c.quotient-q.ensures)

pub returns-then-self : goal.returns-then-self
returns-then-self c = row-refused c.requires c.eliminate-self.ensures c.if-self.true

swept : (c : Joined-other) → Swept c.args.which c.args.k c.args.lo c.args.a c.args.self c.match-other.self
swept c = elim c.match-other.branch [
  | in-Some+else-self w ↦ rw w.self-is record { done = w.eliminate-self.ensures; clear = w.if-self.false }
  | in_default w ↦ rw w.self-is record { done = begun-done (row-begun c.requires) c.row_of-x.ensures w.in_default.ensures; clear = c.requires.clear }
]

-- ---- (B): the column left becomes column b
pub overflow_sub-b : goal.overflow_sub-b
overflow_sub-b c = omega (arith, row-p c.requires)

pub unwrap-left-requires : goal.unwrap-left-requires
unwrap-left-requires c =
    let w = swept (goal.at.unwrap-left-requires c).Joined-other in some-left c.requires w.done w.clear c.row_of.ensures _ c.filled.ensures

module _ (c : After-unwrap-left) (w : Swept c.args.which c.args.k c.args.lo c.args.a c.args.self c.match-other.self) where
  found_left : Filled c.row_of.result.now c.args.lo c.args.a (Some c.unwrap-left.result)
  found_left = rw c.unwrap-left.ensures at c.filled.ensures

  pivot-left : Pivot c.args.which c.args.k c.unwrap-left.result c.match-other.self (c.match-other.self.cols + 2)
  pivot-left = row-pivot c.requires w.done w.clear c.row_of.ensures found_left

  column : c.args.a - 1 < c.match-other.self.cols
  column = omega (arith, row-p c.requires, c.requires.a_in, w.done.tracks.cols)

pub swap-self-requires : goal.swap-self-requires
swap-self-requires c =
    let e = goal.at.swap-self-requires c in
    let w = swept e.Joined-other in
    let p = pivot-left e.After-unwrap-left w in
    record { clear = w.clear; i_in = p.b_in; j_in = column e.After-unwrap-left w; apart = c.if-left-b.true; room = omega (arith, p.room) }

brought : (c : Joined-left-b) → c.match-other.self.over ≡ false → Brought c.unwrap-left.result (c.args.a - 1) c.match-other.self c.if-left-b.self
brought c o =
    let l = c.unwrap-left.result in let b = c.args.a - 1 in
    elim c.if-left-b.branch [
      | then-left-b x ↦ rw x.self-is (rw (bring_swaps l b (state_of c.match-other.self) x.if-left-b.true) x.swap-self.ensures)
      | else-left-b x ↦ rw x.self-is (bring_same c.match-other.self o l b x.if-left-b.false)
    ]

-- ---- its sign
pub negate-self-requires : goal.negate-self-requires
negate-self-requires c =
    let e = goal.at.negate-self-requires c in
    let w = swept e.Joined-other in
    let t = e.After-unwrap-left in
    let p = brought_pivot (pivot-left t w) (c.args.a - 1) (column t w) (brought e.Joined-left-b w.clear) in
    record { clear = p.clear; i_in = p.b_in; room = omega (arith, p.room) }

signed : (c : Joined-negative) → c.args.a - 1 < c.if-left-b.self.cols → c.if-left-b.self.over ≡ false
    → Signed c.args.which c.args.k (c.args.a - 1) c.if-left-b.self c.if-negative.self
signed c h o = elim c.if-negative.branch [
  | then-negative x ↦ rw x.self-is (negative_same c.row_of-2.ensures (c.args.a - 1) h (sym c.negative.ensures ∙ x.if-negative.true) x.negate-self.ensures)
  | else-negative x ↦ rw x.self-is (positive_same c.row_of-2.ensures (c.args.a - 1) h o (sym c.negative.ensures ∙ x.if-negative.false))
]

-- ---- the columns after it
record Readied (which : Table) (k b left : ℕ) (w u v : Work) : Type 0 where
  from : Pivot which k left w (w.cols + 2)
  in_row : b < w.cols
  same : Brought left b w u
  next : Signed which k b u v
  pivot : Pivot which k b v v.cols

readied : (c : After-row_of-3)
    → Readied c.args.which c.args.k (c.args.a - 1) c.unwrap-left.result c.match-other.self c.if-left-b.self c.if-negative.self
readied c =
    let e = goal.at.unreduced-requires c in
    let w = swept e.Joined-other in
    let t = e.After-unwrap-left in
    let u = brought e.Joined-left-b w.clear in
    let p = brought_pivot (pivot-left t w) (c.args.a - 1) (column t w) u in
    let v = signed e.Joined-negative p.b_in p.clear in
    record { from = pivot-left t w; in_row = column t w; same = u; next = v; pivot = signed-pivot (pivot-left t w) (c.args.a - 1) (column t w) u v }

pub unreduced-requires : goal.unreduced-requires
unreduced-requires c = let g = readied c in pivot_divisors c.row_of-3.ensures g.pivot (omega arith)

pub reduce_all-self-requires-clause-pivot : goal.reduce_all-self-requires-clause-pivot
reduce_all-self-requires-clause-pivot c = (readied (goal.at.reduce_all-self-requires-clause-pivot c).After-row_of-3).pivot

done : (c : After-row_of-3) → {r : Work} → AllReduced c.args.which c.args.k (c.args.a - 1) c.args.a c.if-negative.self.cols c.if-negative.self r
    → RowDone c.args.which c.args.k c.args.lo c.args.a c.args.self r
done c {r} x =
    let e = goal.at.unreduced-requires c in
    let w = swept e.Joined-other in
    let g = readied c in
    let next : c.args.a ≡ c.args.a - 1 + 1 = omega (arith, row-p c.requires) in
    row_done c.requires w.done w.clear c.row_of.ensures (found_left e.After-unwrap-left w)
    (settled g.from (c.args.a - 1) g.in_row g.same g.next
    (subst (λ (lo : ℕ). AllReduced c.args.which c.args.k (c.args.a - 1) lo c.if-negative.self.cols c.if-negative.self r) next x))

pub returns-in-Some-unreduced : goal.returns-in-Some-unreduced
returns-in-Some-unreduced c =
    let t = (goal.at.returns-in-Some-unreduced c).After-row_of-3 in
    done t (reduced_rest c.row_of-3.ensures (readied t).pivot (omega arith) c.in-Some-unreduced.ensures c.reduce_all-self.ensures)

pub returns-in_default-unreduced : goal.returns-in_default-unreduced
returns-in_default-unreduced c =
    let t = (goal.at.returns-in_default-unreduced c).After-row_of-3 in
    let g = readied t in
    done t (reduced_none c.row_of-3.ensures g.pivot (omega arith) (omega (arith, g.pivot.b_in)) c.in_default-unreduced.ensures)
