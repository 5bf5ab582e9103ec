-- `Work::reduce_all`: a turn leaves column c as it is, where it is in range, or adds to it what brings it there.
use Rattle.std.proofs.Common.{◌≡◌, ◌<◌, false, ap, neg_ℤ, arith, to_z, of_z, ◌∙◌}
use Rattle.std.proofs.lemmas.Int.{ints, to_z-of_z}
use mir.Syntax.{w64}
use Rattle.whole.specs.Division.{floor_z}
use Rattle.whole.specs.Lists.{nth}
use Rattle.rules.specs.Limits.{is_zero}
use Rattle.scaling.specs.Rows.{Pivot}
use Rattle.scaling.proofs.Reducing.{not-zero, pivot-divides, q-small, reduced_already, reduced_now}
use Rattle.scaling.proofs.Settling.{reducing_start, reducing_pivot, reducing_next, reducing_over, reducing_end}
use Rattle.scaling.proofs.work.Work.reduce_all.Goals as goal
use Rattle.scaling.proofs.work.Work.reduce_all.Goals.{After-row_of, After-floor_quotient-q, then-not-in_range+else-self, else-not-in_range}

pub loop-c-init : goal.loop-c-init
loop-c-init c = reducing_start c.requires.pivot c.requires.apart

-- ---- a turn: the pivot's column, column c, and what brings it into range
pivot : (c : After-row_of) → Pivot c.args.which c.args.row c.args.b c.loop-c.self 1
pivot c = reducing_pivot c.requires.pivot c.requires.apart c.loop-c.invariant c.loop-c-test.true

column : (c : After-row_of) → c.loop-c.c < c.loop-c.self.cols
column c = omega (arith, c.requires.apart.upto)

q_is : (c : After-floor_quotient-q) → to_z w64 (of_z w64 c.floor_quotient-q.result) ≡ neg_ℤ (floor_z (nth c.row_of.result.now c.loop-c.c) (nth c.row_of.result.now c.args.b))
q_is c = to_z-of_z w64 _ (record { sfits = c.floor_quotient-q.type_inv }) ∙ c.floor_quotient-q.ensures

some : (c : After-floor_quotient-q) → (of_z w64 c.floor_quotient-q.result ≡ 0 → ⊥) → is_zero (to_z w64 (of_z w64 c.floor_quotient-q.result)) ≡ false
some c d = not-zero (to_z w64 (of_z w64 c.floor_quotient-q.result)) (λ e. d (omega (arith, ints)))

pub floor_quotient-q-requires : goal.floor_quotient-q-requires
floor_quotient-q-requires c = pivot-divides c.row_of.ensures (pivot c) c.loop-c.c (column c)

pub add-self-requires-clause-q_bound : goal.add-self-requires-clause-q_bound
add-self-requires-clause-q_bound c =
    let t = (goal.at.add-self-requires-clause-q_bound c).After-row_of in
    q-small c.row_of.ensures (pivot t) c.loop-c.c (column t) _ (q_is (goal.at.add-self-requires-clause-q_bound c).After-floor_quotient-q)

pub returns-then-self : goal.returns-then-self
returns-then-self c =
    let t = (goal.at.returns-then-self c).After-row_of in
    reducing_over c.requires.pivot c.requires.apart c.loop-c.invariant c.loop-c-test.true
    (reduced_now c.row_of.ensures (pivot t) c.loop-c.c (column t) _ (q_is (goal.at.returns-then-self c).After-floor_quotient-q)
    (some (goal.at.returns-then-self c).After-floor_quotient-q c.if-not-in_range.true) (c.requires.apart.apart c.loop-c.c c.loop-c.auto.c c.loop-c-test.true) c.add-self.ensures) c.if-self.true

pub loop-c-preserved : goal.loop-c-preserved
loop-c-preserved c =
    let t = (goal.at.loop-c-preserved c).After-row_of in
    let e = q_is (goal.at.loop-c-preserved c).After-floor_quotient-q in
    elim c.if-not-in_range.branch [
      | then-not-in_range+else-self w ↦
          rw w.self-is (reducing_next c.requires.pivot c.requires.apart c.loop-c.invariant c.loop-c-test.true
          (reduced_now c.row_of.ensures (pivot t) c.loop-c.c (column t) _ e (some (goal.at.loop-c-preserved c).After-floor_quotient-q w.if-not-in_range.true)
          (c.requires.apart.apart c.loop-c.c c.loop-c.auto.c c.loop-c-test.true) w.add-self.ensures) w.if-self.false)
      | else-not-in_range w ↦
          rw w.self-is (reducing_next c.requires.pivot c.requires.apart c.loop-c.invariant c.loop-c-test.true
          (reduced_already c.row_of.ensures (pivot t) c.loop-c.c (column t) _ e (ap (λ x. is_zero (to_z w64 x)) w.if-not-in_range.false)) c.loop-c.invariant.clear)
    ]

pub returns : goal.returns
returns c = reducing_end c.requires.pivot c.requires.apart c.loop-c.invariant (omega arith)
