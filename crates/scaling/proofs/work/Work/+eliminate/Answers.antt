-- `Work::eliminate`: one repetition, and then what the definition says of the state after it.
use Rattle.std.proofs.Common.{ℕ, ◌∙◌, arith}
use Rattle.std.proofs.lemmas.Int.{to_z-of_z}
use mir.Syntax.{w64}
use Rattle.rules.specs.Steps.{add_step}
use Rattle.scaling.specs.WorkState.{state_of, Tracks}
use Rattle.scaling.proofs.Repeating.{GoesOn, two-columns, q-fits, j-there, eliminated_over, eliminated-here, goes_on}
use Rattle.scaling.proofs.work.Work.+eliminate.Goals as goal
use Rattle.scaling.proofs.work.Work.+eliminate.Goals.{After-add-work, In-Some}

-- the state after the addition
added : (t : ℕ) (c : After-add-work t) → Tracks c.args.self.m c.args.self.cols c.add-work.result (add_step c.args.p c.args.j c.args.q (state_of c.args.self))
added t c = rw (to_z-of_z w64 c.args.q c.ranges.q) at c.add-work.ensures

pub add-work-requires-clause-two : goal.add-work-requires-clause-two
add-work-requires-clause-two t c = two-columns c.requires

pub add-work-requires-clause-q_bound : goal.add-work-requires-clause-q_bound
add-work-requires-clause-q_bound t c = rw (to_z-of_z w64 c.args.q c.ranges.q) (q-fits c.requires)

pub returns-then-work : goal.returns-then-work
returns-then-work t c = eliminated_over c.requires (added t (goal.at.returns-then-work t c).After-add-work) c.if-work.true

pub next_pivot-next-requires : goal.next_pivot-next-requires
next_pivot-next-requires t c =
    let tr = added t (goal.at.next_pivot-next-requires t c).After-add-work in omega (arith, j-there c.requires tr c.if-work.false c.row_of-x.ensures, c.row_of-x.ensures.whole)

pub returns-in_default : goal.returns-in_default
returns-in_default t c =
    eliminated-here c.requires (added t (goal.at.returns-in_default t c).After-add-work) c.if-work.false c.row_of-x.ensures c.next_pivot-next.ensures c.in_default.ensures

-- it goes on
more : (t : ℕ) (c : In-Some t) → GoesOn c.args.which c.args.row c.args.lo c.args.a c.args.self c.add-work.result c.row_of-x.result.now c.next_pivot-next.result c.in-Some.k
more t c = goes_on c.requires (added t (goal.at.quotient-r-requires t c).After-add-work) c.if-work.false c.row_of-x.ensures c.next_pivot-next.ensures c.in-Some.ensures

pub quotient-r-requires : goal.quotient-r-requires
quotient-r-requires t c = (more t c).divides

pub eliminate-self-requires : goal.eliminate-self-requires
eliminate-self-requires t c =
    let g = more t (goal.at.eliminate-self-requires t c).In-Some in
    (omega (arith, g.less, c.decreases), g.ready _ (to_z-of_z w64 _ (record { sfits = c.quotient-r.type_inv }) ∙ c.quotient-r.ensures))

pub returns : goal.returns
returns t c = (more t (goal.at.returns t c).In-Some).rest c.eliminate-self.result c.eliminate-self.ensures
