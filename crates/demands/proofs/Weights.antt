-- R8.1 to R8.3: what an accepted `weigh` leaves.
-- `promise` is what its `ensures` says; P is the problem and es the monomial's exponents as they were given; out is the lent output before the call and
-- out₁ after it.
use mathlib.Core.Path.{◌≡◌, sym, ◌∙◌, subst}
use mathlib.Core.Logic.{◌↔◌}
use mathlib.Core.Bool.{◌&&◌}
use mathlib.Core.List.{List, [], ◌∷◌}
use Prim.Native.Nat.{ℕ, ◌≤◌, ◌<◌}
use native.Mathlib.Omega.{arith}
use lib.Dec.{leb, eqb}
use lib.ListN.{length, drop, get_or-append}
use lib.IntN.{ℤ, pos, nat_abs}
use borrow.Author.Tests.{eqb-true, eq-eqb}
use Rattle.whole.specs.Lists.{nth}
use Rattle.whole.proofs.Lists.{length-tab, nth-tab}
use Rattle.rules.specs.Limits.{room_weights}
use Rattle.rules.specs.Problem.{Problem, WellFormed}
use Rattle.rules.specs.Formulas.{weight, Free}
use Rattle.rules.specs.Calls.{Check, Verdict, taken, problem_fits, exponents_check, weigh_verdict, weigh_of, weighed, weights, checks_to5}
use Rattle.theory.proofs.Accepted.{AllPass, exponents-small}
use Rattle.formulas.specs.declared.WeighAnswer.{WeighAnswer}
use Rattle.formulas.specs.FormulaPromises.{Weighs}
use Rattle.demands.proofs.Order.{all_pass-append, taken_exactly}
use Rattle.demands.proofs.Limits.{and_exactly, at_least, five_exactly}
use Rattle.demands.proofs.Table.{row_6}
use Rattle.demands.proofs.Refusals.{checks_of_weigh, weigh_ordered}
use Rattle.demands.proofs.Buffers.{KeepsRest, filled_keeps}

-- a well-formed problem, one exponent for each quantity, each from -10,000 to 10,000, and room for eight weights
pub record Asked (P : Problem) (es out : List ℤ) : Type 0 where
  pub well_formed : WellFormed P
  pub fits : length es ≡ P.n
  pub small : (i : ℕ) → nat_abs (nth es i) ≤ 10_000
  pub room : 8 ≤ length out

-- the first m entries are the weights, and those after them are untouched
pub record WeightsIn (P : Problem) (es out out₁ : List ℤ) : Type 0 where
  pub asked : Asked P es out
  pub entries : (i : ℕ) → i < P.m → nth out₁ i ≡ weight P (nth es) i
  pub rest : KeepsRest P.m out out₁

module _ (P : Problem) (es out : List ℤ) where
  abbrev five : List Check
  five = checks_to5 P (problem_fits P && eqb (length es) P.n) (leb room_weights (length out))

  five-pass_exactly : AllPass five ↔ (WellFormed P × (length es ≡ P.n) × (8 ≤ length out))
  five-pass_exactly =
      five_exactly P (problem_fits P && eqb (length es) P.n) (leb room_weights (length out))
      (and_exactly (problem_fits P) (eqb (length es) P.n) (λ e. e, λ e. e) (eqb-true (length es) P.n, eq-eqb (length es) P.n))
      (at_least 8 (length out))

  all_pass_exactly : AllPass (checks_of_weigh P es out) ↔ Asked P es out
  all_pass_exactly = (
    λ a.
        let b = (all_pass-append five (exponents_check es ∷ [])).0 a in
        let x = five-pass_exactly.0 b.0 in
        record { well_formed = x.0; fits = x.1; small = exponents-small es b.1.0; room = x.2 },
    λ x.
        let a = five-pass_exactly.1 (x.well_formed, x.fits, x.room) in
        (all_pass-append five (exponents_check es ∷ [])).1 (a, ((row_6 es).passes_exactly.1 (λ i _. x.small i), tt)),
  )

module _ (P : Problem) (es out : List ℤ) (r : WeighAnswer) (out₁ : List ℤ) (promise : Weighs (weigh_of P es out) r out₁) where
  pub weigh_accepted_exactly : (r.number ≡ 0) ↔ Asked P es out
  weigh_accepted_exactly =
      let D = weigh_ordered P es out r out₁ promise in
      (λ e. (all_pass_exactly P es out).0 (D.accepts_exactly.0 e), λ x. D.accepts_exactly.1 ((all_pass_exactly P es out).1 x))

  as_taken : r.number ≡ 0 → Weighs (weighed P es out taken) r out₁
  unfolding weigh_of weigh_verdict
  as_taken e =
      let a = (weigh_ordered P es out r out₁ promise).accepts_exactly.0 e in
      subst (λ (x : Verdict). Weighs (weighed P es out x) r out₁) ((taken_exactly (checks_of_weigh P es out)).1 a) promise

  pub weights_in : r.number ≡ 0 → WeightsIn P es out out₁
  unfolding weights
  weights_in e =
      let B = as_taken e in
      let A = weigh_accepted_exactly.0 e in
      let l = length-tab P.m (weight P (nth es)) in
      record {
        asked = A;
        entries = λ i a. rw B.weights (
            get_or-append (weights P (nth es)) (drop (length (weights P (nth es))) out) (pos 0) i (omega (arith, l))
            ∙ nth-tab P.m (weight P (nth es)) i (pos 0) a);
        rest = rw B.weights (filled_keeps P.m (weights P (nth es)) out l (omega (arith, A.room, A.well_formed.m-high)));
      }

  -- R8.3, by the weights that are left
  pub free_by_weights : r.number ≡ 0 → Free P (nth es) ↔ ((i : ℕ) → i < P.m → nth out₁ i ≡ pos 0)
  free_by_weights e =
      let x = (weights_in e).entries in
      (λ f i a. x i a ∙ f.weights i a, λ z. record { weights = λ i a. sym (x i a) ∙ z i a })
