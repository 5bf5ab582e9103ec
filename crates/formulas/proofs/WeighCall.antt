-- The call `weigh`: from the answer of checks 1 to 6, a refusal as it stands, or the weights.
use mathlib.Core.Path.{◌≡◌, refl, sym, ◌∙◌, ap}
use mathlib.Core.Bool.{Bool, ◌&&◌, and-true}
use mathlib.Core.List.{List, ◌++◌}
use Prim.Native.Nat.{ℕ}
use native.Mathlib.Nat.{one-mul}
use native.Mathlib.Omega.{arith}
use lib.Dec.{leb, eqb}
use lib.ListN.{length, take, drop}
use lib.Seq.{length-take-le}
use lib.IntN.{ℤ}
use borrow.Author.Tests.{eqb-true, leb-true}
use Rattle.std.proofs.Common.{Result, Ok, Err}
use Rattle.std.proofs.lemmas.Result.{IfOk-at_ok}
use Rattle.whole.specs.Lists.{nth, tab}
use Rattle.whole.proofs.Lists.{length-tab}
use Rattle.rules.specs.Limits.{most_terms, room_weights}
use Rattle.rules.specs.Problem.{Problem}
use Rattle.rules.specs.Formulas.{weight}
use Rattle.rules.specs.Calls.{Verdict, verdict, problem_fits, weighed, weigh_of, weigh_verdict, weights, filled}
use Rattle.theory.proofs.Accepted.{exponents-small}
use Rattle.checks.specs.declared.Refusal.{Refusal}
use Rattle.checks.specs.declared.lent.Checked.{Checked}
use Rattle.checks.specs.Refusals.{told}
use Rattle.checks.specs.Checks.{given, problem_of, terms_fit, TellsTo6}
use Rattle.checks.proofs.Verdicts.{to6, formula-passed, exponents-passed}
use Rattle.formulas.specs.Terms.{Monomial}
use Rattle.formulas.specs.FormulaPromises.{Weighs, weigh_answer}
use Rattle.formulas.proofs.Written.{tab-whole}

-- a monomial is one term
one_term : (n exponents : ℕ) → terms_fit n 1 exponents ≡ eqb exponents n
one_term n k = ap (λ (x : ℕ). eqb k x && leb 1 most_terms) (one-mul n) ∙ and-true (eqb k n)

module _ {m n : ℕ} {matrix moduli es : List ℤ} {r : Result Checked Refusal} (out : List ℤ)
    (t : TellsTo6 m n matrix moduli 1 es (leb room_weights (length out)) r) where
  abbrev P : Problem
  P = given m n matrix moduli

  weigh_is : {x : Verdict} → verdict (to6 m n matrix moduli 1 es (leb room_weights (length out))) ≡ x → weigh_of P es out ≡ weighed P es out x
  unfolding weigh_of weigh_verdict
  weigh_is e = ap (λ (b : Bool). weighed P es out (weigh_verdict P es (problem_fits P && b) (leb room_weights (length out)))) (sym (one_term n (length es)))
      ∙ ap (weighed P es out) e

  pub weigh_refused : {e : Refusal} → r ≡ Err e → Weighs (weigh_of P es out) (weigh_answer (Err e)) out
  weigh_refused d = rw (weigh_is (sym t.says ∙ ap told d)) (record { number = refl; place = refl; weights = refl })

  module _ {p : Checked} (d : r ≡ Ok p) where
    same : problem_of p ≡ P
    same = IfOk-at_ok (λ p. problem_of p ≡ P) d t.same

    pub monomial : Monomial p.n es
    monomial = record {
      long = eqb-true (length es) n (sym (one_term n (length es)) ∙ (formula-passed t d).also) ∙ sym (ap (λ Q. Q.n) same);
      small = exponents-small es (exponents-passed t d);
    }

    rows : length p.moduli.now ≡ length moduli
    rows = ap (λ Q. Q.m) (same ∙ (formula-passed t d).same)

    long : length (weights (problem_of p) (nth es)) ≡ length moduli
    unfolding weights
    long = length-tab (length p.moduli.now) (weight (problem_of p) (nth es)) ∙ rows

    fits : length (take (length moduli) out) ≡ length moduli
    fits =
        let a = formula-passed t d in
        length-take-le (length moduli) out (omega (arith, a.well_formed.m-high, leb-true room_weights (length out) a.room))

    -- once every row is written
    pub all_written : (k : ℕ) {xs : List ℤ} → k ≡ length (take (length moduli) out)
        → xs ≡ tab k (weight (problem_of p) (nth es)) ++ drop k (take (length moduli) out) → xs ≡ weights (problem_of p) (nth es)
    unfolding weights
    all_written k e h =
        h ∙ tab-whole k (weight (problem_of p) (nth es)) (take (length moduli) out) (omega arith)
        ∙ ap (λ i. tab i (weight (problem_of p) (nth es))) (e ∙ fits ∙ sym rows)

    pub weigh_passed : {out₁ : List ℤ} → out₁ ≡ weights (problem_of p) (nth es)
        → Weighs (weigh_of P es out) (weigh_answer (Ok tt)) (out₁ ++ drop (length moduli) out)
    weigh_passed w =
        rw (weigh_is (sym t.says ∙ ap told d)) (record {
          number = refl;
          place = refl;
          weights = rw (w, ← long) (ap (λ Q. filled (weights Q (nth es)) out) same);
        })
