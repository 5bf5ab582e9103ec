-- What an answer of the code says of a verdict, and what holds once checks 1 to 5, and 6, are passed.
use mathlib.Core.Path.{◌≡◌, refl, sym, ap, subst, ◌∙◌}
use mathlib.Core.Bool.{Bool, true, ◌&&◌}
use mathlib.Core.List.{List, [], ◌∷◌, ◌++◌}
use Prim.Native.Nat.{ℕ}
use lib.ListN.{length}
use Rattle.std.proofs.Common.{Result, Ok, Err}
use lib.IntN.{ℤ}
use Rattle.whole.proofs.Tests.{and_both}
use Rattle.rules.specs.Limits.{sizes_in_range}
use Rattle.rules.specs.Search.{none, found}
use Rattle.rules.specs.Problem.{WellFormed}
use Rattle.rules.specs.Calls.{Check, Verdict, taken, refused, verdict, problem_fits, exponents_check, checks_to5}
use Rattle.theory.proofs.Refusals.{goes_on, stays}
use Rattle.theory.proofs.Accepted.{all_pass, unless-none, lengths-passed, problem-accepted}
use Rattle.checks.specs.Lent.{lent_problem}
use Rattle.checks.specs.Refusals.{number_of, place_of, refusal, told}
use Rattle.checks.specs.declared.Refusal.{Refusal}
use Rattle.checks.specs.declared.lent.Checked.{Checked}
use Rattle.checks.specs.Checks.{given, terms_fit, TellsTo5, TellsTo6}

-- ---- a check with a fault decides, one without leaves it to the next
pub refuses-here : (c : Check) (cs : List Check) (place : ℕ) → c.fault ≡ found place → refused c.number place ≡ verdict (c ∷ cs)
refuses-here c cs place e = rw e refl

pub says-next : {v : Verdict} (c : Check) (cs : List Check) → c.fault ≡ none → v ≡ verdict cs → v ≡ verdict (c ∷ cs)
says-next c cs e x = rw e x

-- ---- 1 to 5, of a problem as it was given
pub record Passed (m n : ℕ) (matrix moduli : List ℤ) (more outputs : Bool) : Type 0 where
  pub well_formed : WellFormed (lent_problem n matrix moduli)
  pub same : given m n matrix moduli ≡ lent_problem n matrix moduli
  pub also : more ≡ true
  pub room : outputs ≡ true

-- the checks, and what they let through
abbrev pub to5 : (m n : ℕ) (matrix moduli : List ℤ) (more outputs : Bool) → List Check
to5 m n matrix moduli more outputs = checks_to5 (given m n matrix moduli) (problem_fits (given m n matrix moduli) && more) outputs

pub five-passed : (m n : ℕ) (matrix moduli : List ℤ) (more outputs : Bool) (rest : List Check) → verdict (to5 m n matrix moduli more outputs ++ rest) ≡ taken
    → Passed m n matrix moduli more outputs
five-passed m n matrix moduli more outputs rest e =
    let P = given m n matrix moduli in
    let a = all_pass (to5 m n matrix moduli more outputs ++ rest) e in
    let inputs = and_both (problem_fits P) more (unless-none (problem_fits P && more) a.1.0) in
    let same : P ≡ lent_problem n matrix moduli = ap (λ k. given k n matrix moduli) (sym (lengths-passed P inputs.0).1) in
    record {
      well_formed = subst WellFormed same
          (problem-accepted P (unless-none (sizes_in_range m n) a.0) inputs.0 a.1.1.1.0 a.1.1.1.1.0);
      same = same;
      also = inputs.1;
      room = unless-none outputs a.1.1.0;
    }

-- the problem itself passes, whatever else was asked of inputs and outputs
problem-alone : (m n : ℕ) (matrix moduli : List ℤ) (more outputs : Bool) (rest : List Check) → verdict (to5 m n matrix moduli more outputs ++ rest) ≡ taken
    → verdict (checks_to5 (given m n matrix moduli) (problem_fits (given m n matrix moduli)) true) ≡ taken
problem-alone m n matrix moduli more outputs rest e =
    let P = given m n matrix moduli in
    let a = all_pass (to5 m n matrix moduli more outputs ++ rest) e in
    let inputs = and_both (problem_fits P) more (unless-none (problem_fits P && more) a.1.0) in
    rw (a.0, inputs.0, a.1.1.1.0, a.1.1.1.1.0)

-- by the answer of `problem`: whatever checks follow, a refusal stands, and what is taken is left to them
module _ {m n : ℕ} {matrix moduli : List ℤ} {more outputs : Bool} {r : Result Checked Refusal} (t : TellsTo5 m n matrix moduli more outputs r) where
  pub problem-refused : {e : Refusal} → r ≡ Err e → (rest : List Check) → verdict (to5 m n matrix moduli more outputs ++ rest) ≡ refusal e
  problem-refused {e} d rest = stays (to5 m n matrix moduli more outputs) rest (number_of e) (place_of e) (sym t.says ∙ ap told d)

  module _ {p : Checked} (d : r ≡ Ok p) where
    five-taken : verdict (to5 m n matrix moduli more outputs) ≡ taken
    five-taken = sym t.says ∙ ap told d

    pub problem-passed : Passed m n matrix moduli more outputs
    problem-passed = five-passed m n matrix moduli more outputs [] five-taken

    pub past_5 : (rest : List Check) → verdict (to5 m n matrix moduli more outputs ++ rest) ≡ verdict rest
    past_5 rest = goes_on (to5 m n matrix moduli more outputs) rest five-taken

-- ---- 1 to 6
abbrev pub to6 : (m n : ℕ) (matrix moduli : List ℤ) (terms : ℕ) (es : List ℤ) (outputs : Bool) → List Check
to6 m n matrix moduli terms es outputs = to5 m n matrix moduli (terms_fit n terms (length es)) outputs ++ exponents_check es ∷ []

-- by the answer of `formula`
module _ {m n : ℕ} {matrix moduli : List ℤ} {terms : ℕ} {es : List ℤ} {outputs : Bool} {r : Result Checked Refusal}
    (t : TellsTo6 m n matrix moduli terms es outputs r) where
  pub formula-refused : {e : Refusal} → r ≡ Err e → (rest : List Check) → verdict (to6 m n matrix moduli terms es outputs ++ rest) ≡ refusal e
  formula-refused {e} d rest = stays (to6 m n matrix moduli terms es outputs) rest (number_of e) (place_of e) (sym t.says ∙ ap told d)

  module _ {p : Checked} (d : r ≡ Ok p) where
    six-taken : verdict (to6 m n matrix moduli terms es outputs) ≡ taken
    six-taken = sym t.says ∙ ap told d

    pub past_6 : (rest : List Check) → verdict (to6 m n matrix moduli terms es outputs ++ rest) ≡ verdict rest
    past_6 rest = goes_on (to6 m n matrix moduli terms es outputs) rest six-taken

    pub formula-passed : Passed m n matrix moduli (terms_fit n terms (length es)) outputs
    formula-passed = five-passed m n matrix moduli (terms_fit n terms (length es)) outputs (exponents_check es ∷ []) six-taken

    pub problem-passed-alone : verdict (checks_to5 (given m n matrix moduli) (problem_fits (given m n matrix moduli)) true) ≡ taken
    problem-passed-alone = problem-alone m n matrix moduli (terms_fit n terms (length es)) outputs (exponents_check es ∷ []) six-taken

    pub exponents-passed : (exponents_check es).fault ≡ none
    exponents-passed = (all_pass (to6 m n matrix moduli terms es outputs) six-taken).1.1.1.1.1.0
