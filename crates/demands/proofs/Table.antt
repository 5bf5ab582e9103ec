-- Demand 1: section 4 of the rules, the table of refusals, row by row. For each check: when it finds no fault, and when it finds one at a place. (Order:
-- the first check of a call that finds a fault decides.)
use mathlib.Core.Path.{◌≡◌, refl, sym, ◌∙◌, ap}
use mathlib.Core.Logic.{◌≢◌, ◌↔◌}
use mathlib.Core.Bool.{Bool, true, false, not, ◌&&◌, true≢false, false≢true}
use mathlib.Core.List.{List}
use Prim.Native.Nat.{ℕ, ◌*◌, ◌<◌, ◌≤◌}
use native.Mathlib.Omega.{arith}
use lib.Dec.{leb, eqb}
use lib.ListN.{length}
use lib.IntN.{ℤ, pos, nat_abs}
use lib.Signed.{◌≤ℤ◌}
use borrow.Author.Tests.{eqb-true, eq-eqb}
use Rattle.whole.specs.Lists.{nth}
use Rattle.rules.specs.Limits.{sizes_in_range, modulus_in_range, entry_in_range, exponent_in_range, room_h, room_v, room_w, room_weights, room_coefficients, room_exponents}
use Rattle.rules.specs.Search.{none, found}
use Rattle.rules.specs.Problem.{Problem}
use Rattle.rules.specs.Stages.{run}
use Rattle.rules.specs.Formulas.{Formula, terms}
use Rattle.rules.specs.Calls.{Check, unless, unless_at, first_out, problem_fits, formula_fits}
use Rattle.rules.specs.Calls.{sizes_check, inputs_check, outputs_check, moduli_check, entries_check, exponents_check, range_check}
use Rattle.whole.proofs.Tests.{and_both}
use Rattle.theory.proofs.Run.{run_steps}
use Rattle.theory.proofs.Sequence.{written}
use Rattle.theory.proofs.Flag.{SomeBeyond, run_over}
use Rattle.scaling.specs.BuildPromise.{RoomToBuild}
use Rattle.formulas.specs.FormulaPromises.{RoomToTranslate}
use Rattle.theory.proofs.Accepted.{Sizes}
use Rattle.demands.proofs.Order.{first_out_exactly, none_out_exactly}
use Rattle.demands.proofs.Limits.{both, and_exactly, at_least, sizes_exactly, problem_fits_exactly, formula_fits_exactly, modulus_exactly, entry_exactly, exponent_exactly, flag_exactly}
use Rattle.demands.proofs.Limits.{build_room_exactly, translate_room_exactly}

-- a row of the table: no fault exactly when all is good, a fault at a place exactly when what is told of that place holds
pub record Row (check : Check) (number : ℕ) (Good : Type 0) (FaultAt : ℕ → Type 0) : Type 0 where
  pub its_number : check.number ≡ number
  pub passes_exactly : (check.fault ≡ none) ↔ Good
  pub given_exactly : (place : ℕ) → (check.fault ≡ found place) ↔ FaultAt place

-- a check that can find its fault at one place alone
abbrev pub NotAt : (at : ℕ) → Type 0 → ℕ → Type 0
NotAt at Good place = (¬ Good) × (place ≡ at)

pub row_at : (at number : ℕ) (test : Bool) (Good : Type 0) → (test ≡ true) ↔ Good
    → Row (record { number = number; fault = unless_at at test }) number Good (NotAt at Good)
row_at at number test Good = go test
  where
    go : (b : Bool) → (b ≡ true) ↔ Good → Row (record { number = number; fault = unless_at at b }) number Good (NotAt at Good)
    go true e = record {
      its_number = refl;
      passes_exactly = (λ _. e.0 refl, λ _. refl);
      given_exactly = λ place. (λ f. let z : ◌≡◌ {A = ℕ} 0 1 = cc in absurd (omega arith), λ x. absurd (x.0 (e.0 refl)));
    }
    go false e = record {
      its_number = refl;
      passes_exactly = (λ f. let z : ◌≡◌ {A = ℕ} 0 1 = cc in absurd (omega arith), λ g. absurd (false≢true (e.1 g)));
      given_exactly = λ place. (
        λ f. let p : place ≡ at = cc in (λ g. false≢true (e.1 g), p),
        λ x. ap found (sym x.1),
      );
    }

-- place 0
abbrev pub NotAt0 : Type 0 → ℕ → Type 0
NotAt0 = NotAt 0

-- the first of a list that is out of its limits
abbrev pub AllGood : (ℤ → Type 0) → List ℤ → Type 0
AllGood Good xs = (i : ℕ) → i < length xs → Good (nth xs i)

pub record FirstBad (Good : ℤ → Type 0) (xs : List ℤ) (i : ℕ) : Type 0 where
  pub within : i < length xs
  pub bad : ¬ Good (nth xs i)
  pub before : (j : ℕ) → j < i → Good (nth xs j)

row_first : (number : ℕ) (test : ℤ → Bool) (Good : ℤ → Type 0) → ((z : ℤ) → (test z ≡ true) ↔ Good z) → (xs : List ℤ)
    → Row (record { number = number; fault = first_out test xs }) number (AllGood Good xs) (FirstBad Good xs)
row_first number test Good e xs = record {
  its_number = refl;
  passes_exactly = (
    λ f i l. (e (nth xs i)).0 ((none_out_exactly test xs).0 f i l),
    λ g. (none_out_exactly test xs).1 (λ i l. (e (nth xs i)).1 (g i l)),
  );
  given_exactly = λ i. (
    λ f.
        let F = (first_out_exactly test xs i).0 f in
        record {
          within = F.within;
          bad = λ g. true≢false (sym ((e (nth xs i)).1 g) ∙ F.fails);
          before = λ j l. (e (nth xs j)).0 (F.before j l);
        },
    λ B. (first_out_exactly test xs i).1 (record {
      within = B.within;
      fails = fails (test (nth xs i)) (e (nth xs i)) B.bad;
      before = λ j l. (e (nth xs j)).1 (B.before j l);
    }),
  );
}
  where
    fails : {G : Type 0} (b : Bool) → (b ≡ true) ↔ G → ¬ G → b ≡ false
    fails true e d = absurd (d (e.0 refl))
    fails false e d = refl

-- ---- R4.1
pub row_1 : (P : Problem) → Row (sizes_check P) 1 (Sizes P.m P.n) (NotAt0 (Sizes P.m P.n))
row_1 P = row_at 0 1 (sizes_in_range P.m P.n) (Sizes P.m P.n) (sizes_exactly P.m P.n)

-- ---- R4.2
abbrev pub ProblemLengths : Problem → Type 0
ProblemLengths P = (length P.matrix ≡ P.m * P.n) × (length P.moduli ≡ P.m)

abbrev pub FormulaLengths : Problem → Formula → Type 0
FormulaLengths P f = ProblemLengths P × (length f.exponents ≡ terms f * P.n) × (terms f ≤ 64)

pub row_2_build : (P : Problem) → Row (inputs_check (problem_fits P)) 2 (ProblemLengths P) (NotAt0 (ProblemLengths P))
row_2_build P = row_at 0 2 (problem_fits P) (ProblemLengths P) (problem_fits_exactly P)

abbrev pub MonomialLengths : Problem → List ℤ → Type 0
MonomialLengths P es = ProblemLengths P × (length es ≡ P.n)

pub row_2_weigh : (P : Problem) (es : List ℤ)
    → Row (inputs_check (problem_fits P && eqb (length es) P.n)) 2 (MonomialLengths P es) (NotAt0 (MonomialLengths P es))
row_2_weigh P es =
    row_at 0 2 (problem_fits P && eqb (length es) P.n) (MonomialLengths P es)
    (and_exactly (problem_fits P) (eqb (length es) P.n) (problem_fits_exactly P) (eqb-true (length es) P.n, eq-eqb (length es) P.n))

pub formula-lengths_exactly : (P : Problem) (f : Formula) → (problem_fits P && formula_fits P f ≡ true) ↔ FormulaLengths P f
formula-lengths_exactly P f = (
  λ e. let a = and_both (problem_fits P) (formula_fits P f) e in
      ((problem_fits_exactly P).0 a.0, ((formula_fits_exactly P f).0 a.1).0, ((formula_fits_exactly P f).0 a.1).1),
  λ l. both ((problem_fits_exactly P).1 l.0) ((formula_fits_exactly P f).1 (l.1, l.2)),
)

pub row_2_translate : (P : Problem) (f : Formula)
    → Row (inputs_check (problem_fits P && formula_fits P f)) 2 (FormulaLengths P f) (NotAt0 (FormulaLengths P f))
row_2_translate P f = row_at 0 2 (problem_fits P && formula_fits P f) (FormulaLengths P f) (formula-lengths_exactly P f)

-- ---- R4.3
pub row_3_build : (h v w : List ℤ)
    → Row (outputs_check (leb room_h (length h) && leb room_v (length v) && leb room_w (length w))) 3 (RoomToBuild h v w) (NotAt0 (RoomToBuild h v w))
row_3_build h v w = row_at 0 3 (leb room_h (length h) && leb room_v (length v) && leb room_w (length w)) (RoomToBuild h v w) (build_room_exactly h v w)

pub row_3_weigh : (weights : List ℤ) → Row (outputs_check (leb room_weights (length weights))) 3 (8 ≤ length weights) (NotAt0 (8 ≤ length weights))
row_3_weigh weights = row_at 0 3 (leb room_weights (length weights)) (8 ≤ length weights) (at_least 8 (length weights))

pub row_3_translate : (kept out : List ℤ)
    → Row (outputs_check (leb room_coefficients (length kept) && leb room_exponents (length out))) 3 (RoomToTranslate kept out)
    (NotAt0 (RoomToTranslate kept out))
row_3_translate kept out =
    row_at 0 3 (leb room_coefficients (length kept) && leb room_exponents (length out)) (RoomToTranslate kept out) (translate_room_exactly kept out)

-- ---- R4.4, R4.5 and R4.6; the place is the first such
abbrev pub GoodModulus : ℤ → Type 0
GoodModulus z = (pos 0 ≤ℤ z) × (nat_abs z ≤ 1000)

abbrev pub GoodEntry : ℤ → Type 0
GoodEntry z = nat_abs z ≤ 1000

abbrev pub GoodExponent : ℤ → Type 0
GoodExponent z = nat_abs z ≤ 10_000

pub row_4 : (P : Problem) → Row (moduli_check P) 4 (AllGood GoodModulus P.moduli) (FirstBad GoodModulus P.moduli)
row_4 P = row_first 4 modulus_in_range GoodModulus modulus_exactly P.moduli

pub row_5 : (P : Problem) → Row (entries_check P) 5 (AllGood GoodEntry P.matrix) (FirstBad GoodEntry P.matrix)
row_5 P = row_first 5 entry_in_range GoodEntry entry_exactly P.matrix

pub row_6 : (es : List ℤ) → Row (exponents_check es) 6 (AllGood GoodExponent es) (FirstBad GoodExponent es)
row_6 es = row_first 6 exponent_in_range GoodExponent exponent_exactly es

-- ---- R4.7
pub row_7 : (P : Problem)
    → Row (range_check (run P)) 7 (¬ SomeBeyond (written (run_steps P))) (λ place. SomeBeyond (written (run_steps P)) × (place ≡ 0))
row_7 P = record {
  its_number = refl;
  passes_exactly = (
    λ f s. true≢false (sym ((run_over P).1 s) ∙ (flag_exactly (run P)).0 f),
    λ d. (flag_exactly (run P)).1 (clear (run P).state.over (λ o. d ((run_over P).0 o))),
  );
  given_exactly = λ place. (
    λ f. let x = set (run P).state.over f in ((run_over P).0 x.0, x.1),
    λ x. ap (λ (b : Bool). unless (not b)) ((run_over P).1 x.0) ∙ ap found (sym x.1),
  );
}
  where
    clear : (b : Bool) → b ≢ true → b ≡ false
    clear true d = absurd (d refl)
    clear false d = refl

    set : {place : ℕ} (b : Bool) → unless (not b) ≡ found place → (b ≡ true) × (place ≡ 0)
    set {place} true f = let p : place ≡ 0 = cc in (refl, p)
    set false f = let z : ◌≡◌ {A = ℕ} 0 1 = cc in absurd (omega arith)

-- ---- R4.8 and R4.9 are one check, whose number goes with the term: Order.all-terms_exactly and Order.term-decides_exactly
