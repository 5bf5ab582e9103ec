-- What an accepted call knows of its input: every check has passed, so the limits of the rules hold, and every term of a formula is free and
-- translates within M.
use mathlib.Core.Path.{◌≡◌, refl}
use mathlib.Core.Bool.{Bool, true, false, not, ◌&&◌}
use mathlib.Core.List.{List, [], ◌∷◌, ◌++◌}
use Prim.Native.Nat.{ℕ, ◌*◌, ◌≤◌, ◌<◌}
use native.Mathlib.Omega.{arith}
use native.Mathlib.Decide.{dec_lt}
use lib.Dec.{leb, eqb}
use lib.ListN.{length, get_or-eq_default}
use lib.IntN.{ℤ, pos, nat_abs}
use lib.Signed.{◌≤ℤ◌}
use borrow.Author.Tests.{leb-true, eqb-true, not-false, not-true}
use Rattle.whole.specs.Lists.{nth}
use Rattle.whole.proofs.Tests.{lt?, passed, failed, and_both, or-neither}
use Rattle.whole.proofs.Order.{zarith, parts}
use Rattle.rules.specs.Limits.{M, beyond, sizes_in_range, modulus_in_range, entry_in_range, exponent_in_range, most_terms}
use Rattle.rules.specs.Search.{Found, none, found, first}
use Rattle.rules.specs.Problem.{Problem, modulus, WellFormed}
use Rattle.rules.specs.Stages.{Run, run}
use Rattle.rules.specs.Formulas.{is_none, is_free, passes, Free, d, translated, Formula, terms, term, WellFormedFormula}
use Rattle.rules.specs.Calls.{Check, taken, refused, verdict, unless, first_out, terms_fault, term_refused, problem_fits, formula_fits, checks_to5}
use Rattle.rules.specs.Calls.{moduli_check, entries_check, exponents_check, range_check, terms_check}
use Rattle.rules.specs.Calls.{build_verdict, translate_verdict}
use Rattle.theory.proofs.Weights.{free_of_is_free}
use Rattle.theory.proofs.Limits.{between, small}
use Rattle.theory.proofs.Search.{Nowhere, none?, first_nowhere}

-- ---- the checks one after the other
abbrev pub AllPass : List Check → Type 0
AllPass [] = Unit {0}
AllPass (c ∷ cs) = (c.fault ≡ none) × AllPass cs

pub all_pass : (cs : List Check) → verdict cs ≡ taken → AllPass cs
all_pass [] e = tt
all_pass (c ∷ cs) e = go c.fault (all_pass cs) e
  where
    go : (x : Found) → (verdict cs ≡ taken → AllPass cs)
        → elim x [ none ↦ verdict cs | found place ↦ refused c.number place ] ≡ taken → (x ≡ none) × AllPass cs
    go none rest e = (refl, rest e)
    go (found place) rest e = let z : ◌≡◌ {A = ℕ} 0 1 = cc in absurd (omega arith)

pub taken_of_all : (cs : List Check) → AllPass cs → verdict cs ≡ taken
taken_of_all [] a = refl
taken_of_all (c ∷ cs) a = rw a.0 (taken_of_all cs a.1)

pub unless-none : (b : Bool) → unless b ≡ none → b ≡ true
unless-none true e = refl
unless-none false e = let z : ◌≡◌ {A = ℕ} 0 1 = cc in absurd (omega arith)

-- all of a list passes a test; past its end nth is 0
pub none_out : (good : ℤ → Bool) → good (pos 0) ≡ true → (xs : List ℤ) → first_out good xs ≡ none → (i : ℕ) → good (nth xs i) ≡ true
unfolding first_out
none_out good z xs e i = go (dec_lt i (length xs))
  where
    go : Dec (i < length xs) → good (nth xs i) ≡ true
    go (yes h) = not-false (good (nth xs i)) (first_nowhere (λ i. not (good (nth xs i))) 0 (length xs) e i (omega arith))
    go (no h) =
        let l : length xs ≤ i = omega arith in
        rw (get_or-eq_default xs (pos 0) l) z

-- ---- 1 and 2
pub record Sizes (m n : ℕ) : Type 0 where
  pub m-low : 1 ≤ m
  pub m-high : m ≤ 8
  pub n-low : 1 ≤ n
  pub n-high : n ≤ 16

pub sizes-passed : (m n : ℕ) → sizes_in_range m n ≡ true → Sizes m n
sizes-passed m n e =
    let both = and_both (leb 1 m && leb m 8) (leb 1 n && leb n 16) e in
    let rows = and_both (leb 1 m) (leb m 8) both.0 in
    let quantities = and_both (leb 1 n) (leb n 16) both.1 in
    record {
      m-low = leb-true 1 m rows.0;
      m-high = leb-true m 8 rows.1;
      n-low = leb-true 1 n quantities.0;
      n-high = leb-true n 16 quantities.1;
    }

pub lengths-passed : (P : Problem) → problem_fits P ≡ true → (length P.matrix ≡ P.m * P.n) × (length P.moduli ≡ P.m)
lengths-passed P e =
    let both = and_both (eqb (length P.matrix) (P.m * P.n)) (eqb (length P.moduli) P.m) e in
    (eqb-true (length P.matrix) (P.m * P.n) both.0, eqb-true (length P.moduli) P.m both.1)

-- ---- 1 to 5
pub problem-accepted : (P : Problem) → sizes_in_range P.m P.n ≡ true → problem_fits P ≡ true
    → (moduli_check P).fault ≡ none → (entries_check P).fault ≡ none → WellFormed P
problem-accepted P sizes fits moduli entries =
    let z = sizes-passed P.m P.n sizes in
    let l = lengths-passed P fits in
    record {
      m-low = z.m-low;
      m-high = z.m-high;
      n-low = z.n-low;
      n-high = z.n-high;
      matrix = l.0;
      moduli = l.1;
      entries = λ i. small 1000 (nth P.matrix i) (none_out entry_in_range refl P.matrix entries i);
      moduli-low = λ i. (in_range i).0;
      moduli-high = λ i. omega (zarith, (in_range i).0, (in_range i).1, parts (modulus P i));
    }
  where
    in_range : (i : ℕ) → (pos 0 ≤ℤ modulus P i) × (modulus P i ≤ℤ pos 1000)
    in_range i = between (pos 0) (pos 1000) (modulus P i) (none_out modulus_in_range refl P.moduli moduli i)

-- ---- 6
pub exponents-small : (es : List ℤ) → (exponents_check es).fault ≡ none → (i : ℕ) → nat_abs (nth es i) ≤ 10_000
exponents-small es e i = small 10_000 (nth es i) (none_out exponent_in_range refl es e i)

pub formula-lengths : (P : Problem) (f : Formula) → formula_fits P f ≡ true → (length f.exponents ≡ terms f * P.n) × (terms f ≤ most_terms)
formula-lengths P f e =
    let both = and_both (eqb (length f.exponents) (terms f * P.n)) (leb (terms f) most_terms) e in
    (eqb-true (length f.exponents) (terms f * P.n) both.0, leb-true (terms f) most_terms both.1)

pub formula-accepted : (P : Problem) (f : Formula) → formula_fits P f ≡ true → (exponents_check f.exponents).fault ≡ none → WellFormedFormula P f
formula-accepted P f fits exponents =
    let l = formula-lengths P f fits in
    record { few = l.1; fits = l.0; small = exponents-small f.exponents exponents }

-- ---- 8 and 9
abbrev pub TermAccepted : Problem → Run → (ℕ → ℤ) → Type 0
TermAccepted P u v = Free P v × ((g : ℕ) → g < d P u → nat_abs (translated P u v g) ≤ M)

pub term-accepted : (P : Problem) (u : Run) (v : ℕ → ℤ) → term_refused P u v ≡ false → TermAccepted P u v
unfolding passes
term-accepted P u v e = (
  free_of_is_free P v (not-false (is_free P v) a.0),
  λ g b. failed (lt? M (nat_abs (translated P u v g))) (nowhere g (omega arith)),
)
  where
    big : ℕ → Bool
    big g = beyond (translated P u v g)

    a : (not (is_free P v) ≡ false) × (passes P u v ≡ false)
    a = or-neither (not (is_free P v)) (passes P u v) e

    nowhere : Nowhere big 0 (d P u)
    nowhere = passed (none? big 0 (d P u)) (not-false (is_none (first big 0 (d P u))) a.1)

pub terms-taken : (P : Problem) (u : Run) (f : Formula) → (terms_check P u f).fault ≡ none → (t : ℕ) → t < terms f → term_refused P u (term P f t) ≡ false
terms-taken P u f e t h = first_nowhere bad 0 (terms f) (go (first bad 0 (terms f)) e) t (omega arith)
  where
    bad : ℕ → Bool
    bad t = term_refused P u (term P f t)

    go : (x : Found) → (terms_fault P f x).fault ≡ none → x ≡ none
    go none e = refl
    go (found t) e = e

-- ---- the build and the translation, which share their first five checks
abbrev checks : Problem → (inputs outputs : Bool) → List Check → List Check
checks P inputs outputs more = checks_to5 P inputs outputs ++ more

record Passed (P : Problem) (inputs : Bool) (more : List Check) : Type 0 where
  inputs_fit : inputs ≡ true
  problem : problem_fits P ≡ true → WellFormed P
  others : AllPass more

checks-passed : (P : Problem) (inputs outputs : Bool) (more : List Check) → verdict (checks P inputs outputs more) ≡ taken → Passed P inputs more
checks-passed P inputs outputs more e =
    let a = all_pass (checks P inputs outputs more) e in
    record {
      inputs_fit = unless-none inputs a.1.0;
      problem = λ fits. problem-accepted P (unless-none (sizes_in_range P.m P.n) a.0) fits a.1.1.1.0 a.1.1.1.1.0;
      others = a.1.1.1.1.1;
    }

pub not_over : (u : Run) → (range_check u).fault ≡ none → u.state.over ≡ false
not_over u e = not-true u.state.over (unless-none (not u.state.over) e)

pub build_accepted : (P : Problem) (outputs : Bool) → build_verdict P (problem_fits P) outputs ≡ taken
    → WellFormed P × ((run P).state.over ≡ false)
unfolding build_verdict
build_accepted P outputs e =
    let a = checks-passed P (problem_fits P) outputs (range_check (run P) ∷ []) e in
    (a.problem a.inputs_fit, not_over (run P) a.others.0)

pub translate_accepted : (P : Problem) (f : Formula) (outputs : Bool) → translate_verdict P f (problem_fits P && formula_fits P f) outputs ≡ taken
    → WellFormed P × WellFormedFormula P f × ((run P).state.over ≡ false) × ((t : ℕ) → t < terms f → TermAccepted P (run P) (term P f t))
unfolding translate_verdict
translate_accepted P f outputs e =
    let more = exponents_check f.exponents ∷ range_check (run P) ∷ terms_check P (run P) f ∷ [] in
    let a = checks-passed P (problem_fits P && formula_fits P f) outputs more e in
    let fits = and_both (problem_fits P) (formula_fits P f) a.inputs_fit in (
      a.problem fits.0,
      formula-accepted P f fits.1 a.others.0,
      not_over (run P) a.others.1.0,
      λ t h. term-accepted P (run P) (term P f t) (terms-taken P (run P) f a.others.1.1.0 t h),
    )
