-- Demand 1, the order of the checks: section 3 of the rules.
-- What the verdict of a list of checks is, in words without recursion: the first check of the list that finds a fault decides, and a call is taken
-- exactly when none does.
use mathlib.Core.Path.{◌≡◌, refl, sym, ◌∙◌, ap, subst}
use mathlib.Core.Logic.{◌≢◌, ◌↔◌, ◌⊎◌, inl, inr}
use mathlib.Core.Bool.{Bool, true, false, not, ◌||◌, true≢false}
use mathlib.Core.List.{List, [], ◌∷◌, ◌++◌, map}
use Prim.Native.Nat.{ℕ, ◌<◌}
use native.Mathlib.Omega.{arith}
use native.Mathlib.Decide.{dec_lt}
use lib.ListN.{length}
use lib.IntN.{ℤ, nat_abs}
use borrow.Author.Tests.{not-true, not-false}
use Rattle.whole.specs.Lists.{nth}
use Rattle.whole.proofs.Tests.{Test, pass, fail, lt?, is_true, is_false}
use Rattle.rules.specs.Limits.{M, beyond}
use Rattle.rules.specs.Search.{Found, none, found, first}
use Rattle.rules.specs.Problem.{Problem}
use Rattle.rules.specs.Stages.{Run, run}
use Rattle.rules.specs.Formulas.{Free, passes, d, translated, Formula, terms, term}
use Rattle.rules.specs.Calls.{Check, Verdict, taken, refused, verdict, first_out, exponents_check, range_check, terms_check, terms_fault, term_refused, term_number, checks_to5}
use Rattle.rules.specs.Calls.{build_verdict, weigh_verdict, translate_verdict}
use Rattle.theory.proofs.Search.{In, Nowhere, none?, FirstIs, no_first, is_first, first_is_lem, first_nowhere}
use Rattle.theory.proofs.Weights.{is_free?, is_free_yes, is_free_no}
use Rattle.whole.proofs.Tests.{passed, failed}
use Rattle.theory.proofs.Accepted.{AllPass, all_pass, taken_of_all, TermAccepted}
use Rattle.theory.proofs.Refusals as refusals

-- ---- the first check that finds a fault decides
-- a check of the list has this number and finds its fault at this place, and no check before it finds any
pub record DecidedBy (cs : List Check) (number place : ℕ) : Type 0 where
  pub before : List Check
  pub check : Check
  pub after : List Check
  pub listed : cs ≡ before ++ check ∷ after
  pub faultless : AllPass before
  pub its_number : check.number ≡ number
  pub its_place : check.fault ≡ found place

pub taken_exactly : (cs : List Check) → (verdict cs ≡ taken) ↔ AllPass cs
taken_exactly cs = (all_pass cs, taken_of_all cs)

-- a list of checks in two parts
all_pass-both : (cs ds : List Check) → AllPass cs → AllPass ds → AllPass (cs ++ ds)
all_pass-both [] ds a b = b
all_pass-both (c ∷ cs) ds a b = (a.0, all_pass-both cs ds a.1 b)

all_pass-parts : (cs ds : List Check) → AllPass (cs ++ ds) → AllPass cs × AllPass ds
all_pass-parts [] ds a = (tt, a)
all_pass-parts (c ∷ cs) ds a = let b = all_pass-parts cs ds a.1 in ((a.0, b.0), b.1)

pub all_pass-append : (cs ds : List Check) → AllPass (cs ++ ds) ↔ (AllPass cs × AllPass ds)
all_pass-append cs ds = (all_pass-parts cs ds, λ a. all_pass-both cs ds a.0 a.1)

deciding : (cs : List Check) (number place : ℕ) → verdict cs ≡ refused number place → DecidedBy cs number place
deciding [] number place e = let z : ◌≡◌ {A = ℕ} 0 1 = cc in absurd (omega arith)
deciding (c ∷ cs) number place e = go c.fault refl e (deciding cs number place)
  where
    go : (x : Found) → c.fault ≡ x → elim x [ none ↦ verdict cs | found at ↦ refused c.number at ] ≡ refused number place
        → (verdict cs ≡ refused number place → DecidedBy cs number place) → DecidedBy (c ∷ cs) number place
    go none f e rest =
        let D = rest e in
        record {
          before = c ∷ D.before;
          check = D.check;
          after = D.after;
          listed = ap (λ (l : List Check). c ∷ l) D.listed;
          faultless = (f, D.faultless);
          its_number = D.its_number;
          its_place = D.its_place;
        }
    go (found at) f e rest =
        let number_is : c.number ≡ number = cc in
        let place_is : at ≡ place = cc in
        record { before = []; check = c; after = cs; listed = refl; faultless = tt; its_number = number_is; its_place = f ∙ ap found place_is }

past-faultless : (before : List Check) (c : Check) (after : List Check) (place : ℕ) → AllPass before → c.fault ≡ found place
    → verdict (before ++ c ∷ after) ≡ refused c.number place
past-faultless [] c after place a e = rw e
past-faultless (b ∷ before) c after place a e = rw a.0 (past-faultless before c after place a.1 e)

decided : (cs : List Check) (number place : ℕ) → DecidedBy cs number place → verdict cs ≡ refused number place
decided cs number place D =
    ap verdict D.listed
    ∙ past-faultless D.before D.check D.after place D.faultless D.its_place
    ∙ ap (λ (k : ℕ). refused k place) D.its_number

pub refused_exactly : (cs : List Check) (number place : ℕ) → (verdict cs ≡ refused number place) ↔ DecidedBy cs number place
refused_exactly cs number place = (deciding cs number place, decided cs number place)

-- ---- one of the two, and not both: there is a verdict on every input, and it is one
pub record Refusal (cs : List Check) : Type 0 where
  pub number : ℕ
  pub place : ℕ
  pub decided : DecidedBy cs number place

pub taken-or-refused : (cs : List Check) → AllPass cs ⊎ Refusal cs
taken-or-refused cs = go (verdict cs) refl
  where
    go : (x : Verdict) → verdict cs ≡ x → AllPass cs ⊎ Refusal cs
    go taken e = inl (all_pass cs e)
    go (refused number place) e = inr (record { number = number; place = place; decided = deciding cs number place e })

pub not-taken-and-refused : (cs : List Check) → AllPass cs → Refusal cs → ⊥
not-taken-and-refused cs a R =
    let e = taken_of_all cs a in
    let f = decided cs R.number R.place R.decided in
    let z : ◌≡◌ {A = ℕ} 0 1 = cc in
    omega arith

-- no two refusals of one list differ
pub one_refusal : (cs : List Check) (k p k' p' : ℕ) → DecidedBy cs k p → DecidedBy cs k' p' → (k ≡ k') × (p ≡ p')
one_refusal cs k p k' p' D D' =
    let e = decided cs k p D in
    let e' = decided cs k' p' D' in
    (cc, cc)

-- what holds of the number and place of every check that finds a fault holds of those that decide
abbrev pub EachFault : (ℕ → ℕ → Type 0) → List Check → Type 0
EachFault Q [] = Unit {0}
EachFault Q (c ∷ cs) = ((place : ℕ) → c.fault ≡ found place → Q c.number place) × EachFault Q cs

pub decider_has : (Q : ℕ → ℕ → Type 0) (cs : List Check) → EachFault Q cs → (k p : ℕ) → DecidedBy cs k p → Q k p
decider_has Q cs all k p D = rw (← D.its_number) (go D.before (rw D.listed at all))
  where
    go : (before : List Check) → EachFault Q (before ++ D.check ∷ D.after) → Q D.check.number p
    go [] a = a.0 p D.its_place
    go (b ∷ before) a = go before a.1

-- ---- places: the first fault of a list
-- the test holds at i and at no lower index
pub record FirstAt (test : ℕ → Bool) (hi i : ℕ) : Type 0 where
  pub within : i < hi
  pub holds : test i ≡ true
  pub lower : (j : ℕ) → j < i → test j ≡ false

module _ (test : ℕ → Bool) (hi : ℕ) where
  finds : (i : ℕ) → first test 0 hi ≡ found i → FirstAt test hi i
  finds i e = go (first_is_lem test 0 hi) e
    where
      go : {x : Found} → FirstIs test 0 hi x → x ≡ found i → FirstAt test hi i
      go (no_first z) e = let o : ◌≡◌ {A = ℕ} 0 1 = cc in absurd (omega arith)
      go (is_first k w t z) e =
          let same : k ≡ i = cc in
          rw (← same) (record { within = w.high; holds = t; lower = λ j l. z j (record { low = omega arith; high = l }) })

  found_by : (i : ℕ) → FirstAt test hi i → first test 0 hi ≡ found i
  found_by i F = go (first_is_lem test 0 hi)
    where
      go : {x : Found} → FirstIs test 0 hi x → x ≡ found i
      go (no_first z) = absurd (true≢false (sym F.holds ∙ z i (record { low = omega arith; high = F.within })))
      go (is_first k w t z) = ap found (at_one (dec_lt k i) (dec_lt i k))
        where
          at_one : Dec (k < i) → Dec (i < k) → k ≡ i
          at_one (yes l) _ = absurd (true≢false (sym t ∙ F.lower k l))
          at_one (no _) (yes l) = absurd (true≢false (sym F.holds ∙ z i (record { low = omega arith; high = l })))
          at_one (no a) (no b) = omega arith

  pub found_exactly : (i : ℕ) → (first test 0 hi ≡ found i) ↔ FirstAt test hi i
  found_exactly i = (finds i, found_by i)

  finds-none : first test 0 hi ≡ none → (i : ℕ) → i < hi → test i ≡ false
  finds-none e i l = first_nowhere test 0 hi e i (record { low = omega arith; high = l })

  none_found : ((i : ℕ) → i < hi → test i ≡ false) → first test 0 hi ≡ none
  none_found h = go (first_is_lem test 0 hi)
    where
      go : {x : Found} → FirstIs test 0 hi x → x ≡ none
      go (no_first z) = refl
      go (is_first k w t z) = absurd (true≢false (sym t ∙ h k w.high))

  pub none_exactly : (first test 0 hi ≡ none) ↔ ((i : ℕ) → i < hi → test i ≡ false)
  none_exactly = (finds-none, none_found)

-- the number at i does not pass, and each number before it does: 4, 5 and 6
pub record FirstOutAt (good : ℤ → Bool) (xs : List ℤ) (i : ℕ) : Type 0 where
  pub within : i < length xs
  pub fails : good (nth xs i) ≡ false
  pub before : (j : ℕ) → j < i → good (nth xs j) ≡ true

module _ (good : ℤ → Bool) (xs : List ℤ) where
  abbrev out : ℕ → Bool
  out i = not (good (nth xs i))

  pub first_out_exactly : (i : ℕ) → (first_out good xs ≡ found i) ↔ FirstOutAt good xs i
  unfolding first_out
  first_out_exactly i = (
    λ e. let F = finds out (length xs) i e in
        record { within = F.within; fails = not-true (good (nth xs i)) F.holds; before = λ j l. not-false (good (nth xs j)) (F.lower j l) },
    λ F. found_by out (length xs) i (record { within = F.within; holds = ap not F.fails; lower = λ j l. ap not (F.before j l) }),
  )

  pub none_out_exactly : (first_out good xs ≡ none) ↔ ((i : ℕ) → i < length xs → good (nth xs i) ≡ true)
  unfolding first_out
  none_out_exactly = (
    λ e i l. not-false (good (nth xs i)) (finds-none out (length xs) e i l),
    λ h. none_found out (length xs) (λ i l. ap not (h i l)),
  )

-- ---- 8 and 9: R3.4
-- 8: the term is not free of dimension; 9: it is, and one of its translated exponents is beyond M
pub data TermFault (P : Problem) (u : Run) (v : ℕ → ℤ) : (number : ℕ) → Type 0 where
  not_free : ¬ Free P v → TermFault P u v 8
  beyond-M : Free P v → (g : ℕ) → g < d P u → M < nat_abs (translated P u v g) → TermFault P u v 9

-- term t is at fault, and no lower term is
pub record TermDecides (P : Problem) (u : Run) (f : Formula) (number t : ℕ) : Type 0 where
  pub within : t < terms f
  pub fault : TermFault P u (term P f t) number
  pub lower : (t' : ℕ) → t' < t → TermAccepted P u (term P f t')

module _ (P : Problem) (u : Run) where
  term? : (v : ℕ → ℤ) → Test (TermFault P u v (term_number P v)) (TermAccepted P u v) (term_refused P u v)
  unfolding passes
  term? v = go (is_free? P v) (none? large 0 (d P u))
    where
      large : ℕ → Bool
      large g = beyond (translated P u v g)

      go : {b c : Bool} → Test (Free P v) (¬ Free P v) b → Test (Nowhere large 0 (d P u)) ((g : ℕ) × In 0 (d P u) g × (large g ≡ true)) c
          → Test (TermFault P u v (elim b [ true ↦ 9 | false ↦ 8 ])) (TermAccepted P u v) (not b || not c)
      go (fail n) _ = pass (not_free n)
      go (pass f) (pass h) = fail (f, λ g l. failed (lt? M (nat_abs (translated P u v g))) (h g (record { low = omega arith; high = l })))
      go (pass f) (fail (g, i, e)) = pass (beyond-M f g i.high (passed (lt? M (nat_abs (translated P u v g))) e))

  no_fault : (v : ℕ → ℤ) {number : ℕ} → TermAccepted P u v → TermFault P u v number → ⊥
  no_fault v a (not_free n) = n a.0
  no_fault v a (beyond-M f g l h) = omega (arith, a.1 g l)

  fault-number : (v : ℕ → ℤ) {number : ℕ} → TermFault P u v number → term_number P v ≡ number
  fault-number v (not_free n) = rw (is_free_no P v n, term_number)
  fault-number v (beyond-M f g l h) = rw (is_free_yes P v f, term_number)

  fault-refuses : (v : ℕ → ℤ) {number : ℕ} → TermFault P u v number → term_refused P u v ≡ true
  fault-refuses v x = is_true (term? v) (λ a. no_fault v a x)

  module _ (f : Formula) where
    abbrev bad : ℕ → Bool
    bad t = term_refused P u (term P f t)

    place_of : (x : Found) (t : ℕ) → (terms_fault P f x).fault ≡ found t → x ≡ found t
    place_of none t e = let z : ◌≡◌ {A = ℕ} 0 1 = cc in absurd (omega arith)
    place_of (found i) t e = e

    pub term-decides_exactly : (number t : ℕ)
        → (((terms_check P u f).fault ≡ found t) × ((terms_check P u f).number ≡ number)) ↔ TermDecides P u f number t
    term-decides_exactly number t = (to, back)
      where
        to : ((terms_check P u f).fault ≡ found t) × ((terms_check P u f).number ≡ number) → TermDecides P u f number t
        to e =
            let x = place_of (first bad 0 (terms f)) t e.0 in
            let F = finds bad (terms f) t x in
            let k : term_number P (term P f t) ≡ number = ap (λ (y : Found). (terms_fault P f y).number) (sym x) ∙ e.1 in
            record {
              within = F.within;
              fault = subst (TermFault P u (term P f t)) k (passed (term? (term P f t)) F.holds);
              lower = λ t' l. failed (term? (term P f t')) (F.lower t' l);
            }

        back : TermDecides P u f number t → ((terms_check P u f).fault ≡ found t) × ((terms_check P u f).number ≡ number)
        back D =
            let x = found_by bad (terms f) t (record {
              within = D.within;
              holds = fault-refuses (term P f t) D.fault;
              lower = λ t' l. is_false (term? (term P f t')) (no_fault (term P f t') (D.lower t' l));
            }) in
            rw x (refl, fault-number (term P f t) D.fault)

    pub all-terms_exactly : ((terms_check P u f).fault ≡ none) ↔ ((t : ℕ) → t < terms f → TermAccepted P u (term P f t))
    all-terms_exactly = (
      λ e t l. failed (term? (term P f t)) (finds-none bad (terms f) (none_of (first bad 0 (terms f)) e) t l),
      λ h. rw (none_found bad (terms f) (λ t l. is_false (term? (term P f t)) (no_fault (term P f t) (h t l)))),
    )
      where
        none_of : (x : Found) → (terms_fault P f x).fault ≡ none → x ≡ none
        none_of none e = refl
        none_of (found i) e = e

    pub term-number : (t : ℕ) → (terms_check P u f).fault ≡ found t → ((terms_check P u f).number ≡ 8) ⊎ ((terms_check P u f).number ≡ 9)
    term-number t e = go refl ((term-decides_exactly (terms_check P u f).number t).0 (e, refl)).fault
      where
        go : {k : ℕ} → (terms_check P u f).number ≡ k → TermFault P u (term P f t) k → ((terms_check P u f).number ≡ 8) ⊎ ((terms_check P u f).number ≡ 9)
        go e (not_free n) = inl e
        go e (beyond-M _ g l h) = inr e

-- ---- the checks of each call, in order
abbrev pub build_checks : Problem → (inputs outputs : Bool) → List Check
build_checks P inputs outputs = checks_to5 P inputs outputs ++ range_check (run P) ∷ []

abbrev pub weigh_checks : Problem → (exponents : List ℤ) → (inputs outputs : Bool) → List Check
weigh_checks P es inputs outputs = checks_to5 P inputs outputs ++ exponents_check es ∷ []

abbrev pub translate_checks : Problem → Formula → (inputs outputs : Bool) → List Check
translate_checks P f inputs outputs =
    checks_to5 P inputs outputs ++ exponents_check f.exponents ∷ range_check (run P) ∷ terms_check P (run P) f ∷ []

pub build_checks_lem : (P : Problem) (inputs outputs : Bool) → build_verdict P inputs outputs ≡ verdict (build_checks P inputs outputs)
unfolding build_verdict
build_checks_lem P inputs outputs = refl

pub weigh_checks_lem : (P : Problem) (es : List ℤ) (inputs outputs : Bool) → weigh_verdict P es inputs outputs ≡ verdict (weigh_checks P es inputs outputs)
unfolding weigh_verdict
weigh_checks_lem P es inputs outputs = refl

pub translate_checks_lem : (P : Problem) (f : Formula) (inputs outputs : Bool)
    → translate_verdict P f inputs outputs ≡ verdict (translate_checks P f inputs outputs)
unfolding translate_verdict
translate_checks_lem P f inputs outputs = refl

-- ---- their numbers: R3.2
abbrev pub numbers : List Check → List ℕ
numbers cs = map (λ (c : Check). c.number) cs

pub build_numbers : (P : Problem) (inputs outputs : Bool) → numbers (build_checks P inputs outputs) ≡ 1 ∷ 2 ∷ 3 ∷ 4 ∷ 5 ∷ 7 ∷ []
build_numbers P inputs outputs = refl

pub weigh_numbers : (P : Problem) (es : List ℤ) (inputs outputs : Bool) → numbers (weigh_checks P es inputs outputs) ≡ 1 ∷ 2 ∷ 3 ∷ 4 ∷ 5 ∷ 6 ∷ []
weigh_numbers P es inputs outputs = refl

-- the last check of a translation has the number 8 or 9 once it finds a fault (term-number)
pub translate_numbers : (P : Problem) (f : Formula) (inputs outputs : Bool)
    → numbers (translate_checks P f inputs outputs) ≡ 1 ∷ 2 ∷ 3 ∷ 4 ∷ 5 ∷ 6 ∷ 7 ∷ (terms_check P (run P) f).number ∷ []
translate_numbers P f inputs outputs = refl

-- none of them is 0, so that the number 0 is left for a call that is taken
pub build_not_0 : (P : Problem) (inputs outputs : Bool) (number place : ℕ) → DecidedBy (build_checks P inputs outputs) number place → number ≢ 0
unfolding build_verdict
build_not_0 P inputs outputs number place D =
    refusals.build_not_0 P inputs outputs number place (decided (build_checks P inputs outputs) number place D)

pub weigh_not_0 : (P : Problem) (es : List ℤ) (inputs outputs : Bool) (number place : ℕ) → DecidedBy (weigh_checks P es inputs outputs) number place
    → number ≢ 0
unfolding weigh_verdict
weigh_not_0 P es inputs outputs number place D =
    refusals.weigh_not_0 P inputs outputs es number place (decided (weigh_checks P es inputs outputs) number place D)

pub translate_not_0 : (P : Problem) (f : Formula) (inputs outputs : Bool) (number place : ℕ)
    → DecidedBy (translate_checks P f inputs outputs) number place → number ≢ 0
unfolding translate_verdict
translate_not_0 P f inputs outputs number place D =
    refusals.translate_not_0 P inputs outputs f number place (decided (translate_checks P f inputs outputs) number place D)
