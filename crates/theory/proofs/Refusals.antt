-- Lists of checks: in two parts; a number that no check of a list has is never given, so that no refusal has the number 0; the build's checks are among
-- the translation's.
use mathlib.Core.Path.{◌≡◌, refl, ◌∙◌}
use mathlib.Core.Logic.{◌≢◌}
use mathlib.Core.Bool.{Bool, true, false}
use mathlib.Core.List.{List, [], ◌∷◌, ◌++◌}
use Prim.Native.Nat.{ℕ}
use native.Mathlib.Omega.{arith}
use lib.IntN.{ℤ}
use Rattle.rules.specs.Search.{Found, none, found, first}
use Rattle.rules.specs.Problem.{Problem}
use Rattle.rules.specs.Stages.{run}
use Rattle.rules.specs.Formulas.{Formula, is_free, term, terms}
use Rattle.rules.specs.Calls.{Check, Verdict, taken, refused, verdict, terms_fault, term_refused, checks_to5}
use Rattle.rules.specs.Calls.{exponents_check, range_check, terms_check}
use Rattle.rules.specs.Calls.{build_verdict, weigh_verdict, translate_verdict}
use Rattle.theory.proofs.Accepted.{all_pass, taken_of_all}

-- ---- a list in two parts
pub goes_on : (cs ds : List Check) → verdict cs ≡ taken → verdict (cs ++ ds) ≡ verdict ds
goes_on [] ds e = refl
goes_on (c ∷ cs) ds e = go c.fault (goes_on cs ds) e
  where
    go : (x : Found) → (verdict cs ≡ taken → verdict (cs ++ ds) ≡ verdict ds)
        → elim x [ none ↦ verdict cs | found place ↦ refused c.number place ] ≡ taken
        → ◌≡◌ {A = Verdict} (elim x [ none ↦ verdict (cs ++ ds) | found place ↦ refused c.number place ]) (verdict ds)
    go none rest e = rest e
    go (found place) rest e = let z : ◌≡◌ {A = ℕ} 0 1 = cc in absurd (omega arith)

pub stays : (cs ds : List Check) (number place : ℕ) → verdict cs ≡ refused number place → verdict (cs ++ ds) ≡ refused number place
stays [] ds number place e = let z : ◌≡◌ {A = ℕ} 0 1 = cc in absurd (omega arith)
stays (c ∷ cs) ds number place e = go c.fault (stays cs ds number place) e
  where
    go : (x : Found) → (verdict cs ≡ refused number place → verdict (cs ++ ds) ≡ refused number place)
        → elim x [ none ↦ verdict cs | found at ↦ refused c.number at ] ≡ refused number place
        → ◌≡◌ {A = Verdict} (elim x [ none ↦ verdict (cs ++ ds) | found at ↦ refused c.number at ]) (refused number place)
    go none rest e = rest e
    go (found at) rest e = e

-- ---- numbers
-- a check that finds a fault has another number than k
abbrev Numbered : (k : ℕ) → Check → Type 0
Numbered k c = (place : ℕ) → c.fault ≡ found place → c.number ≢ k

abbrev AllNumbered : (k : ℕ) → List Check → Type 0
AllNumbered k [] = Unit {0}
AllNumbered k (c ∷ cs) = Numbered k c × AllNumbered k cs

pub never-given : (bad : ℕ) (cs : List Check) → AllNumbered bad cs → (k p : ℕ) → verdict cs ≡ refused k p → k ≢ bad
never-given bad [] a k p e = let z : ◌≡◌ {A = ℕ} 0 1 = cc in absurd (omega arith)
never-given bad (c ∷ cs) a k p e = go c.fault a.0 (never-given bad cs a.1 k p) e
  where
    go : (x : Found) → ((place : ℕ) → x ≡ found place → c.number ≢ bad) → (verdict cs ≡ refused k p → k ≢ bad)
        → elim x [ none ↦ verdict cs | found place ↦ refused c.number place ] ≡ refused k p → k ≢ bad
    go none n later e = later e
    go (found q) n later e = let f : c.number ≡ k = cc in λ z. n q refl (f ∙ z)

terms_numbered : (P : Problem) (f : Formula) (x : Found) → Numbered 0 (terms_fault P f x)
terms_numbered P f none place e = let z : ◌≡◌ {A = ℕ} 0 1 = cc in absurd (omega arith)
terms_numbered P f (found t) place e = go (is_free P (term P f t))
  where
    go : (b : Bool) → ◌≢◌ {A = ℕ} (elim b [ true ↦ 9 | false ↦ 8 ]) 0
    go true z = omega arith
    go false z = omega arith

module _ (P : Problem) (inputs outputs : Bool) where
  abbrev checks : List Check → List Check
  checks more = checks_to5 P inputs outputs ++ more

  five_numbered : (more : List Check) → AllNumbered 0 more → AllNumbered 0 (checks more)
  five_numbered more a =
      (λ q f z. omega arith, (λ q f z. omega arith, (λ q f z. omega arith, (λ q f z. omega arith, (λ q f z. omega arith, a)))))

  pub build_not_0 : (k p : ℕ) → build_verdict P inputs outputs ≡ refused k p → k ≢ 0
  unfolding build_verdict
  build_not_0 k p e = never-given 0 (checks (range_check (run P) ∷ [])) (five_numbered (range_check (run P) ∷ []) (λ q f z. omega arith, tt)) k p e

  pub weigh_not_0 : (es : List ℤ) (k p : ℕ) → weigh_verdict P es inputs outputs ≡ refused k p → k ≢ 0
  unfolding weigh_verdict
  weigh_not_0 es k p e = never-given 0 (checks (exponents_check es ∷ [])) (five_numbered (exponents_check es ∷ []) (λ q f z. omega arith, tt)) k p e

  module _ (f : Formula) where
    abbrev rest : List Check
    rest = exponents_check f.exponents ∷ range_check (run P) ∷ terms_check P (run P) f ∷ []

    pub translate_not_0 : (k p : ℕ) → translate_verdict P f inputs outputs ≡ refused k p → k ≢ 0
    unfolding translate_verdict
    translate_not_0 k p e =
        let last = terms_numbered P f (first (λ t. term_refused P (run P) (term P f t)) 0 (terms f)) in
        never-given 0 (checks rest) (five_numbered rest (λ q f z. omega arith, (λ q f z. omega arith, (last, tt)))) k p e

    pub build_taken : translate_verdict P f inputs outputs ≡ taken → build_verdict P inputs outputs ≡ taken
    unfolding translate_verdict build_verdict
    build_taken e =
        let a = all_pass (checks rest) e in
        let b = a.1.1.1.1 in
        taken_of_all (checks (range_check (run P) ∷ [])) (a.0, (a.1.0, (a.1.1.0, (a.1.1.1.0, (b.0, (b.1.1.0, tt))))))
