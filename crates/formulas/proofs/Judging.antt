-- Checks 8 and 9: what decides of a term, and of all terms.
use mathlib.Core.Path.{◌≡◌, refl, sym, ◌∙◌, ap, ap₂}
use mathlib.Core.Bool.{Bool, true, false, not, ◌||◌, cond}
use mathlib.Core.List.{[], ◌∷◌}
use Prim.Native.Nat.{ℕ, ◌+◌, ◌<◌}
use native.Mathlib.Numerals.{add-one}
use native.Mathlib.Omega.{arith}
use lib.IntN.{ℤ}
use Rattle.std.specs.List.{list_any}
use Rattle.whole.specs.Lists.{tab}
use Rattle.whole.specs.Matrix.{Matrix}
use Rattle.rules.specs.Limits.{beyond}
use Rattle.rules.specs.Search.{none, found, first}
use Rattle.rules.specs.Problem.{Problem}
use Rattle.rules.specs.Stages.{run}
use Rattle.rules.specs.Formulas.{Formula, term, terms, is_free, d, translated, passes}
use Rattle.rules.specs.Calls.{Verdict, taken, refused, verdict, term_refused, term_number, terms_fault, terms_check}
use Rattle.theory.proofs.Accepted.{all_pass, terms-taken}
use Rattle.theory.proofs.Loops.{first_start, first_more, first_hit}
use Rattle.formulas.specs.FormulaPromises.{judged, terms_verdict, AllTaken}
use Rattle.formulas.proofs.Searches.{any-first}

-- term t is refused
abbrev pub bad : Problem → Formula → ℕ → Bool
bad P f t = term_refused P (run P) (term P f t)

-- ---- one term
module _ (P : Problem) (v : ℕ → ℤ) (t : ℕ) where
  -- from the two tests
  abbrev by_tests : (free passing : Bool) → Verdict
  by_tests f p = cond (not f || p) (refused (elim f as (λ _. ℕ) [ true ↦ 9 | false ↦ 8 ]) t) taken

  pub judged_by : {f p : Bool} → is_free P v ≡ f → passes P (run P) v ≡ p → by_tests f p ≡ judged P v t
  judged_by e g = sym (ap₂ by_tests e g)

  pub judged-not_free : is_free P v ≡ false → refused 8 t ≡ judged P v t
  judged-not_free e = sym (ap (λ f. by_tests f (passes P (run P) v)) e)

-- what a verdict says of the term
module _ (P : Problem) (v : ℕ → ℤ) (t : ℕ) where
  pub judged-taken : judged P v t ≡ taken → term_refused P (run P) v ≡ false
  judged-taken = go (term_refused P (run P) v)
    where
      go : (b : Bool) → cond b (refused (term_number P v) t) taken ≡ taken → b ≡ false
      go true h = cc
      go false h = refl

  pub judged-refused : {k p : ℕ} → judged P v t ≡ refused k p → (term_refused P (run P) v ≡ true) × (refused (term_number P v) t ≡ refused k p)
  judged-refused {k} {p} = go (term_refused P (run P) v)
    where
      go : (b : Bool) → cond b (refused (term_number P v) t) taken ≡ refused k p → (b ≡ true) × (refused (term_number P v) t ≡ refused k p)
      go true h = (refl, h)
      go false h = cc

-- ---- all terms
module _ (P : Problem) (f : Formula) where
  pub none_yet : first (bad P f) 0 0 ≡ none
  none_yet = first_start (bad P f) 0 0 (omega arith)

  pub taken_here : (t : ℕ) → taken ≡ judged P (term P f t) t → first (bad P f) 0 t ≡ none → first (bad P f) 0 (t + 1) ≡ none
  taken_here t e before = rw add-one (first_more (bad P f) 0 t (omega arith) before (judged-taken P (term P f t) t (sym e)))

  pub refused-here : (t : ℕ) {k p : ℕ} → refused k p ≡ judged P (term P f t) t → t < terms f → first (bad P f) 0 t ≡ none → refused k p ≡ terms_verdict P f
  refused-here t e h before =
      let r = judged-refused P (term P f t) t (sym e) in
      let hit : first (bad P f) 0 (terms f) ≡ found t = first_hit (bad P f) 0 t (terms f) (omega arith) h before r.0 in
      sym r.1 ∙ ap (λ x. verdict (terms_fault P f x ∷ [])) (sym hit)

-- ---- the exponents in the groups
pub passes_is : (P : Problem) (v : ℕ → ℤ) → list_any beyond (tab (d P (run P)) (translated P (run P) v)) ≡ passes P (run P) v
unfolding passes
passes_is P v = any-first beyond (d P (run P)) (translated P (run P) v)

-- row t holds the exponents of term t
abbrev pub exponents_of : Problem → Formula → Matrix
exponents_of P f t g = translated P (run P) (term P f t) g

pub all-taken : (P : Problem) (f : Formula) → taken ≡ terms_verdict P f → AllTaken P f
all-taken P f e = record { each = terms-taken P (run P) f (all_pass (terms_check P (run P) f ∷ []) (sym e)).0 }
