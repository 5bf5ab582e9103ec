-- Demand 3: a formula within the limits, for an accepted problem and with room enough, is translated exactly when all its terms are free of dimension
-- and none of them has a translated exponent beyond M. The groups to the exponents that come out give each term back, with its coefficient and in its
-- place; no other whole exponents give it.
--
-- `translates` is what translate's `ensures` says and `builds` what build's says; P is the problem and f the formula as they were given; kept and out
-- are the lent outputs before the translation, kept₁ and out₁ after it.
-- Accepted is of NormalForms, Free and translated (R8.5) of rules/specs/Formulas.
use mathlib.Core.Path.{◌≡◌, refl, sym, ◌∙◌, ap, ap₂, subst}
use mathlib.Core.Logic.{◌≢◌, ◌↔◌}
use mathlib.Core.Bool.{◌&&◌}
use mathlib.Core.List.{List, [], ◌∷◌, ◌++◌}
use Prim.Native.Nat.{ℕ, ◌+◌, ◌-◌, ◌*◌, ◌≤◌, ◌<◌}
use native.Mathlib.Omega.{arith}
use lib.Dec.{leb}
use lib.ListN.{length, drop}
use lib.IntN.{ℤ, nat_abs, ◌*ℤ◌}
use Rattle.whole.specs.Lists.{nth}
use Rattle.whole.specs.Matrix.{Matrix}
use Rattle.whole.specs.Sum.{sum}
use Rattle.whole.proofs.Sum.{sum_cong}
use Rattle.rules.specs.Limits.{M, room_coefficients, room_exponents}
use Rattle.rules.specs.Search.{Found, none, found}
use Rattle.rules.specs.Problem.{Problem, WellFormed, s, N}
use Rattle.rules.specs.Stages.{run, H, U, W}
use Rattle.rules.specs.Formulas.{Free, Formula, terms, term, WellFormedFormula, d, translated, group}
use Rattle.rules.specs.Calls.{Check, Verdict, taken, exponents_check, range_check, terms_check, translate_verdict, translate_of, translated_to, translated_exponents, problem_fits, formula_fits, build_of, checks_to5}
use Rattle.theory.proofs.Grid.{table, length-grid, table_filled}
use Rattle.theory.proofs.Accepted.{AllPass, exponents-small}
use Rattle.theory.proofs.Sizes.{room_for_exponents}
use Rattle.theory.proofs.Unique.{Alike}
use Rattle.theory.proofs.Run.{run_right}
use Rattle.theory.proofs.Translation.{translated-back, translated-only, free-of_groups, of_groups}
use Rattle.scaling.specs.declared.BuildAnswer.{BuildAnswer}
use Rattle.formulas.specs.declared.TranslateAnswer.{TranslateAnswer}
use Rattle.scaling.specs.BuildPromise.{Builds}
use Rattle.formulas.specs.FormulaPromises.{Translates, RoomToTranslate}
use Rattle.demands.proofs.Order.{all_pass-append, taken_exactly, TermDecides, term-decides_exactly, all-terms_exactly}
use Rattle.demands.proofs.Limits.{and_exactly, five_exactly, formula_fits_exactly, flag_exactly, translate_room_exactly}
use Rattle.demands.proofs.Table.{row_6}
use Rattle.demands.proofs.Refusals.{Ordered, TranslateRefused, checks_of_translate, translate_ordered}
use Rattle.demands.proofs.Buffers.{KeepsRest, filled_keeps}
use Rattle.demands.proofs.NormalForms.{Accepted, width, build_answered}

-- ---- what demand 3 asks of its input: an accepted problem, a formula within R2.5 and R2.6, room enough
pub record Asked (P : Problem) (f : Formula) (kept out : List ℤ) : Type 0 where
  pub accepted : Accepted P
  pub formula : WellFormedFormula P f
  pub room : RoomToTranslate kept out

-- ---- a term that is free of dimension, and whose d = N - r translated exponents are within M
abbrev pub Translatable : Problem → (ℕ → ℤ) → Type 0
Translatable P v = Free P v × ((g : ℕ) → g < N P - (run P).rank → nat_abs (translated P (run P) v g) ≤ M)

-- ---- what a translated formula is, in the lent buffers
pub record FormulaTranslated (P : Problem) (f : Formula) (kept out : List ℤ) (a : TranslateAnswer) (kept₁ out₁ : List ℤ) : Type 0 where
  pub asked : Asked P f kept out
  pub free : (t : ℕ) → t < terms f → Free P (term P f t)
  -- R2.11
  pub groups : a.d ≡ N P - (run P).rank
  -- R8.6: all coefficients, in order, and what stands after them is untouched
  pub coefficients : kept₁ ≡ f.coefficients ++ drop (terms f) kept
  -- d exponents for each term, term after term, and what stands after them is untouched
  pub exponents : (t g : ℕ) → t < terms f → g < a.d → nth out₁ (t * a.d + g) ≡ translated P (run P) (term P f t) g
  pub rest : KeepsRest (terms f * a.d) out out₁

-- ---- the checks of a translation, from what they ask
module _ (P : Problem) (f : Formula) (kept out : List ℤ) where
  abbrev five : List Check
  five = checks_to5 P (problem_fits P && formula_fits P f) (leb room_coefficients (length kept) && leb room_exponents (length out))

  five-pass_exactly : AllPass five ↔ (WellFormed P × ((length f.exponents ≡ terms f * P.n) × (terms f ≤ 64)) × RoomToTranslate kept out)
  five-pass_exactly =
      five_exactly P (problem_fits P && formula_fits P f) (leb room_coefficients (length kept) && leb room_exponents (length out))
      (and_exactly (problem_fits P) (formula_fits P f) (λ e. e, λ e. e) (formula_fits_exactly P f)) (translate_room_exactly kept out)

  -- 1 to 7
  abbrev seven : List Check
  seven = five ++ exponents_check f.exponents ∷ range_check (run P) ∷ []

  seven-pass_exactly : AllPass seven ↔ Asked P f kept out
  seven-pass_exactly = (
    λ a.
        let b = (all_pass-append five (exponents_check f.exponents ∷ range_check (run P) ∷ [])).0 a in
        let x = five-pass_exactly.0 b.0 in
        record {
          accepted = record { well_formed = x.0; in_range = (flag_exactly (run P)).0 b.1.1.0 };
          formula = record { few = x.1.1; fits = x.1.0; small = exponents-small f.exponents b.1.0 };
          room = x.2;
        },
    λ x.
        let a = five-pass_exactly.1 (x.accepted.well_formed, (x.formula.fits, x.formula.few), x.room) in
        let small = (row_6 f.exponents).passes_exactly.1 (λ i _. x.formula.small i) in
        (all_pass-append five (exponents_check f.exponents ∷ range_check (run P) ∷ [])).1
        (a, (small, ((flag_exactly (run P)).1 x.accepted.in_range, tt))),
  )

  pub all_pass_exactly : AllPass (checks_of_translate P f kept out) ↔ (Asked P f kept out × ((t : ℕ) → t < terms f → Translatable P (term P f t)))
  all_pass_exactly = (
    λ a.
        let b = (all_pass-append seven (terms_check P (run P) f ∷ [])).0 a in
        (seven-pass_exactly.0 b.0, (all-terms_exactly P (run P) f).0 b.1.0),
    λ x. (all_pass-append seven (terms_check P (run P) f ∷ [])).1 (seven-pass_exactly.1 x.0, ((all-terms_exactly P (run P) f).1 x.1, tt)),
  )

-- ---- translated exactly when all terms are free and none has a translated exponent beyond M
module _ (P : Problem) (f : Formula) (kept out : List ℤ) (a : TranslateAnswer) (kept₁ out₁ : List ℤ)
    (translates : Translates (translate_of P f kept out) a kept₁ out₁) where
  pub translated_exactly : Asked P f kept out → (a.number ≡ 0) ↔ ((t : ℕ) → t < terms f → Translatable P (term P f t))
  translated_exactly A =
      let D = translate_ordered P f kept out a kept₁ out₁ translates in
      let E = all_pass_exactly P f kept out in
      (λ e. (E.0 (D.accepts_exactly.0 e)).1, λ h. D.accepts_exactly.1 (E.1 (A, h)))

  -- and if it is not translated, the first term that is at fault is told: 8 where it is not free, else 9
  pub else_term_refused : Asked P f kept out → a.number ≢ 0 → TermDecides P (run P) f a.number a.place
  else_term_refused A n = go (terms_check P (run P) f).fault refl
    where
      D : Ordered (checks_of_translate P f kept out) a.number a.place (TranslateRefused (checks_of_translate P f kept out) kept out a kept₁ out₁)
      D = translate_ordered P f kept out a kept₁ out₁ translates

      go : (x : Found) → (terms_check P (run P) f).fault ≡ x → TermDecides P (run P) f a.number a.place
      go none e = absurd (n ((translated_exactly A).1 ((all-terms_exactly P (run P) f).0 e)))
      go (found t) e =
          let x = D.by_the_first (terms_check P (run P) f).number t (record {
            before = seven P f kept out;
            check = terms_check P (run P) f;
            after = [];
            listed = refl;
            faultless = (seven-pass_exactly P f kept out).1 A;
            its_number = refl;
            its_place = e;
          }) in
          (term-decides_exactly P (run P) f a.number a.place).0 (rw x.1 e, sym x.0)

  as_taken : a.number ≡ 0 → Translates (translated_to P f kept out taken) a kept₁ out₁
  unfolding translate_of translate_verdict
  as_taken e =
      let p = (translate_ordered P f kept out a kept₁ out₁ translates).accepts_exactly.0 e in
      subst (λ (x : Verdict). Translates (translated_to P f kept out x) a kept₁ out₁) ((taken_exactly (checks_of_translate P f kept out)).1 p) translates

  -- coefficients and order are kept
  pub formula-translated : a.number ≡ 0 → FormulaTranslated P f kept out a kept₁ out₁
  unfolding translated_exponents
  formula-translated e =
      let B = as_taken e in
      let p = (translate_ordered P f kept out a kept₁ out₁ translates).accepts_exactly.0 e in
      let A = (all_pass_exactly P f kept out).0 p in
      let x : Matrix = λ t g. translated P (run P) (term P f t) g in
      let l = length-grid (terms f) (d P (run P)) x in
      record {
        asked = A.0;
        free = λ t i. (A.1 t i).0;
        groups = B.d;
        coefficients = B.kept;
        exponents = rw (B.d, B.translated) (table_filled (terms f) (d P (run P)) x out);
        rest = rw (B.d, B.translated) (filled_keeps (terms f * d P (run P)) (translated_exponents P f) out l
            (omega (arith, l, room_for_exponents P (A.0.accepted.well_formed) (run_right P) f A.0.formula.few, A.0.room.translated)));
      }

-- ---- back: what the groups to given exponents come to
-- R6.6: the exponent of quantity j in group g, where the build left it
abbrev pub group_in : Problem → BuildAnswer → (v₁ : List ℤ) → (g j : ℕ) → ℤ
group_in P r v₁ g j = nth v₁ ((r.moduli + j) * width P r + (r.rank + g))

-- the exponent of quantity j in the product of the groups to the exponents e
abbrev pub back_in : Problem → BuildAnswer → (v₁ : List ℤ) → (groups : ℕ) → (e : ℕ → ℤ) → (j : ℕ) → ℤ
back_in P r v₁ groups e j = sum groups (λ g. group_in P r v₁ g j *ℤ e g)

-- groups that are those of the run, wherever they were read, to the same exponents
pub back_same : (P : Problem) (groups : ℕ) (its-groups e e' : ℕ → ℤ) (j : ℕ) → groups ≡ d P (run P)
    → ((g : ℕ) → g < groups → its-groups g ≡ group P (run P) g j) → ((g : ℕ) → g < groups → e g ≡ e' g)
    → sum groups (λ g. its-groups g *ℤ e g) ≡ of_groups P (run P) e' j
back_same P groups its-groups e e' j count are same =
    sum_cong groups (λ g. its-groups g *ℤ e g) (λ g. group P (run P) g j *ℤ e' g) (λ g c. ap₂ ◌*ℤ◌ (are g c) (same g c))
    ∙ ap (λ (k : ℕ). sum k (λ g. group P (run P) g j *ℤ e' g)) count

-- a build with the number 0
module _ (P : Problem) (h v w : List ℤ) (r : BuildAnswer) (h₁ v₁ w₁ : List ℤ) (builds : Builds (build_of P h v w) r h₁ v₁ w₁) (built : r.number ≡ 0) where
  ends_alike : Alike P.m (width P r) (run P).rank r.rank (H (run P)) (table (width P r) h₁) (U (run P)) (table (width P r) v₁)
      (W (run P)) (table (width P r) w₁)
  ends_alike = (build_answered P h v w r h₁ v₁ w₁ builds built).only (run P).rank (H (run P)) (U (run P)) (W (run P)) (run_right P)

  moduli_are : r.moduli ≡ s P
  moduli_are = (build_answered P h v w r h₁ v₁ w₁ builds built).moduli

  pub groups_are : width P r - r.rank ≡ d P (run P)
  groups_are = omega (arith, moduli_are, ends_alike.ranks)

  pub group_is : (g j : ℕ) → g < width P r - r.rank → j < P.n → group_in P r v₁ g j ≡ group P (run P) g j
  unfolding group
  group_is g j b c =
      sym (ends_alike.multipliers (r.moduli + j) (r.rank + g) (omega arith) (omega arith))
      ∙ ap₂ (λ (i k : ℕ). U (run P) (i + j) (k + g)) moduli_are (sym ends_alike.ranks)

  back_is : (e e' : ℕ → ℤ) → ((g : ℕ) → g < width P r - r.rank → e g ≡ e' g) → (j : ℕ) → j < P.n
      → back_in P r v₁ (width P r - r.rank) e j ≡ of_groups P (run P) e' j
  back_is e e' same j b = back_same P (width P r - r.rank) (λ g. group_in P r v₁ g j) e e' j groups_are (λ g c. group_is g j c b) same

  -- a monomial is free of dimension exactly when the groups to some whole exponents give it
  pub free_exactly : (m : ℕ → ℤ)
      → Free P m ↔ ((e : ℕ → ℤ) × ((j : ℕ) → j < P.n → back_in P r v₁ (width P r - r.rank) e j ≡ m j))
  free_exactly m = (
    λ F. (
      translated P (run P) m,
      λ j b. back_is (translated P (run P) m) (translated P (run P) m) (λ g _. refl) j b
          ∙ translated-back P (run P) (run_right P) m F j b,
    ),
    λ x. free-of_groups P (run P) (run_right P) m x.0 (λ j b. sym (back_is x.0 x.0 (λ g _. refl) j b) ∙ x.1 j b),
  )

  -- and a formula translated with the number 0
  module _ (f : Formula) (kept out : List ℤ) (a : TranslateAnswer) (kept₁ out₁ : List ℤ)
      (translates : Translates (translate_of P f kept out) a kept₁ out₁) (done : a.number ≡ 0) where
    -- there are d = N - r groups
    pub as_many-groups : a.d ≡ width P r - r.rank
    as_many-groups = (formula-translated P f kept out a kept₁ out₁ translates done).groups ∙ sym groups_are

    -- each term comes back
    pub first_formula_returns : (t j : ℕ) → t < terms f → j < P.n
        → back_in P r v₁ a.d (λ g. nth out₁ (t * a.d + g)) j ≡ nth f.exponents (t * P.n + j)
    first_formula_returns t j i b =
        let F = formula-translated P f kept out a kept₁ out₁ translates done in
        ap (λ (k : ℕ). back_in P r v₁ k (λ g. nth out₁ (t * a.d + g)) j) as_many-groups
        ∙ back_is (λ g. nth out₁ (t * a.d + g)) (translated P (run P) (term P f t)) (λ g c. F.exponents t g i (omega (arith, as_many-groups))) j b
        ∙ translated-back P (run P) (run_right P) (term P f t) (F.free t i) j b

    -- by no other whole exponents
    pub no_other_exponents : (t : ℕ) → t < terms f → (e : ℕ → ℤ)
        → ((j : ℕ) → j < P.n → back_in P r v₁ a.d e j ≡ nth f.exponents (t * P.n + j))
        → (g : ℕ) → g < a.d → e g ≡ nth out₁ (t * a.d + g)
    no_other_exponents t i e same g b =
        let F = formula-translated P f kept out a kept₁ out₁ translates done in
        let given : (j : ℕ) → j < P.n → of_groups P (run P) e j ≡ term P f t j
        = λ j c.
        sym (back_is e e (λ g _. refl) j c) ∙ ap (λ (k : ℕ). back_in P r v₁ k e j) (sym as_many-groups) ∙ same j c in
        translated-only P (run P) (run_right P) (term P f t) F.asked.accepted.well_formed.moduli (F.free t i) e given g (omega (arith, F.groups))
        ∙ sym (F.exponents t g i b)
