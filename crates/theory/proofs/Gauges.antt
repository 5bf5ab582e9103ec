-- Order 2, the answer: no refusal has the number 0, and of the readings the first n alone play a part, where as many are counted.
use mathlib.Core.Path.{◌≡◌, refl, sym, ap, ◌∙◌}
use mathlib.Core.Logic.{◌≢◌}
use mathlib.Core.Bool.{Bool, true, false, not, ◌&&◌}
use mathlib.Core.List.{List, [], ◌∷◌}
use Prim.Native.Nat.{ℕ, ◌<◌, ◌≤◌}
use native.Mathlib.Omega.{arith}
use borrow.Author.Tests.{eqb-true}
use lib.Dec.{eqb}
use lib.IntN.{ℤ}
use lib.Ieee.{Float}
use lib.Ieee.Positive.{positive}
use Rattle.whole.proofs.Tests.{Test, pass, fail, lt?}
use Rattle.rules.specs.Limits.{sizes_in_range, power_in_range}
use Rattle.rules.specs.Search.{Found, none, found, first}
use Rattle.rules.specs.Problem.{Problem}
use Rattle.rules.specs.Stages.{run}
use Rattle.rules.specs.Formulas.{d, group}
use Rattle.rules.specs.Calls.{Check, refused, verdict, unless, unless_at, problem_fits, inputs_check, moduli_check, entries_check, range_check}
use Rattle.rules.specs.Gauges.{Readings, reading, leaves_range, is_out}
use Rattle.rules.specs.Gauges.{group_check, powers_check, running_check, own_checks, gauge_checks, Gauged, value, refusal, nought, carried, gauged_by, gauge_of}
use Rattle.theory.proofs.Search.{FirstIs, no_first, is_first, first_is_lem, first_cong}
use Rattle.theory.proofs.Accepted.{sizes-passed}
use Rattle.theory.proofs.Refusals.{never-given}
use Rattle.theory.proofs.Operations.{value_same}
use Rattle.theory.proofs.LastValue.{last_tells}

pub gauge_not_0 : (P : Problem) (R : Readings) (g k p : ℕ) → verdict (gauge_checks P R g) ≡ refused k p → k ≢ 0
gauge_not_0 P R g k p e =
    never-given 0 (gauge_checks P R g) (
      λ q f z. omega arith,
      (
        λ q f z. omega arith,
        (
          λ q f z. omega arith,
          (
            λ q f z. omega arith,
            (
              λ q f z. omega arith,
              (λ q f z. omega arith, (λ q f z. omega arith, (λ q f z. omega arith, (λ q f z. omega arith, tt)))),
            ),
          ),
        ),
      ),
    )
    k p e

-- every refusal but 11 carries 0.0, whatever the readings are
pub carries_nought : (x : ℕ → Float) (number place : ℕ) → eqb number 11 ≡ false → carried x number place ≡ nought
carries_nought x number place e = ap (λ (b : Bool). elim b as (λ _. Float) [ true ↦ x place | false ↦ nought ]) e

-- ---- two sets of readings, and two ways to hold exponents
module _ (n : ℕ) (v w : ℕ → ℤ) (x y : ℕ → Float) where
  -- a check that both have, other than 11
  past : (c : Check) (cs ds : List Check) → eqb c.number 11 ≡ false → gauged_by n v x (verdict cs) ≡ gauged_by n w y (verdict ds)
      → gauged_by n v x (verdict (c ∷ cs)) ≡ gauged_by n w y (verdict (c ∷ ds))
  past c cs ds e h = go c.fault
    where
      go : (f : Found)
          → gauged_by n v x (elim f [ none ↦ verdict cs | found place ↦ refused c.number place ])
          ≡ gauged_by n w y (elim f [ none ↦ verdict ds | found place ↦ refused c.number place ])
      go none = h
      go (found place) = ap (refusal c.number place) (carries_nought x c.number place e ∙ sym (carries_nought y c.number place e))

  module _ (d g : ℕ) (readings : (j : ℕ) → j < n → x j ≡ y j) (exponents : g < d → (j : ℕ) → j < n → v j ≡ w j) where
    bad_same : first (λ j. not (positive (x j))) 0 n ≡ first (λ j. not (positive (y j))) 0 n
    bad_same = first_cong (λ j. not (positive (x j))) (λ j. not (positive (y j))) 0 n (λ j i. ap (λ r. not (positive r)) (readings j i.high))

    abbrev from12 : (ℕ → ℤ) → (ℕ → Float) → List Check
    from12 u z = powers_check n u g ∷ running_check n u z g ∷ []

    powers_same : g < d → gauged_by n v x (verdict (from12 v x)) ≡ gauged_by n w y (verdict (from12 w y))
    powers_same l =
        let values = value_same n v w x y (exponents l) readings in
        let leaves : leaves_range n v x ≡ leaves_range n w y = last_tells n v x ∙ ap is_out values ∙ sym (last_tells n w y) in
        let large : first (λ j. not (power_in_range (v j))) 0 n ≡ first (λ j. not (power_in_range (w j))) 0 n
        = first_cong (λ j. not (power_in_range (v j))) (λ j. not (power_in_range (w j))) 0 n (λ j i. ap (λ z. not (power_in_range z)) (exponents l j i.high)) in
        rw (large, leaves)
        (past (powers_check n w g) (running_check n w y g ∷ []) (running_check n w y g ∷ []) refl (past (running_check n w y g) [] [] refl (ap value values)))

    groups_same : gauged_by n v x (verdict (group_check d g ∷ from12 v x)) ≡ gauged_by n w y (verdict (group_check d g ∷ from12 w y))
    groups_same = go (lt? g d)
      where
        go : {b : Bool} → Test (g < d) (d ≤ g) b
            → gauged_by n v x (elim (unless_at g b) [ none ↦ verdict (from12 v x) | found place ↦ refused 24 place ])
            ≡ gauged_by n w y (elim (unless_at g b) [ none ↦ verdict (from12 w y) | found place ↦ refused 24 place ])
        go (pass l) = powers_same l
        go (fail l) = refl

    -- the readings of the first n quantities, and the exponents of a group that there is, decide
    pub own_same : gauged_by n v x (verdict (own_checks n d v x g)) ≡ gauged_by n w y (verdict (own_checks n d w y g))
    own_same = go (first_is_lem (λ j. not (positive (x j))) 0 n) bad_same
      where
        go : {f h : Found} → FirstIs (λ j. not (positive (x j))) 0 n f → f ≡ h
            → gauged_by n v x (elim f [ none ↦ verdict (group_check d g ∷ from12 v x) | found place ↦ refused 11 place ])
            ≡ gauged_by n w y (elim h [ none ↦ verdict (group_check d g ∷ from12 w y) | found place ↦ refused 11 place ])
        go (no_first z) e = rw (← e) groups_same
        go (is_first k i t z) e = rw (← e, readings k i.high)

-- within the sizes: both have the count n or neither has, and with the count n the first n readings are the same
pub record Alike (n : ℕ) (R S : Readings) : Type 0 where
  pub counts : n ≤ 16 → eqb R.count n ≡ eqb S.count n
  pub values : n ≤ 16 → R.count ≡ n → (j : ℕ) → j < n → reading R j ≡ reading S j

pub gauge_alike : (P : Problem) (R S : Readings) (g : ℕ) → Alike P.n R S → gauge_of P R g ≡ gauge_of P S g
unfolding gauge_of
gauge_alike P R S g A = go (sizes_in_range P.m P.n) refl
  where
    v : ℕ → ℤ
    v = group P (run P) g

    later : Readings → List Check
    later Q = moduli_check P ∷ entries_check P ∷ range_check (run P) ∷ own_checks P.n (d P (run P)) v (reading Q) g

    from2 : Readings → List Check
    from2 Q = inputs_check (problem_fits P && eqb Q.count P.n) ∷ later Q

    by : Readings → List Check → Gauged
    by Q cs = gauged_by P.n v (reading Q) (verdict cs)

    counted : ((j : ℕ) → j < P.n → reading R j ≡ reading S j) → by R (later R) ≡ by S (later S)
    counted agree =
        let x = reading R in
        let y = reading S in
        let own : (z : ℕ → Float) → List Check = λ z. own_checks P.n (d P (run P)) v z g in
        past P.n v v x y (moduli_check P) (entries_check P ∷ range_check (run P) ∷ own x) (entries_check P ∷ range_check (run P) ∷ own y) refl
        (past P.n v v x y (entries_check P) (range_check (run P) ∷ own x) (range_check (run P) ∷ own y) refl
        (past P.n v v x y (range_check (run P)) (own x) (own y) refl
        (own_same P.n v v x y (d P (run P)) g agree (λ _ j _. refl))))

    from_2 : (fits b : Bool) → (b ≡ true → by R (later R) ≡ by S (later S))
        → by R (inputs_check (fits && b) ∷ later R) ≡ by S (inputs_check (fits && b) ∷ later S)
    from_2 true true h = h refl
    from_2 true false h = refl
    from_2 false b h = refl

    go : (s : Bool) → sizes_in_range P.m P.n ≡ s
        → by R (record { number = 1; fault = unless s } ∷ from2 R) ≡ by S (record { number = 1; fault = unless s } ∷ from2 S)
    go false e = refl
    go true e =
        let few = (sizes-passed P.m P.n e).n-high in
        let same = A.counts few in
        rw (← same) (from_2 (problem_fits P) (eqb R.count P.n) (λ h. counted (A.values few (eqb-true R.count P.n h))))
