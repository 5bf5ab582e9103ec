-- Section 22 of the rules, groups from the gauges (order 2). Each theorem follows from what a call promises of its answer, x ≡ gauge_of P R g:
-- of gauges::gauge x is what its answer says (told), of glaukemis_gauge its fields are those of the answer in plain numbers (c_gauge_.. below).
-- P is the problem, R the set of readings and g the group's number as they were given, whatever they are.
-- The definitions that the theorems speak of stand in rules/specs/Gauges; `positive` (lib.Ieee) says of a number that it is finite and above zero.
use mathlib.Core.Path.{◌≡◌, refl, sym, ◌∙◌, ap, subst}
use mathlib.Core.Logic.{◌≢◌, ◌↔◌, ◌⊎◌, inl, inr}
use mathlib.Core.Bool.{Bool, true, false, not, ◌&&◌, true≢false, false≢true}
use mathlib.Core.List.{List, [], ◌∷◌}
use Prim.Native.Nat.{ℕ, ◌≤◌, ◌<◌}
use borrow.Author.Tests.{eqb-true, eq-eqb, ne_eqb, ltb-true, lt-ltb, not-false}
use lib.Dec.{eqb, ltb}
use lib.IntN.{ℤ, nat_abs, ◌*ℤ◌}
use lib.Ieee.{Float}
use lib.Ieee.Positive.{positive}
use Rattle.whole.specs.Sum.{sum}
use Rattle.rules.specs.Limits.{power_in_range, sizes_in_range}
use Rattle.rules.specs.Search.{Found, none, found, first}
use Rattle.rules.specs.Problem.{Problem}
use Rattle.rules.specs.Stages.{run}
use Rattle.rules.specs.Formulas.{is_none, d, group}
use Rattle.rules.specs.Calls.{Check, Verdict, taken, refused, verdict, build_of, problem_fits, inputs_check}
use Rattle.rules.specs.Gauges.{Readings, reading, lent_readings, two, group_value, running_values, Between, Every, is_out, some, leaves_range}
use Rattle.rules.specs.Gauges.{readings_check, group_check, powers_check, running_check, gauge_checks, nought}
use Rattle.rules.specs.Gauges.{Gauged, value, gauged_by, gauge_of, GaugeAnswer, gauge_answer}
use Rattle.theory.proofs.Accepted.{AllPass, unless-none}
use Rattle.theory.proofs.Gauges.{gauge_not_0, carries_nought}
use Rattle.theory.proofs.Powers.{Held}
use Rattle.theory.proofs.Operations.{running_exponents, value_same}
use Rattle.theory.proofs.Exactness.{group_exact, stays-in_range, between-held}
use Rattle.scaling.specs.declared.BuildAnswer.{BuildAnswer}
use Rattle.scaling.specs.BuildPromise.{Builds}
use Rattle.gauges.specs.declared.Gauged as declared
use Rattle.gauges.specs.declared.Gauged.TheVariants.{Value, Refused}
use Rattle.gauges.specs.Gauging.{told}
use Rattle.bench.specs.declared.GaugeAnswer as bench
use Rattle.bench.specs.GaugePromise.{Gauges}
use Rattle.demands.proofs.Order.{DecidedBy, FirstAt, found_exactly, none_exactly, taken_exactly, refused_exactly, numbers}
use Rattle.demands.proofs.Limits.{and_exactly, power_exactly, problem_fits_exactly, well_formed_exactly, unless_exactly, flag_exactly}
use Rattle.demands.proofs.Table.{Row, NotAt, row_at, ProblemLengths}
use Rattle.demands.proofs.Refusals.{Ordered, ordered}
use Rattle.demands.proofs.NormalForms.{Accepted}
use Rattle.demands.proofs.Formulas.{group_in, groups_are, group_is}

-- ---- what the group is worked out from
-- the exponents of group g, and the readings, quantity by quantity
abbrev pub exponents : Problem → (g : ℕ) → ℕ → ℤ
exponents P g = group P (run P) g

-- the running values: 1.0, and the value after each product and quotient
abbrev pub running_of : Problem → Readings → (g : ℕ) → List Float
running_of P R g = running_values P.n (exponents P g) (reading R)

-- what must hold for a value, check by check
pub record Asked (P : Problem) (R : Readings) (g : ℕ) : Type 0 where
  pub accepted : Accepted P
  pub count : R.count ≡ P.n
  pub readings : (j : ℕ) → j < P.n → positive (reading R j) ≡ true
  pub there : g < d P (run P)
  pub powers : (j : ℕ) → j < P.n → nat_abs (exponents P g j) ≤ 64
  pub running : Every (λ r. is_out r ≡ false) (running_of P R g)

-- ---- the checks that are this order's own: for each when it finds no fault, and when it finds one at a place
-- R22.10, 2: the lengths of the problem, and a count other than n
abbrev pub GaugeLengths : Problem → Readings → Type 0
GaugeLengths P R = ProblemLengths P × (R.count ≡ P.n)

pub gauge_lengths_exactly : (P : Problem) (R : Readings) → (problem_fits P && eqb R.count P.n ≡ true) ↔ GaugeLengths P R
gauge_lengths_exactly P R =
    and_exactly (problem_fits P) (eqb R.count P.n) (problem_fits_exactly P) (eqb-true R.count P.n, eq-eqb R.count P.n)

pub row_2_gauge : (P : Problem) (R : Readings) → Row (inputs_check (problem_fits P && eqb R.count P.n)) 2 (GaugeLengths P R) (NotAt 0 (GaugeLengths P R))
row_2_gauge P R = row_at 0 2 (problem_fits P && eqb R.count P.n) (GaugeLengths P R) (gauge_lengths_exactly P R)

-- R22.6, 11: each of the first n readings is finite and above zero; the place is the first that is not
module _ (n : ℕ) (x : ℕ → Float) where
  abbrev bad : ℕ → Bool
  bad j = not (positive (x j))

  pub row_11 : Row (readings_check n x) 11 ((j : ℕ) → j < n → positive (x j) ≡ true) (FirstAt (λ j. not (positive (x j))) n)
  row_11 = record {
    its_number = refl;
    passes_exactly = (
      λ f j l. not-false (positive (x j)) ((none_exactly bad n).0 f j l),
      λ h. (none_exactly bad n).1 (λ j l. ap not (h j l)),
    );
    given_exactly = found_exactly bad n;
  }

-- R22.7, 24: the group is one of d; the place is its number
pub row_24 : (d g : ℕ) → Row (group_check d g) 24 (g < d) (NotAt g (g < d))
row_24 d g = row_at g 24 (ltb g d) (g < d) (ltb-true g d, lt-ltb g d)

-- R22.8, 12: its exponents are within 64; the place is its number
module _ (n : ℕ) (v : ℕ → ℤ) (g : ℕ) where
  abbrev large : ℕ → Bool
  large j = not (power_in_range (v j))

  abbrev Small : Type 0
  Small = (j : ℕ) → j < n → nat_abs (v j) ≤ 64

  small_exactly : (is_none (first large 0 n) ≡ true) ↔ Small
  small_exactly = (
    λ e j l. (power_exactly (v j)).0 (not-false (power_in_range (v j)) ((none_exactly large n).0 (none_of (first large 0 n) e) j l)),
    λ h. ap is_none ((none_exactly large n).1 (λ j l. ap not ((power_exactly (v j)).1 (h j l)))),
  )
    where
      none_of : (f : Found) → is_none f ≡ true → f ≡ none
      none_of none e = refl
      none_of (found j) e = absurd (false≢true e)

  pub row_12 : Row (powers_check n v g) 12 ((j : ℕ) → j < n → nat_abs (v j) ≤ 64) (NotAt g ((j : ℕ) → j < n → nat_abs (v j) ≤ 64))
  row_12 = row_at g 12 (is_none (first large 0 n)) Small small_exactly

-- R22.9, 13: no running value is zero, infinite or a NaN; the place is the group's number
none_out : (l : List Float) → (not (some is_out l) ≡ true) ↔ Every (λ r. is_out r ≡ false) l
none_out [] = (λ _. tt, λ _. refl)
none_out (r ∷ l) = go (is_out r) refl (none_out l)
  where
    go : (b : Bool) → is_out r ≡ b → (not (some is_out l) ≡ true) ↔ Every (λ r. is_out r ≡ false) l
        → (not (elim b [ true ↦ true | false ↦ some is_out l ]) ≡ true) ↔ ((is_out r ≡ false) × Every (λ r. is_out r ≡ false) l)
    go true e rest = (λ f. absurd (false≢true f), λ h. absurd (true≢false (sym e ∙ h.0)))
    go false e rest = (λ f. (e, rest.0 f), λ h. rest.1 h.1)

pub row_13 : (n : ℕ) (v : ℕ → ℤ) (x : ℕ → Float) (g : ℕ)
    → Row (running_check n v x g) 13 (Every (λ r. is_out r ≡ false) (running_values n v x)) (NotAt g (Every (λ r. is_out r ≡ false) (running_values n v x)))
unfolding leaves_range
row_13 n v x g = row_at g 13 (not (leaves_range n v x)) (Every (λ r. is_out r ≡ false) (running_values n v x)) (none_out (running_values n v x))

-- ---- all of them
module _ (P : Problem) (R : Readings) (g : ℕ) where
  -- their numbers, in the order in which they are asked
  pub gauge_numbers : numbers (gauge_checks P R g) ≡ 1 ∷ 2 ∷ 4 ∷ 5 ∷ 7 ∷ 11 ∷ 24 ∷ 12 ∷ 13 ∷ []
  gauge_numbers = refl

  pub asked_exactly : AllPass (gauge_checks P R g) ↔ Asked P R g
  asked_exactly = (to, back)
    where
      to : AllPass (gauge_checks P R g) → Asked P R g
      to a =
          let lengths = (row_2_gauge P R).passes_exactly.0 a.1.0 in
          let own = a.1.1.1.1.1 in
          record {
            accepted = record {
              well_formed = (well_formed_exactly P).0 (unless-none (sizes_in_range P.m P.n) a.0, (problem_fits_exactly P).1 lengths.0, a.1.1.0, a.1.1.1.0);
              in_range = (flag_exactly (run P)).0 a.1.1.1.1.0;
            };
            count = lengths.1;
            readings = (row_11 P.n (reading R)).passes_exactly.0 own.0;
            there = (row_24 (d P (run P)) g).passes_exactly.0 own.1.0;
            powers = (row_12 P.n (exponents P g) g).passes_exactly.0 own.1.1.0;
            running = (row_13 P.n (exponents P g) (reading R) g).passes_exactly.0 own.1.1.1.0;
          }

      back : Asked P R g → AllPass (gauge_checks P R g)
      back A =
          let L = (well_formed_exactly P).1 A.accepted.well_formed in (
            (unless_exactly (sizes_in_range P.m P.n)).1 L.0,
            (
              (row_2_gauge P R).passes_exactly.1 ((problem_fits_exactly P).0 L.1, A.count),
              (
                L.2,
                (
                  L.3,
                  (
                    (flag_exactly (run P)).1 A.accepted.in_range,
                    (
                      (row_11 P.n (reading R)).passes_exactly.1 A.readings,
                      (
                        (row_24 (d P (run P)) g).passes_exactly.1 A.there,
                        ((row_12 P.n (exponents P g) g).passes_exactly.1 A.powers, ((row_13 P.n (exponents P g) (reading R) g).passes_exactly.1 A.running, tt)),
                      ),
                    ),
                  ),
                ),
              ),
            ),
          )

-- ---- a refusal: the first check that finds a fault gives number and place; 11 carries the reading at that place, every other number 0.0
pub record GaugeRefused (P : Problem) (R : Readings) (g : ℕ) (a : GaugeAnswer) : Type 0 where
  pub decided : DecidedBy (gauge_checks P R g) a.number a.place
  pub carries_reading : a.number ≡ 11 → a.value ≡ reading R a.place
  pub carries_0 : a.number ≢ 11 → a.value ≡ nought

module _ (P : Problem) (R : Readings) (g : ℕ) where
  abbrev Decided : GaugeAnswer → Type 0
  Decided a = Ordered (gauge_checks P R g) a.number a.place (GaugeRefused P R g a)

  -- of the answer in plain numbers: the checks decide in their order
  pub answer-ordered : Decided (gauge_answer (gauge_of P R g))
  unfolding gauge_of
  answer-ordered =
      let a = by (verdict checks) in
      ordered checks a.number a.place (GaugeRefused P R g a) (λ F. F.decided)
      (λ k p D. gauge_not_0 P R g k p ((refused_exactly checks k p).1 D)) (go (verdict checks) refl)
    where
      checks : List Check
      checks = gauge_checks P R g

      by : Verdict → GaugeAnswer
      by x = gauge_answer (gauged_by P.n (exponents P g) (reading R) x)

      go : (x : Verdict) → verdict checks ≡ x → (AllPass checks × ((by x).number ≡ 0) × ((by x).place ≡ 0)) ⊎ GaugeRefused P R g (by x)
      go taken e = inl ((taken_exactly checks).0 e, refl, refl)
      go (refused number place) e = inr (record {
        decided = (refused_exactly checks number place).0 e;
        carries_reading = λ k. ap (λ (b : Bool). elim b as (λ _. Float) [ true ↦ reading R place | false ↦ nought ]) (eq-eqb number 11 k);
        carries_0 = λ k. carries_nought (reading R) number place (ne_eqb number 11 k);
      })

  -- the value is that of the operations, to the bit
  pub value_is : Asked P R g → gauge_of P R g ≡ value (group_value P.n (exponents P g) (reading R))
  unfolding gauge_of
  value_is A = ap (gauged_by P.n (exponents P g) (reading R)) ((taken_exactly (gauge_checks P R g)).1 ((asked_exactly P R g).1 A))

  pub value_exactly : ((gauge_answer (gauge_of P R g)).number ≡ 0) ↔ Asked P R g
  value_exactly =
      let e = answer-ordered.accepts_exactly in
      let k = asked_exactly P R g in
      (λ z. k.0 (e.0 z), λ A. e.1 (k.1 A))

  -- the same exponents stand in the V that a build of the problem left: those of the group's column
  module _ (h v w : List ℤ) (b : BuildAnswer) (h₁ v₁ w₁ : List ℤ) (builds : Builds (build_of P h v w) b h₁ v₁ w₁) (built : b.number ≡ 0) where
    pub value_from_build : Asked P R g → gauge_of P R g ≡ value (group_value P.n (group_in P b v₁ g) (reading R))
    value_from_build A =
        value_is A
        ∙ ap value (value_same P.n (exponents P g) (group_in P b v₁ g) (reading R) (reading R)
        (λ j l. sym (group_is P h v w b h₁ v₁ w₁ builds built g j (rw (groups_are P h v w b h₁ v₁ w₁ builds built) A.there) l)) (λ j l. refl))

-- ---- R22.4, exact on powers of two: the reading of quantity j is 2 ^ e j, and the value has the exponent that the whole numbers add up to. Nothing is asked of
-- the size of a reading, so subnormal ones, from 2^-1074 on, are included.
pub record PowersOfTwo (P : Problem) (R : Readings) (g : ℕ) (e : ℕ → ℤ) : Type 0 where
  pub accepted : Accepted P
  pub count : R.count ≡ P.n
  pub there : g < d P (run P)
  pub powers : (j : ℕ) → j < P.n → nat_abs (exponents P g j) ≤ 64
  pub readings : (j : ℕ) → j < P.n → reading R j ≡ two (e j)

module _ (P : Problem) (R : Readings) (g : ℕ) (e : ℕ → ℤ) (T : PowersOfTwo P R g e) where
  asked : Every Held (running_exponents P.n (exponents P g) e) → Asked P R g
  unfolding leaves_range
  asked held = record {
    accepted = T.accepted;
    count = T.count;
    readings = λ j l. ap positive (T.readings j l);
    there = T.there;
    powers = T.powers;
    running = (none_out (running_of P R g)).0 (ap not (stays-in_range P.n (exponents P g) e (reading R) T.readings held));
  }

  -- by whole numbers alone: the running exponents, 0 and what each unit adds or takes, stay from -1074 to 1023
  pub exact_by_exponents : Every Held (running_exponents P.n (exponents P g) e) → gauge_of P R g ≡ value (two (sum P.n (λ j. exponents P g j *ℤ e j)))
  exact_by_exponents held =
      value_is P R g (asked held) ∙ ap value (group_exact P.n (exponents P g) e (reading R) T.readings held)

  -- by the running values: they lie from 2^-1022 to 2^1023
  pub exact_power : Every Between (running_of P R g) → gauge_of P R g ≡ value (two (sum P.n (λ j. exponents P g j *ℤ e j)))
  exact_power within = exact_by_exponents (between-held P.n (exponents P g) e (reading R) T.readings within)

-- ---- the two cases of what gauges::gauge answers
told-once : (a b : declared.Gauged) → told a ≡ told b → a ≡ b
told-once (Value x) (Value y) h = cc
told-once (Value x) (Refused k p y) h = cc
told-once (Refused k p x) (Value y) h = cc
told-once (Refused k p x) (Refused l q y) h = cc

pub record IsRefused (P : Problem) (R : Readings) (g : ℕ) (r : declared.Gauged) : Type 0 where
  pub number : ℕ
  pub place : ℕ
  pub carried : Float
  pub is : r ≡ Refused number place carried
  pub refused : GaugeRefused P R g (record { number = number; place = place; value = carried })

module _ (P : Problem) (R : Readings) (g : ℕ) (r : declared.Gauged) (promise : told r ≡ gauge_of P R g) where
  pub gauge_value : Asked P R g → r ≡ Value (group_value P.n (exponents P g) (reading R))
  gauge_value A = told-once r (Value (group_value P.n (exponents P g) (reading R))) (promise ∙ value_is P R g A)

  pub gauge_exact : (e : ℕ → ℤ) → PowersOfTwo P R g e → Every Between (running_of P R g) → r ≡ Value (two (sum P.n (λ j. exponents P g j *ℤ e j)))
  gauge_exact e T within = told-once r (Value (two (sum P.n (λ j. exponents P g j *ℤ e j)))) (promise ∙ exact_power P R g e T within)

  pub value-or-refusal : (Asked P R g × (r ≡ Value (group_value P.n (exponents P g) (reading R)))) ⊎ IsRefused P R g r
  value-or-refusal = go (answer-ordered P R g).answered
    where
      number_of : (x : declared.Gauged) → told x ≡ gauge_of P R g → GaugeRefused P R g (gauge_answer (told x)) → IsRefused P R g x
      number_of (Value x) p F =
          absurd (gauge_not_0 P R g 0 0 ((refused_exactly (gauge_checks P R g) 0 0).1 F.decided) refl)
      number_of (Refused number place x) p F = record { number = number; place = place; carried = x; is = refl; refused = F }

      go : (AllPass (gauge_checks P R g) × ((gauge_answer (gauge_of P R g)).number ≡ 0) × ((gauge_answer (gauge_of P R g)).place ≡ 0))
          ⊎ GaugeRefused P R g (gauge_answer (gauge_of P R g))
          → (Asked P R g × (r ≡ Value (group_value P.n (exponents P g) (reading R)))) ⊎ IsRefused P R g r
      go (inl a) = let A = (asked_exactly P R g).0 a.0 in inl (A, gauge_value A)
      go (inr F) = inr (number_of r promise (subst (λ (x : Gauged). GaugeRefused P R g (gauge_answer x)) (sym promise) F))

pub one_gauge : {x : Gauged} {r r' : declared.Gauged} → told r ≡ x → told r' ≡ x → r ≡ r'
one_gauge {x} {r} {r'} p q = told-once r r' (p ∙ sym q)

-- ---- the same of glaukemis_gauge, whose set of readings is the lent list
abbrev plain : bench.GaugeAnswer → GaugeAnswer
plain r = record { number = r.number; place = r.place; value = r.value }

is_plain : {a : GaugeAnswer} {r : bench.GaugeAnswer} → Gauges a r → plain r ≡ a
is_plain B = λ i. record { number = B.number i; place = B.place i; value = B.value i }

module _ (P : Problem) (lent : List Float) (g : ℕ) (r : bench.GaugeAnswer) (promise : Gauges (gauge_answer (gauge_of P (lent_readings lent) g)) r) where
  pub c_gauge_ordered : Ordered (gauge_checks P (lent_readings lent) g) r.number r.place (GaugeRefused P (lent_readings lent) g (plain r))
  c_gauge_ordered = subst (Decided P (lent_readings lent) g) (sym (is_plain promise)) (answer-ordered P (lent_readings lent) g)

  -- the number is 0 exactly when there is a value, and then it is that of the operations
  pub c_gauge_exactly : (r.number ≡ 0) ↔ Asked P (lent_readings lent) g
  c_gauge_exactly = subst (λ (a : GaugeAnswer). (a.number ≡ 0) ↔ Asked P (lent_readings lent) g) (sym (is_plain promise)) (value_exactly P (lent_readings lent) g)

  pub c_gauge_value : Asked P (lent_readings lent) g → plain r ≡ record { number = 0; place = 0; value = group_value P.n (exponents P g) (reading (lent_readings lent)) }
  c_gauge_value A = is_plain promise ∙ ap gauge_answer (value_is P (lent_readings lent) g A)

  pub c_gauge_exact : (e : ℕ → ℤ) → PowersOfTwo P (lent_readings lent) g e → Every Between (running_of P (lent_readings lent) g)
      → plain r ≡ record { number = 0; place = 0; value = two (sum P.n (λ j. exponents P g j *ℤ e j)) }
  c_gauge_exact e T within = is_plain promise ∙ ap gauge_answer (exact_power P (lent_readings lent) g e T within)

pub one_c_gauge : {a : GaugeAnswer} {r r' : bench.GaugeAnswer} → Gauges a r → Gauges a r' → r ≡ r'
one_c_gauge B D = λ i. record {
  number = (B.number ∙ sym D.number) i;
  place = (B.place ∙ sym D.place) i;
  value = (B.value ∙ sym D.value) i;
}
