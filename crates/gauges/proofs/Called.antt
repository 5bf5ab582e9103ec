-- The call: sizes and count come first, past them a refusal of the build is one of the call, and otherwise V holds the groups.
use mathlib.Core.Path.{◌≡◌, refl, sym, ap, ap₂, ◌∙◌}
use mathlib.Core.Logic.{◌≢◌}
use mathlib.Core.Bool.{Bool, true, false, ◌&&◌}
use mathlib.Core.List.{List, [], ◌∷◌, ◌++◌}
use Prim.Native.Nat.{ℕ, ◌+◌, ◌-◌, ◌*◌, ◌≤◌, ◌<◌}
use native.Mathlib.Nat.{add-mul, suc-mul, mul-le-mul}
use native.Mathlib.Omega.{arith}
use borrow.Author.Tests.{eq-eqb, ne_eqb}
use lib.Arith.{digits_lt}
use lib.Dec.{eqb}
use lib.ListN.{length, take}
use lib.IntN.{ℤ}
use Rattle.std.specs.Prelude.{Result, Ok, Err}
use Rattle.std.specs.Float.{nan}
use Rattle.std.proofs.lemmas.List.{get_or-take}
use Rattle.whole.specs.Lists.{nth}
use Rattle.rules.specs.Limits.{sizes_in_range}
use Rattle.rules.specs.Problem.{Problem, WellFormed, s, N}
use Rattle.rules.specs.Stages.{run, U}
use Rattle.rules.specs.Formulas.{d, group}
use Rattle.rules.specs.Calls.{Check, Verdict, taken, refused, verdict, unless, problem_fits, moduli_check, entries_check, range_check, inputs_check, outputs_check}
use Rattle.rules.specs.Calls.{built, contents_v}
use Rattle.rules.specs.Gauges.{Readings, read, reading, own_checks, nought, refusal, gauged_by, gauge_of}
use Rattle.theory.proofs.Refusals.{goes_on, stays, never-given}
use Rattle.theory.proofs.Grid.{table_filled}
use Rattle.theory.proofs.Sizes.{N-le_24}
use Rattle.theory.proofs.Run.{run_right}
use Rattle.theory.proofs.Gauges.{carries_nought, own_same}
use Rattle.checks.specs.Refusals.{number_of, place_of, told}
use Rattle.checks.specs.declared.Refusal.{Refusal}
use Rattle.scaling.specs.declared.Built.{Built}
use Rattle.scaling.specs.Answers.{answer_of}
use Rattle.scaling.specs.BuildPromise.{Builds}
use Rattle.scaling.proofs.Called.{Called, build_says, build_taken, build_well_formed}
use Rattle.gauges.specs.Gauging.{column, Table, evaluate_of}

-- ---- two verdicts: of a build with room enough, and of a call that also asks for the count; `own` are its later checks
abbrev of_call : (sizes fits counted : Bool) → (rest own : List Check) → Verdict
of_call s f c rest own = verdict (record { number = 1; fault = unless s } ∷ inputs_check (f && c) ∷ rest ++ own)

abbrev of_room : (sizes fits : Bool) → List Check → Verdict
of_room s f rest = verdict (record { number = 1; fault = unless s } ∷ inputs_check f ∷ outputs_check true ∷ rest)

count_next : (f : Bool) (rest own : List Check) → of_call true f false rest own ≡ refused 2 0
count_next true rest own = refl
count_next false rest own = refl

then-others : (s f : Bool) (rest own : List Check) (k p : ℕ) → of_room s f rest ≡ refused k p → of_call s f true rest own ≡ refused k p
then-others false f rest own k p e = e
then-others true false rest own k p e = e
then-others true true rest own k p e = stays rest own k p e

then-own : (s f : Bool) (rest own : List Check) → of_room s f rest ≡ taken → of_call s f true rest own ≡ verdict own
then-own false f rest own e = let z : ◌≡◌ {A = ℕ} 0 1 = cc in absurd (omega arith)
then-own true false rest own e = let z : ◌≡◌ {A = ℕ} 0 1 = cc in absurd (omega arith)
then-own true true rest own e = goes_on rest own e

-- ---- a call
module _ (P : Problem) (R : Readings) (g : ℕ) where
  abbrev rest : List Check
  rest = moduli_check P ∷ entries_check P ∷ range_check (run P) ∷ []

  abbrev own : List Check
  own = own_checks P.n (d P (run P)) (group P (run P) g) (reading R) g

  decided : {x : Verdict} (s c : Bool) → sizes_in_range P.m P.n ≡ s → eqb R.count P.n ≡ c → of_call s (problem_fits P) c rest own ≡ x
      → gauge_of P R g ≡ gauged_by P.n (group P (run P) g) (reading R) x
  unfolding gauge_of
  decided s c a b e = ap (gauged_by P.n (group P (run P) g) (reading R)) (ap₂ (λ s c. of_call s (problem_fits P) c rest own) a b ∙ e)

  pub refused_for_sizes : sizes_in_range P.m P.n ≡ false → gauge_of P R g ≡ refusal 1 0 nought
  refused_for_sizes a = decided false _ a refl refl

  pub refused_for_count : sizes_in_range P.m P.n ≡ true → R.count ≢ P.n → gauge_of P R g ≡ refusal 2 0 nought
  refused_for_count a c = decided true false a (ne_eqb R.count P.n c) (count_next (problem_fits P) rest own)

-- ---- a call, and what the build in it promised
module _ {P : Problem} {h v w : List ℤ} {r : Result Built Refusal} {h₁ v₁ w₁ : List ℤ} (K : Called P h v w r h₁ v₁ w₁) where
  module _ (R : Readings) (g : ℕ) (counted : R.count ≡ P.n) where
    pub refused_by_build : {e : Refusal} → r ≡ Err e → gauge_of P R g ≡ refusal (number_of e) (place_of e) nought
    refused_by_build {e} is =
        let x = sym (build_says K) ∙ ap told is in
        let not-11 : number_of e ≢ 11 = never-given 11 (record { number = 1; fault = unless (sizes_in_range P.m P.n) } ∷ inputs_check (problem_fits P) ∷ outputs_check true ∷ rest P R g)
        (λ q f z. omega arith, (λ q f z. omega arith, (λ q f z. omega arith, (λ q f z. omega arith, (λ q f z. omega arith, (λ q f z. omega arith, tt))))))
        (number_of e) (place_of e) x in
        decided P R g _ true refl (eq-eqb R.count P.n counted) (then-others (sizes_in_range P.m P.n) (problem_fits P) (rest P R g) (own P R g) (number_of e) (place_of e) x)
        ∙ ap (refusal (number_of e) (place_of e)) (carries_nought (reading R) (number_of e) (place_of e) (ne_eqb (number_of e) 11 not-11))

    taken_by_build : {b : Built} → r ≡ Ok b → gauge_of P R g ≡ gauged_by P.n (group P (run P) g) (reading R) (verdict (own P R g))
    taken_by_build is =
        decided P R g _ true refl (eq-eqb R.count P.n counted) (then-own (sizes_in_range P.m P.n) (problem_fits P) (rest P R g) (own P R g) (sym (build_says K) ∙ ap told is))

  -- ---- the groups in V of a build that was taken; cols is N of R5.1
  module _ {b : Built} (e : r ≡ Ok b) where
    B : Builds (built P h v w taken) (answer_of (Ok b)) h₁ v₁ w₁
    B = build_taken K e

    pub well_formed : WellFormed P
    well_formed = build_well_formed K e

    abbrev cols : ℕ
    cols = P.n + b.moduli

    cols_are : cols ≡ N P
    cols_are = ap (λ (k : ℕ). P.n + k) B.moduli

    pub few-cols : cols ≤ 24
    few-cols = omega (arith, cols_are, N-le_24 P well_formed)

    pub rank_in : b.rank ≤ cols
    rank_in = omega (arith, cols_are, B.rank, (run_right P).hermite.rank)

    pub groups_are : cols - b.rank ≡ d P (run P)
    groups_are = omega (arith, cols_are, B.rank)

    -- the row of quantity j in V
    row_is : (g j : ℕ) → b.moduli * cols + b.rank + g + j * cols ≡ (b.moduli + j) * cols + (b.rank + g)
    row_is g j = omega (arith, add-mul b.moduli j cols)

    module _ (long : length v₁ ≡ 576) where
      square : cols * cols ≤ 576
      square = mul-le-mul few-cols few-cols

      pub table : Table P.n (cols - b.rank) v₁ (b.moduli * cols + b.rank) cols
      table = record {
        begins = omega (arith, rank_in, square, suc-mul b.moduli cols, mul-le-mul {n₁ = 1 + b.moduli} {m₁ = cols} first_rows (refl_le cols), long);
        columns = λ g l. record {
          each = λ j k. omega (arith, row_is g j, digits_lt {m = cols} (in_rows j k) (in_columns g l), square, long);
        };
      }
        where
          first_rows : 1 + b.moduli ≤ cols
          first_rows = omega (arith, well_formed.n-low)

          refl_le : (k : ℕ) → k ≤ k
          refl_le k = omega arith

          in_rows : (j : ℕ) → j < P.n → b.moduli + j < cols
          in_rows j k = omega arith

          in_columns : (g : ℕ) → g < cols - b.rank → b.rank + g < cols
          in_columns g l = omega (arith, rank_in)

    exponent_is : (g j : ℕ) → g < cols - b.rank → j < P.n → column v₁ (b.moduli * cols + b.rank) cols g j ≡ group P (run P) g j
    unfolding contents_v group
    exponent_is g j l k =
        ap (nth v₁) (row_is g j)
        ∙ ap (λ (c : ℕ). nth v₁ ((b.moduli + j) * c + (b.rank + g))) cols_are
        ∙ ap₂ (λ (a b : ℕ). nth v₁ ((a + j) * N P + (b + g))) B.moduli B.rank
        ∙ ap (λ (l : List ℤ). nth l ((s P + j) * N P + ((run P).rank + g))) B.v
        ∙ table_filled (N P) (N P) (U (run P)) v (s P + j) ((run P).rank + g) (omega (arith, B.moduli)) (omega (arith, groups_are))

    pub evaluated : (R : Readings) (g : ℕ) → R.count ≡ P.n
        → evaluate_of P.n (cols - b.rank) (column v₁ (b.moduli * cols + b.rank) cols g) (read (take P.n R.values)) g ≡ gauge_of P R g
    evaluated R g c =
        rw groups_are
        (own_same P.n (column v₁ (b.moduli * cols + b.rank) cols g) (group P (run P) g) (read (take P.n R.values)) (reading R) (d P (run P)) g
        (λ j l. get_or-take P.n R.values j nan l) (λ l j k. exponent_is g j (rw groups_are l) k))
        ∙ sym (taken_by_build R g c e)
