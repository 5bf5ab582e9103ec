-- Demand 1, the limits. R4.1 to R4.7: each test is passed exactly when the limits hold, and a problem passes 1, 2, 4 and 5 exactly when it is well
-- formed.
use mathlib.Core.Path.{◌≡◌, refl, ap}
use mathlib.Core.Logic.{◌↔◌}
use mathlib.Core.Bool.{Bool, true, false, not, ◌&&◌}
use mathlib.Core.List.{List}
use Prim.Native.Nat.{ℕ, ◌*◌, ◌≤◌}
use lib.Dec.{T, leb, eqb}
use lib.ListN.{length}
use lib.IntN.{ℤ, pos, neg_ℤ, nat_abs}
use lib.Signed.{◌≤ℤ◌, le_z}
use borrow.Author.Tests.{leb-true, le-leb, eqb-true, eq-eqb, not-true}
use Rattle.whole.specs.Lists.{nth}
use Rattle.whole.proofs.Order.{zarith, parts, P-neg, N-neg}
use Rattle.rules.specs.Limits.{within, sizes_in_range, modulus_in_range, entry_in_range, exponent_in_range, power_in_range, most_terms, room_h, room_v, room_w, room_coefficients, room_exponents}
use Rattle.rules.specs.Search.{none}
use Rattle.rules.specs.Problem.{Problem, WellFormed}
use Rattle.rules.specs.Stages.{Run}
use Rattle.rules.specs.Formulas.{Formula, terms}
use Rattle.rules.specs.Calls.{unless, first_out, range_check, problem_fits, formula_fits, checks_to5}
use Rattle.whole.proofs.Tests.{and_both}
use Rattle.theory.proofs.Limits.{between, small}
use Rattle.theory.proofs.Accepted.{AllPass, unless-none, none_out}
use Rattle.scaling.specs.BuildPromise.{RoomToBuild}
use Rattle.formulas.specs.FormulaPromises.{RoomToTranslate}
use Rattle.theory.proofs.Accepted.{Sizes, sizes-passed, lengths-passed}
use Rattle.demands.proofs.Order.{none_out_exactly}

-- ---- tests
pub both : {a b : Bool} → a ≡ true → b ≡ true → a && b ≡ true
both e f = rw (e, f)

pub and_exactly : {A B : Type 0} (a b : Bool) → (a ≡ true) ↔ A → (b ≡ true) ↔ B → (a && b ≡ true) ↔ (A × B)
and_exactly a b e f = (λ x. let y = and_both a b x in (e.0 y.0, f.0 y.1), λ x. both (e.1 x.0) (f.1 x.1))

-- a check whose place is 0 passes exactly when its test does
pub unless_exactly : (b : Bool) → (unless b ≡ none) ↔ (b ≡ true)
unless_exactly b = (unless-none b, λ e. ap unless e)

pub at_least : (least k : ℕ) → (leb least k ≡ true) ↔ (least ≤ k)
at_least least k = (leb-true least k, le-leb least k)

-- ---- 1: R2.1
pub sizes_exactly : (m n : ℕ) → (sizes_in_range m n ≡ true) ↔ Sizes m n
sizes_exactly m n = (sizes-passed m n, λ S. both (both (le-leb 1 m S.m-low) (le-leb m 8 S.m-high)) (both (le-leb 1 n S.n-low) (le-leb n 16 S.n-high)))

-- ---- 2: the lengths of R4.2
pub problem_fits_exactly : (P : Problem) → (problem_fits P ≡ true) ↔ ((length P.matrix ≡ P.m * P.n) × (length P.moduli ≡ P.m))
problem_fits_exactly P = (
  lengths-passed P,
  λ l. both (eq-eqb (length P.matrix) (P.m * P.n) l.0) (eq-eqb (length P.moduli) P.m l.1),
)

pub formula_fits_exactly : (P : Problem) (f : Formula) → (formula_fits P f ≡ true) ↔ ((length f.exponents ≡ terms f * P.n) × (terms f ≤ 64))
formula_fits_exactly P f = (
  λ e. let a = and_both (eqb (length f.exponents) (terms f * P.n)) (leb (terms f) most_terms) e in
      (eqb-true (length f.exponents) (terms f * P.n) a.0, leb-true (terms f) most_terms a.1),
  λ l. both (eq-eqb (length f.exponents) (terms f * P.n) l.0) (le-leb (terms f) most_terms l.1),
)

-- ---- 3: the room of R2.9
pub build_room_exactly : (h v w : List ℤ) → (leb room_h (length h) && leb room_v (length v) && leb room_w (length w) ≡ true) ↔ RoomToBuild h v w
build_room_exactly h v w = (
  λ e.
      let a = and_both (leb room_h (length h) && leb room_v (length v)) (leb room_w (length w)) e in
      let b = and_both (leb room_h (length h)) (leb room_v (length v)) a.0 in
      record { h = leb-true room_h (length h) b.0; v = leb-true room_v (length v) b.1; w = leb-true room_w (length w) a.1 },
  λ R. both (both (le-leb room_h (length h) R.h) (le-leb room_v (length v) R.v)) (le-leb room_w (length w) R.w),
)

pub translate_room_exactly : (kept out : List ℤ) → (leb room_coefficients (length kept) && leb room_exponents (length out) ≡ true) ↔ RoomToTranslate kept out
translate_room_exactly kept out = (
  λ e.
      let a = and_both (leb room_coefficients (length kept)) (leb room_exponents (length out)) e in
      record { kept = leb-true room_coefficients (length kept) a.0; translated = leb-true room_exponents (length out) a.1 },
  λ R. both (le-leb room_coefficients (length kept) R.kept) (le-leb room_exponents (length out) R.translated),
)

-- ---- 4, 5 and 6: R2.3, R2.2 and R2.6
true_of : (b : Bool) → T b → b ≡ true
true_of true t = refl
true_of false t = absurd t

le_z_is : (a b : ℤ) → a ≤ℤ b → le_z a b ≡ true
le_z_is a b h = true_of (le_z a b) h.le

-- from -k to k
either_way : (k : ℕ) (z : ℤ) → (within (neg_ℤ (pos k)) (pos k) z ≡ true) ↔ (nat_abs z ≤ k)
either_way k z = (
  small k z,
  λ h. both (le_z_is (neg_ℤ (pos k)) z (omega (zarith, parts z, P-neg (pos k), N-neg (pos k)))) (le_z_is z (pos k) (omega (zarith, parts z))),
)

pub entry_exactly : (z : ℤ) → (entry_in_range z ≡ true) ↔ (nat_abs z ≤ 1000)
entry_exactly z = either_way 1000 z

pub exponent_exactly : (z : ℤ) → (exponent_in_range z ≡ true) ↔ (nat_abs z ≤ 10_000)
exponent_exactly z = either_way 10_000 z

-- 12: R22.8
pub power_exactly : (z : ℤ) → (power_in_range z ≡ true) ↔ (nat_abs z ≤ 64)
power_exactly z = either_way 64 z

pub modulus_exactly : (z : ℤ) → (modulus_in_range z ≡ true) ↔ ((pos 0 ≤ℤ z) × (nat_abs z ≤ 1000))
modulus_exactly z = (
  λ e. let b = between (pos 0) (pos 1000) z e in
      (b.0, omega (zarith, b.0, b.1, parts z)),
  λ h. both (le_z_is (pos 0) z h.0) (le_z_is z (pos 1000) (omega (zarith, h.1, parts z))),
)

-- ---- 7: what the run's flag tells
pub flag_exactly : (u : Run) → ((range_check u).fault ≡ none) ↔ (u.state.over ≡ false)
flag_exactly u = (λ e. not-true u.state.over (unless-none (not u.state.over) e), λ o. rw o)

-- ---- a problem passes 1, 2, 4 and 5 exactly when it is well formed
abbrev pub PassesLimits : Problem → Type 0
PassesLimits P =
    (sizes_in_range P.m P.n ≡ true) × (problem_fits P ≡ true)
    × (first_out modulus_in_range P.moduli ≡ none) × (first_out entry_in_range P.matrix ≡ none)

pub well_formed_exactly : (P : Problem) → PassesLimits P ↔ WellFormed P
well_formed_exactly P = (to, back)
  where
    to : PassesLimits P → WellFormed P
    to a =
        let sizes = sizes-passed P.m P.n a.0 in
        let lengths = lengths-passed P a.1 in
        let modulus : (i : ℕ) → (pos 0 ≤ℤ nth P.moduli i) × (nat_abs (nth P.moduli i) ≤ 1000)
        = λ i. (modulus_exactly (nth P.moduli i)).0 (none_out modulus_in_range refl P.moduli a.2 i) in
        record {
          m-low = sizes.m-low;
          m-high = sizes.m-high;
          n-low = sizes.n-low;
          n-high = sizes.n-high;
          matrix = lengths.0;
          moduli = lengths.1;
          entries = λ i. (entry_exactly (nth P.matrix i)).0 (none_out entry_in_range refl P.matrix a.3 i);
          moduli-low = λ i. (modulus i).0;
          moduli-high = λ i. (modulus i).1;
        }

    back : WellFormed P → PassesLimits P
    back F = (
      (sizes_exactly P.m P.n).1 (record { m-low = F.m-low; m-high = F.m-high; n-low = F.n-low; n-high = F.n-high }),
      (problem_fits_exactly P).1 (F.matrix, F.moduli),
      (none_out_exactly modulus_in_range P.moduli).1 (λ i _. (modulus_exactly (nth P.moduli i)).1 (F.moduli-low i, F.moduli-high i)),
      (none_out_exactly entry_in_range P.matrix).1 (λ i _. (entry_exactly (nth P.matrix i)).1 (F.entries i)),
    )

-- ---- checks 1 to 5 of a call pass exactly when the problem is well formed, the other inputs have the right lengths and the outputs have room
pub five_exactly : (P : Problem) (inputs outputs : Bool) {More Room : Type 0} → (inputs ≡ true) ↔ ((problem_fits P ≡ true) × More)
    → (outputs ≡ true) ↔ Room → AllPass (checks_to5 P inputs outputs) ↔ (WellFormed P × More × Room)
five_exactly P inputs outputs i o = (
  λ a.
      let x = i.0 (unless-none inputs a.1.0) in
      let sizes = unless-none (sizes_in_range P.m P.n) a.0 in
      ((well_formed_exactly P).0 (sizes, x.0, a.1.1.1.0, a.1.1.1.1.0), x.1, o.0 (unless-none outputs a.1.1.0)),
  λ x.
      let a = (well_formed_exactly P).1 x.0 in (
        (unless_exactly (sizes_in_range P.m P.n)).1 a.0,
        ((unless_exactly inputs).1 (i.1 (a.1, x.1)), ((unless_exactly outputs).1 (o.1 x.2), (a.2, (a.3, tt)))),
      ),
)
