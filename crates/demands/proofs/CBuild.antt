-- Demands 1 and 2 of glaukemis_build, over bytes (R1.4).
-- Demand 1 is of the bytes. A call whose byte lengths are multiples of four does to the numbers that the bytes are (numbers_of of rules/specs/Bytes) what
-- `build` promises, so that demand 2 is of those numbers.
--
-- `promise` is what the call's `ensures` says, whatever m, n and the lent bytes are; the bytes before the call are h, v, w, and h₁, v₁, w₁ after it.
use mathlib.Core.Path.{◌≡◌, refl, sym, ◌∙◌, ap, ap₂, subst}
use mathlib.Core.Logic.{◌↔◌, ◌⊎◌, inl, inr}
use mathlib.Core.Bool.{Bool, true, ◌&&◌}
use mathlib.Core.List.{List}
use Prim.Native.Nat.{ℕ, ◌+◌, ◌*◌, ◌/◌, ◌%◌, ◌≤◌}
use native.Mathlib.Omega.{arith}
use lib.Dec.{leb}
use lib.ListN.{length}
use borrow.Author.Tests.{eqb-true, eq-eqb}
use Rattle.rules.specs.Limits.{room_h, room_v, room_w}
use Rattle.rules.specs.Problem.{Problem, WellFormed, N}
use Rattle.rules.specs.Stages.{run, H, U, W}
use Rattle.rules.specs.Calls.{Check, Verdict, taken, refused, verdict, inputs_check, outputs_check, build_verdict, problem_fits}
use Rattle.rules.specs.Calls.{contents_h, contents_v, contents_w, build_of, built, built_in}
use Rattle.rules.specs.Bytes.{bytes_of, whole_numbers, numbers_in, numbers_of}
use Rattle.rules.specs.Bench.{problem_of, has_room, bench_build_verdict, bench_build_of}
use Rattle.whole.proofs.Tests.{and_both}
use Rattle.theory.proofs.Grid.{length-grid}
use Rattle.theory.proofs.Accepted.{AllPass}
use Rattle.theory.proofs.Sizes.{room_for_H, room_for_v, room_for_W}
use Rattle.theory.proofs.Run.{run_steps}
use Rattle.theory.proofs.Sequence.{written}
use Rattle.theory.proofs.Flag.{SomeBeyond}
use Rattle.scaling.specs.declared.BuildAnswer.{BuildAnswer}
use Rattle.scaling.specs.BuildPromise.{Builds, RoomToBuild}
use Rattle.theory.proofs.Bytes.{length-longs}
use Rattle.demands.proofs.Order.{taken_exactly, refused_exactly, build_checks, build_not_0}
use Rattle.demands.proofs.Limits.{both, and_exactly, at_least, problem_fits_exactly}
use Rattle.demands.proofs.Table.{Row, NotAt0, row_at, ProblemLengths}
use Rattle.demands.proofs.Refusals.{Ordered, ordered, BuildRefused, checks_of_build}
use Rattle.demands.proofs.Buffers.{KeepsRest}
use Rattle.demands.proofs.NormalForms.{Answered, width, all_pass_exactly, build_accepted_exactly, build_answered, range_exactly, taken-or-range}
use Rattle.demands.proofs.Bytes.{numbers-filled, bytes-keep, H-fits, V-fits, W-fits}

-- ---- glaukemis_build: demand 1
-- its checks, with R1.5: a buffer that ends inside a number has a wrong length
abbrev pub inputs_of_c_build : (m n : ℕ) (matrix moduli : List ℕ) → Bool
inputs_of_c_build m n matrix moduli = whole_numbers matrix && whole_numbers moduli && problem_fits (problem_of m n matrix moduli)

abbrev pub outputs_of_c_build : (h v w : List ℕ) → Bool
outputs_of_c_build h v w = has_room room_h h && has_room room_v v && has_room room_w w

abbrev pub checks_of_c_build : (m n : ℕ) (matrix moduli h v w : List ℕ) → List Check
checks_of_c_build m n matrix moduli h v w = build_checks (problem_of m n matrix moduli) (inputs_of_c_build m n matrix moduli) (outputs_of_c_build h v w)

-- 2 and 3 of the table, in bytes
abbrev pub Whole : List ℕ → Type 0
Whole bs = length bs % 4 ≡ 0

abbrev pub RoomIn : ℕ → List ℕ → Type 0
RoomIn room bs = Whole bs × (room ≤ length bs / 4)

pub whole_exactly : (bs : List ℕ) → (whole_numbers bs ≡ true) ↔ Whole bs
whole_exactly bs = (eqb-true (length bs % 4) 0, eq-eqb (length bs % 4) 0)

pub room_exactly : (room : ℕ) (bs : List ℕ) → (has_room room bs ≡ true) ↔ RoomIn room bs
room_exactly room bs = and_exactly (whole_numbers bs) (leb room (numbers_in bs)) (whole_exactly bs) (at_least room (numbers_in bs))

pub record InputsInBytes (m n : ℕ) (matrix moduli : List ℕ) : Type 0 where
  pub matrix-whole : Whole matrix
  pub moduli-whole : Whole moduli
  pub lengths : ProblemLengths (problem_of m n matrix moduli)

pub record OutputsInBytes (h v w : List ℕ) : Type 0 where
  pub h-room : RoomIn 192 h
  pub v-room : RoomIn 576 v
  pub w-room : RoomIn 576 w

pub row_2_c_build : (m n : ℕ) (matrix moduli : List ℕ)
    → Row (inputs_check (inputs_of_c_build m n matrix moduli)) 2 (InputsInBytes m n matrix moduli) (NotAt0 (InputsInBytes m n matrix moduli))
row_2_c_build m n matrix moduli = row_at 0 2 (inputs_of_c_build m n matrix moduli) (InputsInBytes m n matrix moduli) (to, back)
  where
    P : Problem
    P = problem_of m n matrix moduli

    to : inputs_of_c_build m n matrix moduli ≡ true → InputsInBytes m n matrix moduli
    to e =
        let a = and_both (whole_numbers matrix && whole_numbers moduli) (problem_fits P) e in
        let b = and_both (whole_numbers matrix) (whole_numbers moduli) a.0 in
        record {
          matrix-whole = (whole_exactly matrix).0 b.0;
          moduli-whole = (whole_exactly moduli).0 b.1;
          lengths = (problem_fits_exactly P).0 a.1;
        }

    back : InputsInBytes m n matrix moduli → inputs_of_c_build m n matrix moduli ≡ true
    back I = both (both ((whole_exactly matrix).1 I.matrix-whole) ((whole_exactly moduli).1 I.moduli-whole)) ((problem_fits_exactly P).1 I.lengths)

pub row_3_c_build : (h v w : List ℕ) → Row (outputs_check (outputs_of_c_build h v w)) 3 (OutputsInBytes h v w) (NotAt0 (OutputsInBytes h v w))
row_3_c_build h v w = row_at 0 3 (outputs_of_c_build h v w) (OutputsInBytes h v w) (to, back)
  where
    to : outputs_of_c_build h v w ≡ true → OutputsInBytes h v w
    to e =
        let a = and_both (has_room 192 h && has_room 576 v) (has_room 576 w) e in
        let b = and_both (has_room 192 h) (has_room 576 v) a.0 in
        record { h-room = (room_exactly 192 h).0 b.0; v-room = (room_exactly 576 v).0 b.1; w-room = (room_exactly 576 w).0 a.1 }

    back : OutputsInBytes h v w → outputs_of_c_build h v w ≡ true
    back O = both (both ((room_exactly 192 h).1 O.h-room) ((room_exactly 576 v).1 O.v-room)) ((room_exactly 576 w).1 O.w-room)

module _ (m n : ℕ) (matrix moduli h v w : List ℕ) (r : BuildAnswer) (h₁ v₁ w₁ : List ℕ) where
  abbrev c_build_checks : List Check
  c_build_checks = checks_of_c_build m n matrix moduli h v w

  by_verdict : Builds (bench_build_of m n matrix moduli h v w) r h₁ v₁ w₁
      → Builds (built_in bytes_of (problem_of m n matrix moduli) h v w (verdict c_build_checks)) r h₁ v₁ w₁
  unfolding bench_build_of bench_build_verdict build_verdict
  by_verdict promise = promise

  pub c_build_ordered : Builds (bench_build_of m n matrix moduli h v w) r h₁ v₁ w₁
      → Ordered (checks_of_c_build m n matrix moduli h v w) r.number r.place (BuildRefused (checks_of_c_build m n matrix moduli h v w) h v w r h₁ v₁ w₁)
  c_build_ordered promise =
      ordered c_build_checks r.number r.place (BuildRefused c_build_checks h v w r h₁ v₁ w₁) (λ R. R.decided)
      (build_not_0 (problem_of m n matrix moduli) (inputs_of_c_build m n matrix moduli) (outputs_of_c_build h v w))
      (go (verdict c_build_checks) refl (by_verdict promise))
    where
      go : (x : Verdict) → verdict c_build_checks ≡ x → Builds (built_in bytes_of (problem_of m n matrix moduli) h v w x) r h₁ v₁ w₁
          → (AllPass c_build_checks × (r.number ≡ 0) × (r.place ≡ 0)) ⊎ BuildRefused c_build_checks h v w r h₁ v₁ w₁
      go taken e B = inl ((taken_exactly c_build_checks).0 e, B.number, B.place)
      go (refused number place) e B = inr (record {
        decided = (refused_exactly c_build_checks r.number r.place).0 (rw (B.number, B.place) e);
        rank = B.rank;
        moduli = B.moduli;
        steps = B.steps;
        h-held = B.h;
        v-held = B.v;
        w_held = B.w;
      })

-- ---- the same call on the numbers
-- every byte length is a multiple of four
pub record WholeToBuild (matrix moduli h v w : List ℕ) : Type 0 where
  pub matrix-whole : Whole matrix
  pub moduli-whole : Whole moduli
  pub h-whole : Whole h
  pub v-whole : Whole v
  pub w-whole : Whole w

-- the bytes after the first m·N, N·N and N·N numbers are as they were
pub record BytesKept (P : Problem) (h v w : List ℕ) (r : BuildAnswer) (h₁ v₁ w₁ : List ℕ) : Type 0 where
  pub rest_of_h : KeepsRest (4 * (P.m * width P r)) h h₁
  pub rest_of_v : KeepsRest (4 * (width P r * width P r)) v v₁
  pub rest_of_w : KeepsRest (4 * (width P r * width P r)) w w₁

-- room for so many numbers in whole bytes
pub room_same : (room : ℕ) (bs : List ℕ) → Whole bs → has_room room bs ≡ leb room (length (numbers_of bs))
room_same room bs e = ap (λ (b : Bool). b && leb room (numbers_in bs)) ((whole_exactly bs).1 e) ∙ ap (leb room) (sym (length-longs (numbers_in bs) bs))

module _ (m n : ℕ) (matrix moduli h v w : List ℕ) (r : BuildAnswer) (h₁ v₁ w₁ : List ℕ)
    (promise : Builds (bench_build_of m n matrix moduli h v w) r h₁ v₁ w₁) where
  abbrev P : Problem
  P = problem_of m n matrix moduli

  verdict_same : WholeToBuild matrix moduli h v w
      → verdict (checks_of_c_build m n matrix moduli h v w) ≡ verdict (checks_of_build P (numbers_of h) (numbers_of v) (numbers_of w))
  verdict_same F =
      let i : inputs_of_c_build m n matrix moduli ≡ problem_fits P
      = ap₂ (λ (a b : Bool). a && b && problem_fits P) ((whole_exactly matrix).1 F.matrix-whole) ((whole_exactly moduli).1 F.moduli-whole) in
      let o : outputs_of_c_build h v w ≡ leb room_h (length (numbers_of h)) && leb room_v (length (numbers_of v)) && leb room_w (length (numbers_of w))
      = ap₂ ◌&&◌ (ap₂ ◌&&◌ (room_same room_h h F.h-whole) (room_same room_v v F.v-whole)) (room_same room_w w F.w-whole) in
      ap₂ (λ (a b : Bool). verdict (build_checks P a b)) i o

  -- a call whose byte lengths are multiples of four is the call `build` on the numbers that the bytes are
  pub c_build_is_build : WholeToBuild matrix moduli h v w
      → Builds (build_of (problem_of m n matrix moduli) (numbers_of h) (numbers_of v) (numbers_of w)) r (numbers_of h₁) (numbers_of v₁) (numbers_of w₁)
  unfolding build_of build_verdict
  c_build_is_build F =
      go (verdict checks) refl
      (subst (λ (x : Verdict). Builds (built_in bytes_of P h v w x) r h₁ v₁ w₁) (verdict_same F) (by_verdict m n matrix moduli h v w r h₁ v₁ w₁ promise))
    where
      checks : List Check
      checks = checks_of_build P (numbers_of h) (numbers_of v) (numbers_of w)

      go : (x : Verdict) → verdict checks ≡ x → Builds (built_in bytes_of P h v w x) r h₁ v₁ w₁
          → Builds (built P (numbers_of h) (numbers_of v) (numbers_of w) x) r (numbers_of h₁) (numbers_of v₁) (numbers_of w₁)
      go taken e B =
          let A = (all_pass_exactly P (numbers_of h) (numbers_of v) (numbers_of w)).0 ((taken_exactly checks).0 e) in
          let G = A.0.well_formed in
          let o = A.0.in_range in
          let L = G in
          let lh = length-longs (numbers_in h) h in
          let lv = length-longs (numbers_in v) v in
          let lw = length-longs (numbers_in w) w in
          record {
            number = B.number;
            place = B.place;
            rank = B.rank;
            moduli = B.moduli;
            steps = B.steps;
            h = ap numbers_of B.h ∙ numbers-filled (contents_h P) h (H-fits P G o) (omega (arith, room_for_H P L, A.1.h, lh));
            v = ap numbers_of B.v ∙ numbers-filled (contents_v P) v (V-fits P G o) (omega (arith, room_for_v P L, A.1.v, lv));
            w = ap numbers_of B.w ∙ numbers-filled (contents_w P) w (W-fits P G o) (omega (arith, room_for_W P L, A.1.w, lw));
          }
      go (refused number place) e B = record {
        number = B.number;
        place = B.place;
        rank = B.rank;
        moduli = B.moduli;
        steps = B.steps;
        h = ap numbers_of B.h;
        v = ap numbers_of B.v;
        w = ap numbers_of B.w;
      }

  -- an accepted call's byte lengths are multiples of four
  pub c_build_whole : r.number ≡ 0 → WholeToBuild matrix moduli h v w
  c_build_whole e =
      let a = (c_build_ordered m n matrix moduli h v w r h₁ v₁ w₁ promise).accepts_exactly.0 e in
      let I = (row_2_c_build m n matrix moduli).passes_exactly.0 a.1.0 in
      let O = (row_3_c_build h v w).passes_exactly.0 a.1.1.0 in
      record {
        matrix-whole = I.matrix-whole;
        moduli-whole = I.moduli-whole;
        h-whole = O.h-room.0;
        v-whole = O.v-room.0;
        w-whole = O.w-room.0;
      }

  -- demand 2, in the numbers that the bytes are
  pub c_build_answered : r.number ≡ 0
      → Answered (problem_of m n matrix moduli) (numbers_of h) (numbers_of v) (numbers_of w) r (numbers_of h₁) (numbers_of v₁) (numbers_of w₁)
  c_build_answered e =
      build_answered P (numbers_of h) (numbers_of v) (numbers_of w) r (numbers_of h₁) (numbers_of v₁) (numbers_of w₁) (c_build_is_build (c_build_whole e)) e

  -- and every byte after those numbers is untouched
  pub c_build_rest : r.number ≡ 0 → BytesKept (problem_of m n matrix moduli) h v w r h₁ v₁ w₁
  unfolding contents_h contents_v contents_w
  c_build_rest e =
      let a = (c_build_ordered m n matrix moduli h v w r h₁ v₁ w₁ promise).accepts_exactly.0 e in
      let B = subst (λ (x : Verdict). Builds (built_in bytes_of P h v w x) r h₁ v₁ w₁) ((taken_exactly (checks_of_c_build m n matrix moduli h v w)).1 a)
      (by_verdict m n matrix moduli h v w r h₁ v₁ w₁ promise) in
      let A = (build_accepted_exactly P (numbers_of h) (numbers_of v) (numbers_of w) r (numbers_of h₁) (numbers_of v₁) (numbers_of w₁)
      (c_build_is_build (c_build_whole e))).0 e in
      let L = A.0.well_formed in
      let k : width P r ≡ N P = ap (λ (i : ℕ). n + i) B.moduli in
      let l_h = length-grid m (N P) (H (run P)) in
      let l_v = length-grid (N P) (N P) (U (run P)) in
      let l_w = length-grid (N P) (N P) (W (run P)) in
      record {
        rest_of_h = rw (k, B.h) (bytes-keep (m * N P) (contents_h P) h l_h
            (omega (arith, l_h, room_for_H P L, A.1.h, length-longs (numbers_in h) h)));
        rest_of_v = rw (k, B.v) (bytes-keep (N P * N P) (contents_v P) v l_v
            (omega (arith, l_v, room_for_v P L, A.1.v, length-longs (numbers_in v) v)));
        rest_of_w = rw (k, B.w) (bytes-keep (N P * N P) (contents_w P) w l_w
            (omega (arith, l_w, room_for_W P L, A.1.w, length-longs (numbers_in w) w)));
      }

  -- demand 2, range: refused 7 exactly when a written step writes a number beyond M, else taken
  pub c-range_exactly : WholeToBuild matrix moduli h v w → WellFormed (problem_of m n matrix moduli) → RoomToBuild (numbers_of h) (numbers_of v) (numbers_of w)
      → (r.number ≡ 7) ↔ SomeBeyond (written (run_steps (problem_of m n matrix moduli)))
  c-range_exactly F G R =
      range_exactly P (numbers_of h) (numbers_of v) (numbers_of w) r (numbers_of h₁) (numbers_of v₁) (numbers_of w₁) (c_build_is_build F) G R

  pub c-taken-or-range : WholeToBuild matrix moduli h v w → WellFormed (problem_of m n matrix moduli) → RoomToBuild (numbers_of h) (numbers_of v) (numbers_of w)
      → (r.number ≡ 0) ⊎ (r.number ≡ 7)
  c-taken-or-range F G R =
      taken-or-range P (numbers_of h) (numbers_of v) (numbers_of w) r (numbers_of h₁) (numbers_of v₁) (numbers_of w₁) (c_build_is_build F) G R
