-- Demand 2: what an accepted problem gives is right in the sense of section 6 of the rules (the Hermite form, the normal multiplier and its inverse),
-- and nothing else is right. Refusal 7 comes for a well-formed problem exactly when one of its steps writes a number beyond M.
--
-- `promise` is what build's `ensures` says; P is the problem as it was given; h, v, w are the lent outputs before the call and h₁, v₁, w₁ after it.
-- WellFormed is of rules/specs/Problem, Right (H in column Hermite form, V normal, W its inverse) of rules/specs/Forms.
use mathlib.Core.Path.{◌≡◌, refl, ◌∙◌, ap, subst}
use mathlib.Core.Logic.{◌↔◌, ◌⊎◌, inl, inr}
use mathlib.Core.Bool.{Bool, true, false, ◌&&◌, true≢false, false≢true}
use mathlib.Core.List.{List, [], ◌∷◌}
use Prim.Native.Nat.{ℕ, ◌+◌, ◌*◌, ◌<◌}
use native.Mathlib.Omega.{arith}
use lib.Dec.{leb}
use lib.ListN.{length}
use lib.IntN.{ℤ}
use Rattle.whole.specs.Matrix.{Matrix}
use Rattle.rules.specs.Limits.{room_h, room_v, room_w}
use Rattle.rules.specs.Problem.{Problem, WellFormed, s, N, columns}
use Rattle.rules.specs.Forms.{Right}
use Rattle.rules.specs.Steps.{start}
use Rattle.rules.specs.Stages.{run, H, U, W}
use Rattle.rules.specs.Calls.{Check, Verdict, taken, range_check, build_verdict, build_of, built, problem_fits, contents_h, contents_v, contents_w, checks_to5}
use Rattle.theory.proofs.SameEntries.{normal_same}
use Rattle.theory.proofs.Grid.{table, length-grid, table_filled}
use Rattle.theory.proofs.Accepted.{AllPass}
use Rattle.theory.proofs.Unique.{Alike, normal_unique}
use Rattle.theory.proofs.Sizes.{room_for_H, room_for_v, room_for_W}
use Rattle.theory.proofs.Run.{run_right, run_steps}
use Rattle.theory.proofs.Sequence.{Steps, written, steps_counted}
use Rattle.theory.proofs.Sequence as sequence
use Rattle.theory.proofs.Flag.{SomeBeyond, over_exactly}
use Rattle.scaling.specs.declared.BuildAnswer.{BuildAnswer}
use Rattle.scaling.specs.BuildPromise.{Builds, RoomToBuild}
use Rattle.demands.proofs.Order.{DecidedBy, all_pass-append, taken_exactly}
use Rattle.demands.proofs.Limits.{five_exactly, flag_exactly, build_room_exactly}
use Rattle.demands.proofs.Refusals.{checks_of_build, build_ordered}
use Rattle.demands.proofs.Buffers.{KeepsRest, filled_keeps}

-- ---- which problems are accepted
-- well formed, and no step of the build writes a value beyond M (the run's flag is set exactly when one does: Table.row_7, and range_exactly below)
pub record Accepted (P : Problem) : Type 0 where
  pub well_formed : WellFormed P
  pub in_range : (run P).state.over ≡ false

-- ---- what an accepted problem yields; N is n + s, the width of a row
abbrev pub width : Problem → BuildAnswer → ℕ
width P r = P.n + r.moduli

pub record Answered (P : Problem) (h v w : List ℤ) (r : BuildAnswer) (h₁ v₁ w₁ : List ℤ) : Type 0 where
  pub accepted : Accepted P
  -- R5.1
  pub moduli : r.moduli ≡ s P
  -- section 6: H, V and W are right, each read from its buffer row after row
  pub right : Right P r.rank (table (width P r) h₁) (table (width P r) v₁) (table (width P r) w₁)
  -- R6.7: whatever is right for P has this rank and these entries
  pub only : (r' : ℕ) (H' U' W' : Matrix) → Right P r' H' U' W'
      → Alike P.m (width P r) r' r.rank H' (table (width P r) h₁) U' (table (width P r) v₁) W' (table (width P r) w₁)
  -- R7.5: the number of the written steps, which run_steps P lists, and of any other list that leads to the same end
  pub steps : (x : Steps (N P) (start (columns P)) (run P).state) → r.steps ≡ sequence.taken x
  -- R2.10: what stands behind the contents is as it was
  pub rest_of_h : KeepsRest (P.m * width P r) h h₁
  pub rest_of_v : KeepsRest (width P r * width P r) v v₁
  pub rest_of_w : KeepsRest (width P r * width P r) w w₁

-- ---- the checks of a build, from what they ask
module _ (P : Problem) (h v w : List ℤ) where
  abbrev five : List Check
  five = checks_to5 P (problem_fits P) (leb room_h (length h) && leb room_v (length v) && leb room_w (length w))

  five-pass_exactly : AllPass five ↔ (WellFormed P × Unit {0} × RoomToBuild h v w)
  five-pass_exactly =
      five_exactly P (problem_fits P) (leb room_h (length h) && leb room_v (length v) && leb room_w (length w)) (λ e. (e, tt), λ x. x.0)
      (build_room_exactly h v w)

  pub all_pass_exactly : AllPass (checks_of_build P h v w) ↔ (Accepted P × RoomToBuild h v w)
  all_pass_exactly = (
    λ a.
        let b = (all_pass-append five (range_check (run P) ∷ [])).0 a in
        let x = five-pass_exactly.0 b.0 in
        (record { well_formed = x.0; in_range = (flag_exactly (run P)).0 b.1.0 }, x.2),
    λ x.
        let a = five-pass_exactly.1 (x.0.well_formed, tt, x.1) in
        (all_pass-append five (range_check (run P) ∷ [])).1 (a, ((flag_exactly (run P)).1 x.0.in_range, tt)),
  )

  -- number 7: the checks before it find no fault
  refused_7 : WellFormed P → RoomToBuild h v w → (run P).state.over ≡ true → DecidedBy (checks_of_build P h v w) 7 0
  refused_7 F R o = record {
    before = five;
    check = range_check (run P);
    after = [];
    listed = refl;
    faultless = five-pass_exactly.1 (F, tt, R);
    its_number = refl;
    its_place = rw o;
  }

-- ---- demand 2
module _ (P : Problem) (h v w : List ℤ) (r : BuildAnswer) (h₁ v₁ w₁ : List ℤ) (promise : Builds (build_of P h v w) r h₁ v₁ w₁) where
  -- the number is 0 exactly when the problem is accepted and the outputs have room
  pub build_accepted_exactly : (r.number ≡ 0) ↔ (Accepted P × RoomToBuild h v w)
  build_accepted_exactly =
      let D = build_ordered P h v w r h₁ v₁ w₁ promise in
      let A = all_pass_exactly P h v w in
      (λ e. A.0 (D.accepts_exactly.0 e), λ a. D.accepts_exactly.1 (A.1 a))

  as_taken : r.number ≡ 0 → Builds (built P h v w taken) r h₁ v₁ w₁
  unfolding build_of build_verdict
  as_taken e =
      let a = (build_ordered P h v w r h₁ v₁ w₁ promise).accepts_exactly.0 e in
      subst (λ (x : Verdict). Builds (built P h v w x) r h₁ v₁ w₁) ((taken_exactly (checks_of_build P h v w)).1 a) promise

  -- an accepted problem gives what is right, and nothing else is
  pub build_answered : r.number ≡ 0 → Answered P h v w r h₁ v₁ w₁
  unfolding contents_h contents_v contents_w
  build_answered e =
      let B = as_taken e in
      let A = build_accepted_exactly.0 e in
      let k : width P r ≡ N P = ap (λ (i : ℕ). P.n + i) B.moduli in
      let e_h : (i j : ℕ) → i < P.m → j < N P → table (N P) h₁ i j ≡ H (run P) i j
      = λ i j a b. rw B.h (table_filled P.m (N P) (H (run P)) h i j a b) in
      let e_u : (i j : ℕ) → i < N P → j < N P → table (N P) v₁ i j ≡ U (run P) i j
      = λ i j a b. rw B.v (table_filled (N P) (N P) (U (run P)) v i j a b) in
      let e_w : (i j : ℕ) → i < N P → j < N P → table (N P) w₁ i j ≡ W (run P) i j
      = λ i j a b. rw B.w (table_filled (N P) (N P) (W (run P)) w i j a b) in
      let l_h = length-grid P.m (N P) (H (run P)) in
      let l_v = length-grid (N P) (N P) (U (run P)) in
      let l_w = length-grid (N P) (N P) (W (run P)) in
      let L = A.0.well_formed in
      let right : Right P r.rank (table (N P) h₁) (table (N P) v₁) (table (N P) w₁)
      = rw B.rank (normal_same e_h e_u e_w (run_right P)) in
      record {
        accepted = A.0;
        moduli = B.moduli;
        right = rw k right;
        only = λ r' H' U' W' R. rw k (normal_unique R right);
        steps = λ x. B.steps ∙ steps_counted x ∙ omega arith;
        rest_of_h = rw (k, B.h) (filled_keeps (P.m * N P) (contents_h P) h l_h (omega (arith, l_h, room_for_H P L, A.1.h)));
        rest_of_v = rw (k, B.v) (filled_keeps (N P * N P) (contents_v P) v l_v (omega (arith, l_v, room_for_v P L, A.1.v)));
        rest_of_w = rw (k, B.w) (filled_keeps (N P * N P) (contents_w P) w l_w (omega (arith, l_w, room_for_W P L, A.1.w)));
      }

-- R4.7: a well-formed problem is refused 7 exactly when a step writes a number beyond M.
-- The written steps of P are its run, and run_steps P lists them, with the reordering among them, from the start to the end. `x` is any such list: no
-- other that leads to the same end would say anything else.
module _ (P : Problem) (h v w : List ℤ) (r : BuildAnswer) (h₁ v₁ w₁ : List ℤ) (promise : Builds (build_of P h v w) r h₁ v₁ w₁)
    (F : WellFormed P) (room : RoomToBuild h v w) where
  by_flag : (b : Bool) → (run P).state.over ≡ b → ((r.number ≡ 7) ↔ (b ≡ true)) × ((r.number ≡ 0) ↔ (b ≡ false))
  by_flag true o =
      let e = ((build_ordered P h v w r h₁ v₁ w₁ promise).by_the_first 7 0 (refused_7 P h v w F room o)).0 in
      ((λ _. refl, λ _. e), (λ z. absurd (omega arith), λ z. absurd (true≢false z)))
  by_flag false o =
      let e = (build_accepted_exactly P h v w r h₁ v₁ w₁ promise).1 (record { well_formed = F; in_range = o }, room) in
      ((λ z. absurd (omega arith), λ z. absurd (false≢true z)), (λ _. refl, λ _. e))

  -- a well-formed problem with room is taken or refused for range
  pub taken-or-range : (r.number ≡ 0) ⊎ (r.number ≡ 7)
  taken-or-range = go (run P).state.over refl
    where
      go : (b : Bool) → (run P).state.over ≡ b → (r.number ≡ 0) ⊎ (r.number ≡ 7)
      go true o = inr ((by_flag true o).0.1 refl)
      go false o = inl ((by_flag false o).1.1 refl)

  pub range_exactly_by : (x : Steps (N P) (start (columns P)) (run P).state) → (r.number ≡ 7) ↔ SomeBeyond (written x)
  range_exactly_by x =
      let f = (by_flag (run P).state.over refl).0 in
      (λ e. to ((over_exactly x).0 (f.0 e)), λ s. f.1 ((over_exactly x).1 (inr s)))
    where
      to : (false ≡ true) ⊎ SomeBeyond (written x) → SomeBeyond (written x)
      to (inl e) = absurd (false≢true e)
      to (inr s) = s

  pub range_exactly : (r.number ≡ 7) ↔ SomeBeyond (written (run_steps P))
  range_exactly = range_exactly_by (run_steps P)
