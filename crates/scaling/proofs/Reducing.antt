-- The parts of (B) by the code: the pivot's column to its place, its sign, and one column brought into range.
use mathlib.Core.Path.{◌≡◌, refl, sym, ◌∙◌, ap}
use mathlib.Core.Logic.{◌≢◌}
use mathlib.Core.Bool.{Bool, true, false}
use mathlib.Core.List.{List}
use Prim.Native.Nat.{ℕ, zero, suc, ◌+◌, ◌≤◌, ◌<◌}
use native.Mathlib.Omega.{arith}
use lib.IntN.{ℤ, pos, negsuc, neg_ℤ, nat_abs}
use lib.Signed.{lt_z}
use Rattle.whole.specs.Division.{floor_z}
use Rattle.whole.specs.Lists.{nth}
use borrow.Author.Tests.{eq-eqb, ne_eqb}
use Rattle.whole.proofs.Order.{abs_neg}
use Rattle.whole.proofs.Division.{floor-le}
use Rattle.rules.specs.Limits.{is_zero}
use Rattle.rules.specs.Steps.{State, get, swap_step, negate_step, add_step}
use Rattle.rules.specs.Stages.{size, bring, make_positive, reduce}
use Rattle.theory.proofs.Entries.{add-off}
use Rattle.scaling.specs.declared.work.Table.{Table}
use Rattle.scaling.specs.declared.work.Work.{Work}
use Rattle.scaling.specs.WorkState.{state_of, Tracks, Same, table_for, RowOf}
use Rattle.scaling.specs.Scan.{Divisible}
use Rattle.scaling.specs.Rows.{sizes_in, Pivot}
use Rattle.scaling.proofs.TableRow.{size_in, size_small}
use Rattle.scaling.proofs.State.{state_steps}
use Rattle.scaling.proofs.Tracking.{add_steps, same_tracks}

-- one column came into range
pub record Reduced (which : Table) (row b c : ℕ) (s r : Work) : Type 0 where
  pub tracks : Tracks s.m s.cols r (reduce (table_for which) row b c (state_of s))
  pub pivot : r.over ≡ false → sizes_in which r row b ≡ sizes_in which s row b
  pub counted : r.over ≡ false → r.steps ≤ s.steps + 1

-- ---- the pivot's column to its place
pub bring-not : (b : ℕ) (u : State) → bring b b u ≡ u
unfolding bring
bring-not b u = ap (λ (x : Bool). elim x [ true ↦ u | false ↦ swap_step b b u ]) (eq-eqb b b refl)

pub bring_swaps : (p b : ℕ) (u : State) → p ≢ b → bring p b u ≡ swap_step p b u
unfolding bring
bring_swaps p b u d = ap (λ (x : Bool). elim x [ true ↦ u | false ↦ swap_step p b u ]) (ne_eqb p b d)

pub bring_same : (s : Work) → s.over ≡ false → (p b : ℕ) → p ≡ b → Same s.m s.cols s (bring p b (state_of s))
bring_same s o p b e = record { rows = refl; cols = refl; clear = o; same = rw e (sym (bring-not b (state_of s))) }

-- ---- what is to be added is something
pub not-zero : (q : ℤ) → (q ≡ pos 0 → ⊥) → is_zero q ≡ false
not-zero (pos zero) d = absurd (d refl)
not-zero (pos (suc n)) d = ne_eqb (suc n) 0 (λ e. omega arith)
not-zero (negsuc n) d = ne_eqb (suc n) 0 (λ e. omega arith)

-- ---- its sign; xs is the row
module _ {which : Table} {row : ℕ} {s : Work} {xs : List ℤ} (r : RowOf which row s xs) where
  module _ (b : ℕ) (h : b < s.cols) where
    sign_is : (x : Bool) → lt_z (nth xs b) (pos 0) ≡ x
        → make_positive (table_for which) row b (state_of s) ≡ elim x [ true ↦ negate_step b (state_of s) | false ↦ state_of s ]
    unfolding make_positive
    sign_is x e = ap (λ (x : Bool). elim x [ true ↦ negate_step b (state_of s) | false ↦ state_of s ])
        (ap (λ (z : ℤ). lt_z z (pos 0)) (r.entry b h) ∙ e)

    pub negative_same : lt_z (nth xs b) (pos 0) ≡ true → {w : Work} → Same s.m s.cols w (negate_step b (state_of s))
        → Same s.m s.cols w (make_positive (table_for which) row b (state_of s))
    negative_same e g = rw (sign_is true e) g

    pub positive_same : s.over ≡ false → lt_z (nth xs b) (pos 0) ≡ false → Same s.m s.cols s (make_positive (table_for which) row b (state_of s))
    positive_same o e = record { rows = refl; cols = refl; clear = o; same = sym (sign_is false e) }

  -- ---- one column into range
  module _ {b more : ℕ} (p : Pivot which row b s more) (c : ℕ) (h : c < s.cols) where
    pub pivot-divides : Divisible xs b c
    pivot-divides = record {
      p_in = omega (arith, r.whole, p.b_in);
      j_in = omega (arith, r.whole);
      filled = omega (arith, p.filled, size_in r b p.b_in);
    }

    module _ (q : ℤ) (qe : q ≡ neg_ℤ (floor_z (nth xs c) (nth xs b))) where
      q_is : neg_ℤ (floor_z (get (table_for which) (state_of s) row c) (get (table_for which) (state_of s) row b)) ≡ q
      q_is = rw (r.entry c h, r.entry b p.b_in) (sym qe)

      pub q-small : nat_abs q ≤ 2147483648
      unfolding size
      q-small =
          let x : ℤ = nth xs c in
          let y : ℤ = nth xs b in
          rw qe (omega (arith, abs_neg (floor_z x y), floor-le x y, size_in r c h, size_small which s row p.clear p.row_in c h))

      reduce_is : (x : Bool) → is_zero q ≡ x
          → reduce (table_for which) row b c (state_of s) ≡ elim x [ true ↦ state_of s | false ↦ add_step b c q (state_of s) ]
      unfolding reduce
      reduce_is x e = ap (λ (z : ℤ). elim (is_zero z) [ true ↦ state_of s | false ↦ add_step b c z (state_of s) ]) q_is
          ∙ ap (λ (x : Bool). elim x [ true ↦ state_of s | false ↦ add_step b c q (state_of s) ]) e

      pub reduced_already : is_zero q ≡ true → Reduced which row b c s s
      reduced_already e = record { tracks = same_tracks s (sym (reduce_is true e)); pivot = λ _. refl; counted = λ _. omega arith }

      pub reduced_now : is_zero q ≡ false → b ≢ c → {w : Work} → Tracks s.m s.cols w (add_step b c q (state_of s)) → Reduced which row b c s w
      unfolding size
      reduced_now e d {w} t = record {
        tracks = rw (sym (reduce_is false e)) at t;
        pivot = λ o. ap (λ (u : State). nat_abs (get (table_for which) u row b)) (t.same o)
            ∙ ap nat_abs (add-off b c q (state_of s) (table_for which) row b (λ z. d (sym z)));
        counted = λ o. omega (arith, state_steps w, ap (λ (u : State). u.steps) (t.same o), add_steps b c q (state_of s), state_steps s);
      }
