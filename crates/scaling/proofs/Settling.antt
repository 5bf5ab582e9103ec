-- (B) by the code: columns come into range one after the other, and the whole of (B).
use mathlib.Core.Path.{◌≡◌, refl, sym, ◌∙◌, ap}
use mathlib.Core.Bool.{Bool, true, false}
use mathlib.Core.List.{List}
use Prim.Native.Nat.{ℕ, zero, suc, ◌+◌, ◌≤◌, ◌<◌}
use native.Mathlib.Omega.{arith}
use native.Mathlib.Numerals.{add-one}
use native.Mathlib.Decide.{ℕ_discrete}
use lib.IntN.{ℤ, pos, nat_abs}
use lib.Signed.{lt_z}
use Rattle.whole.proofs.Order.{abs_neg}
use Rattle.whole.proofs.Exchange.{tr-second}
use Rattle.rules.specs.Search.{each}
use Rattle.rules.specs.Steps as steps
use Rattle.rules.specs.Steps.{State, get, negate_step}
use Rattle.rules.specs.Stages.{size, bring, make_positive, reduce, settle}
use Rattle.whole.proofs.Tests.{true-not-false}
use Rattle.theory.proofs.Loops.{each_start, each_step, each_skip}
use Rattle.theory.proofs.StepBound.{bring_steps, make_positive_steps}
use Rattle.theory.proofs.StepLines.{count}
use Rattle.theory.proofs.Entries.{swap-get, negate_at}
use Rattle.theory.proofs.Flag.{reduce_over}
use Rattle.std.specs.Prelude.{Some, None}
use Rattle.scaling.specs.declared.work.Table.{Table}
use Rattle.scaling.specs.declared.work.Work.{Work}
use Rattle.scaling.specs.WorkState.{state_of, Same, Tracks, table_for, RowOf}
use Rattle.scaling.specs.Scan.{Divisors, AllInRange, Unreduced}
use Rattle.scaling.specs.Rows.{sizes_in, Pivot, Apart, AllReduced}
use Rattle.scaling.proofs.State.{state_count, state_steps, state_over}
use Rattle.scaling.proofs.TableRow.{same-height, size_in}
use Rattle.scaling.proofs.Tracking.{over_tracks, on_tracks, same_tracks, tracks-same}
use Rattle.scaling.proofs.Reducing.{bring-not, bring_swaps, Reduced, reduced_already}

-- ---- columns lo to c are done
pub record Reducing (which : Table) (row b lo c : ℕ) (s u : Work) : Type 0 where
  pub rows : u.m ≡ s.m
  pub cols : u.cols ≡ s.cols
  pub clear : u.over ≡ false
  pub same : state_of u ≡ each (reduce (table_for which) row b) lo c (state_of s)
  pub from : lo ≤ c
  pub pivot : sizes_in which u row b ≡ sizes_in which s row b
  pub steps : u.steps + lo ≤ s.steps + c

-- where one column is refused, all are
each_over : (tb : steps.Table) (row b lo c d : ℕ) (u : State) → lo ≤ c → c ≤ d → (each (reduce tb row b) lo c u).over ≡ true
    → (each (reduce tb row b) lo d u).over ≡ true
each_over tb row b lo c zero u h l e = let z : c ≡ 0 = omega arith in rw z at e
each_over tb row b lo c (suc d) u h l e = go (ℕ_discrete c (suc d)) (λ k. each_over tb row b lo c d u h k e)
  where
    go : Dec (c ≡ suc d) → (c ≤ d → (each (reduce tb row b) lo d u).over ≡ true) → (each (reduce tb row b) lo (suc d) u).over ≡ true
    go (yes z) r = rw z at e
    go (no z) r = rw (each_step (reduce tb row b) lo u d (omega arith)) (reduce_over tb row b d (each (reduce tb row b) lo d u) (r (omega arith)))

module _ {which : Table} {row b lo hi : ℕ} {s : Work} (p : Pivot which row b s s.cols) (d : Apart s.cols b lo hi) where
  pub reducing_start : Reducing which row b lo lo s s
  reducing_start = record {
    rows = refl;
    cols = refl;
    clear = p.clear;
    same = sym (each_start (reduce (table_for which) row b) lo (state_of s) lo (omega arith));
    from = omega arith;
    pivot = refl;
    steps = omega arith;
  }

  module _ {c : ℕ} {u : Work} (g : Reducing which row b lo c s u) where
    along : Tracks s.m s.cols u (each (reduce (table_for which) row b) lo c (state_of s))
    along = record { rows = g.rows; cols = g.cols; flag = sym (state_over u) ∙ ap (λ (x : State). x.over) g.same; same = λ _. g.same }

    pub reducing_end : c ≡ hi → AllReduced which row b lo hi s u
    reducing_end e = record { tracks = rw e at along; counted = λ _. omega (arith, g.steps, d.upto) }

    module _ (h : c < hi) where
      pub reducing_pivot : Pivot which row b u 1
      reducing_pivot = record {
        clear = g.clear;
        row_in = omega (arith, same-height which s u g.rows g.cols, p.row_in);
        b_in = omega (arith, g.cols, p.b_in);
        filled = omega (arith, g.pivot, p.filled);
        room = omega (arith, g.steps, p.room, d.upto);
      }

      module _ {r : Work} (f : Reduced which row b c u r) where
        one : reduce (table_for which) row b c (state_of u) ≡ each (reduce (table_for which) row b) lo (suc c) (state_of s)
        one = ap (reduce (table_for which) row b c) g.same ∙ sym (each_step (reduce (table_for which) row b) lo (state_of s) c g.from)

        next : Tracks s.m s.cols r (each (reduce (table_for which) row b) lo (suc c) (state_of s))
        next = on_tracks along f.tracks one

        pub reducing_next : r.over ≡ false → Reducing which row b lo (c + 1) s r
        reducing_next o = record {
          rows = next.rows;
          cols = next.cols;
          clear = o;
          same = rw add-one (next.same o);
          from = omega (arith, g.from);
          pivot = f.pivot o ∙ g.pivot;
          steps = omega (arith, g.steps, f.counted o);
        }

        pub reducing_over : r.over ≡ true → AllReduced which row b lo hi s r
        reducing_over o = record {
          tracks = over_tracks next _ o (each_over (table_for which) row b lo (suc c) hi (state_of s) (omega (arith, g.from)) h (sym next.flag ∙ o));
          counted = λ z. absurd (true-not-false o z);
        }

-- ---- columns that are in range already
module _ {which : Table} {row b : ℕ} {s : Work} {xs : List ℤ} (r : RowOf which row s xs) (p : Pivot which row b s s.cols)
    {hi : ℕ} (fit : hi ≤ s.cols) where
  pub pivot_divisors : Divisors xs b hi
  pivot_divisors = record {
    b_in = omega (arith, r.whole, p.b_in);
    upto = omega (arith, r.whole);
    filled = omega (arith, p.filled, size_in r b p.b_in);
  }

  module _ {lo c : ℕ} (g : AllInRange xs b lo c) (l : lo ≤ c) (k : c ≤ hi) where
    still : (i : ℕ) → lo ≤ i → i < c → reduce (table_for which) row b i (state_of s) ≡ state_of s
    still i x y = sym ((reduced_already r p i (omega arith) _ refl (g i x y)).tracks.same p.clear)

    skipped : each (reduce (table_for which) row b) lo hi (state_of s) ≡ each (reduce (table_for which) row b) c hi (state_of s)
    skipped = each_skip (reduce (table_for which) row b) lo c (state_of s) still l hi

  pub reduced_rest : {lo c : ℕ} → Unreduced xs b lo hi (Some c) → {w : Work} → AllReduced which row b c hi s w → AllReduced which row b lo hi s w
  reduced_rest g a = record {
    tracks = on_tracks (same_tracks s refl) a.tracks (sym (skipped g.all.lower g.all.low (omega (arith, g.all.high))));
    counted = a.counted;
  }

  pub reduced_none : {lo : ℕ} → lo ≤ hi → Unreduced xs b lo hi None → AllReduced which row b lo hi s s
  reduced_none l g = record {
    tracks = same_tracks s (sym (skipped g.all l (omega arith) ∙ each_start (reduce (table_for which) row b) hi (state_of s) hi (omega arith)));
    counted = λ _. omega arith;
  }

-- ---- the whole of (B)
pub record Settled (which : Table) (row p b : ℕ) (s r : Work) : Type 0 where
  pub tracks : Tracks s.m s.cols r (settle (table_for which) s.cols row p b (state_of s))
  pub counted : r.over ≡ false → r.steps ≤ s.steps + s.cols + 2

bring_size : (tb : steps.Table) (p b row : ℕ) (u : State) → p < count u → b < count u → size tb (bring p b u) row b ≡ size tb u row p
unfolding size
bring_size tb p b row u hp hb = go (ℕ_discrete p b)
  where
    go : Dec (p ≡ b) → nat_abs (get tb (bring p b u) row b) ≡ nat_abs (get tb u row p)
    go (yes d) = rw (d, bring-not b u)
    go (no d) = rw (bring_swaps p b u d) (ap nat_abs (swap-get p b u hp hb tb row b ∙ ap (get tb u row) (tr-second p b)))

positive_size : (tb : steps.Table) (b row : ℕ) (u : State) → b < count u → size tb (make_positive tb row b u) row b ≡ size tb u row b
unfolding size make_positive
positive_size tb b row u h = go (lt_z (get tb u row b) (pos 0))
  where
    go : (x : Bool) → nat_abs (get tb (elim x [ true ↦ negate_step b u | false ↦ u ]) row b) ≡ nat_abs (get tb u row b)
    go true = ap nat_abs (negate_at b u h tb row) ∙ abs_neg (get tb u row b)
    go false = refl

module _ {which : Table} {row p : ℕ} {s : Work} (g : Pivot which row p s (s.cols + 2)) (b : ℕ) (hb : b < s.cols)
    {s₁ : Work} (e₁ : Same s.m s.cols s₁ (bring p b (state_of s))) where
  brought_steps : s₁.steps ≤ s.steps + 1
  brought_steps = omega (arith, bring_steps p b (state_of s), ap (λ (u : State). u.steps) e₁.same, state_steps s₁, state_steps s)

  brought_size : sizes_in which s₁ row b ≡ sizes_in which s row p
  brought_size = ap (λ (u : State). size (table_for which) u row b) e₁.same
      ∙ bring_size (table_for which) p b row (state_of s) (omega (arith, state_count s, g.b_in)) (omega (arith, state_count s))

  pub brought_pivot : Pivot which row b s₁ 1
  brought_pivot = record {
    clear = e₁.clear;
    row_in = omega (arith, same-height which s s₁ e₁.rows e₁.cols, g.row_in);
    b_in = omega (arith, e₁.cols);
    filled = omega (arith, brought_size, g.filled);
    room = omega (arith, brought_steps, g.room);
  }

  module _ {s₂ : Work} (e₂ : Same s₁.m s₁.cols s₂ (make_positive (table_for which) row b (state_of s₁))) where
    signed_steps : s₂.steps ≤ s.steps + 2
    signed_steps =
        omega (
          arith,
          brought_steps,
          make_positive_steps (table_for which) row b (state_of s₁),
          ap (λ (u : State). u.steps) e₂.same,
          state_steps s₁,
          state_steps s₂,
        )

    signed_size : sizes_in which s₂ row b ≡ sizes_in which s row p
    signed_size = ap (λ (u : State). size (table_for which) u row b) e₂.same
        ∙ positive_size (table_for which) b row (state_of s₁) (omega (arith, e₁.cols, state_count s₁)) ∙ brought_size

    pub signed-pivot : Pivot which row b s₂ s₂.cols
    signed-pivot = record {
      clear = e₂.clear;
      row_in = omega (arith, same-height which s₁ s₂ e₂.rows e₂.cols, brought_pivot.row_in);
      b_in = omega (arith, e₁.cols, e₂.cols);
      filled = omega (arith, signed_size, g.filled);
      room = omega (arith, e₁.cols, e₂.cols, signed_steps, g.room);
    }

    pub settled : {r : Work} → AllReduced which row b (b + 1) s₂.cols s₂ r → Settled which row p b s r
    unfolding settle
    settled {r} a =
        let d : state_of s₂ ≡ make_positive (table_for which) row b (bring p b (state_of s)) =
        e₂.same ∙ ap (make_positive (table_for which) row b) e₁.same in
        let size : s₂.cols ≡ s.cols = e₂.cols ∙ e₁.cols in
        record {
          tracks = on_tracks (tracks-same e₁) (on_tracks (tracks-same e₂) a.tracks refl) (rw (add-one b) (ap (λ (x : ℕ). each (reduce (table_for which) row b) (suc b) x (state_of s₂)) size
              ∙ ap (each (reduce (table_for which) row b) (suc b) s.cols) d));
          counted = λ o. omega (arith, a.counted o, e₁.cols, e₂.cols, signed_steps);
        }
