-- The repetitions of (A) by the code: what each one needs, where they end, and how they go on.
use mathlib.Core.Path.{◌≡◌, sym, ◌∙◌, ap}
use mathlib.Core.Bool.{true, false, cond}
use mathlib.Core.List.{List}
use Prim.Native.Nat.{ℕ, suc, ◌+◌, ◌≤◌, ◌<◌}
use native.Mathlib.Omega.{arith}
use lib.Dec.{eqb}
use lib.IntN.{ℤ, neg_ℤ, nat_abs}
use lib.Signed.{quot_z}
use Rattle.std.specs.Prelude.{Some, None}
use Rattle.whole.specs.Lists.{nth}
use Rattle.rules.specs.Limits.{is_zero}
use Rattle.rules.specs.Search.{found, smallest, total}
use Rattle.rules.specs.Steps.{State, add_step}
use Rattle.rules.specs.Stages.{size, eliminate}
use Rattle.whole.proofs.Tests.{true-not-false}
use Rattle.theory.proofs.Eliminate.{Adds, total_falls, eliminate-done, eliminate-adds}
use Rattle.theory.proofs.Repetition.{adds_is, quotient-small, pivot-after}
use Rattle.theory.proofs.Flag.{eliminate_over}
use Rattle.scaling.specs.declared.work.Table.{Table}
use Rattle.scaling.specs.declared.work.Work.{Work}
use Rattle.scaling.specs.WorkState.{state_of, Two, Tracks, most, table_for, height_for, RowOf}
use Rattle.scaling.specs.Scan.{Other, Divisible}
use Rattle.scaling.specs.Rows.{sizes_in, left, Ready, Eliminated}
use Rattle.scaling.proofs.TableRow.{same-height, size_in, size_small}
use Rattle.scaling.proofs.State.{state_steps}
use Rattle.scaling.proofs.Tracking.{add_steps, over_tracks, on_tracks, same_tracks}
use Rattle.scaling.proofs.Searched.{none_left, can_divide, one_more}

-- after a repetition that is not the last: w is the state, x and k are the columns of the next
pub record GoesOn (which : Table) (row lo a : ℕ) (s w : Work) (xs : List ℤ) (x k : ℕ) : Type 0 where
  pub divides : Divisible xs x k
  pub ready : (q : ℤ) → q ≡ neg_ℤ (quot_z (nth xs k) (nth xs x)) → Ready which row lo a x k q w
  pub less : left which w row lo a < left which s row lo a
  pub rest : (z : Work) → Eliminated which row lo a w z → Eliminated which row lo a s z

module _ {which : Table} {row lo a p j : ℕ} {q : ℤ} {s : Work} (rd : Ready which row lo a p j q s) where
  parts : Adds (table_for which) lo a row (state_of s) p j q
  parts = adds_is (table_for which) lo a row (state_of s) p j q rd.adds

  fewer : total (size (table_for which) (add_step p j q (state_of s)) row) lo a < left which s row lo a
  fewer = total_falls (table_for which) lo a row (state_of s) p j q rd.adds

  pub two-columns : Two p j s
  two-columns = record {
    clear = rd.clear;
    i_in = omega (arith, parts.pivot.within.high, rd.a_in);
    j_in = omega (arith, parts.active.high, rd.a_in);
    apart = parts.apart;
    room = omega (arith, fewer, rd.room);
  }

  pub q-fits : nat_abs q ≤ 2147483648
  q-fits = omega (arith, quotient-small (table_for which) lo a row (state_of s) p j q rd.adds, size_small which s row rd.clear rd.row_in j two-columns.j_in)

  again : eliminate (table_for which) lo a row (state_of s) ≡ eliminate (table_for which) lo a row (add_step p j q (state_of s))
  again = eliminate-adds (table_for which) lo a row (state_of s) p j q rd.adds

  -- after the addition
  module _ {w : Work} (tr : Tracks s.m s.cols w (add_step p j q (state_of s))) where
    row-still : row < height_for which w
    row-still = omega (arith, same-height which s w tr.rows tr.cols, rd.row_in)

    a-still : a ≤ w.cols
    a-still = omega (arith, tr.cols, rd.a_in)

    pub eliminated_over : w.over ≡ true → Eliminated which row lo a s w
    eliminated_over o = record {
      tracks = over_tracks tr _ o (ap (λ (u : State). u.over) again
          ∙ eliminate_over (table_for which) lo a row (add_step p j q (state_of s)) (sym tr.flag ∙ o));
      counted = λ z. absurd (true-not-false o z);
    }

    module _ (o : w.over ≡ false) {xs : List ℤ} (r : RowOf which row w xs) where
      pub j-there : j < w.cols
      j-there = omega (arith, tr.cols, two-columns.j_in)

      counted : w.steps ≡ suc s.steps
      counted = sym (state_steps w) ∙ ap (λ (u : State). u.steps) (tr.same o) ∙ add_steps p j q (state_of s) ∙ ap suc (state_steps s)

      falls : left which w row lo a < left which s row lo a
      falls = omega (arith, fewer, ap (λ (u : State). total (size (table_for which) u row) lo a) (tr.same o))

      rest : eliminate (table_for which) lo a row (state_of w) ≡ eliminate (table_for which) lo a row (state_of s)
      rest = ap (eliminate (table_for which) lo a row) (tr.same o) ∙ sym again

      module _ {x : ℕ} (xe : x ≡ cond (is_zero (nth xs j)) p j) where
        next-p : smallest (sizes_in which w row) lo a ≡ found x
        next-p = ap (λ (u : State). smallest (size (table_for which) u row) lo a) (tr.same o)
            ∙ pivot-after (table_for which) lo a row (state_of s) p j q rd.adds
            ∙ ap found (ap (λ (z : ℕ). cond (eqb z 0) p j) size_j ∙ sym xe)
          where
            size_j : size (table_for which) (add_step p j q (state_of s)) row j ≡ nat_abs (nth xs j)
            size_j = ap (λ (u : State). size (table_for which) u row j) (sym (tr.same o)) ∙ size_in r j j-there

        -- nothing is left to add
        pub eliminated-here : Other xs x lo a None → Eliminated which row lo a s w
        eliminated-here e = record {
          tracks = on_tracks tr (same_tracks w (sym (eliminate-done (table_for which) lo a row (state_of w) (none_left r a-still next-p e)))) rest;
          counted = λ z. omega (arith, counted, fewer);
        }

        -- it goes on
        pub goes_on : {k : ℕ} → Other xs x lo a (Some k) → GoesOn which row lo a s w xs x k
        goes_on e = record {
          divides = can_divide r a-still next-p e;
          ready = λ z ze. record {
            clear = o;
            row_in = row-still;
            a_in = a-still;
            adds = one_more r a-still next-p e z ze;
            room = omega (arith, counted, falls, rd.room);
          };
          less = falls;
          rest = λ z g. record { tracks = on_tracks tr g.tracks rest; counted = λ c. omega (arith, g.counted c, counted, falls) };
        }

-- ---- the first repetition
-- a row whose smallest entry stands in column p
pub record Begun (which : Table) (row lo a p : ℕ) (s : Work) : Type 0 where
  pub clear : s.over ≡ false
  pub row_in : row < height_for which s
  pub a_in : a ≤ s.cols
  pub smallest : smallest (sizes_in which s row) lo a ≡ found p
  pub room : s.steps + left which s row lo a ≤ most

module _ {which : Table} {row lo a p : ℕ} {s : Work} (b : Begun which row lo a p s) {xs : List ℤ} (r : RowOf which row s xs) where
  pub begun-done : Other xs p lo a None → Eliminated which row lo a s s
  begun-done e = record {
    tracks = same_tracks s (sym (eliminate-done (table_for which) lo a row (state_of s) (none_left r b.a_in b.smallest e)));
    counted = λ _. omega arith;
  }

  module _ {k : ℕ} (e : Other xs p lo a (Some k)) where
    pub begun-divides : Divisible xs p k
    begun-divides = can_divide r b.a_in b.smallest e

    pub begun-ready : (q : ℤ) → q ≡ neg_ℤ (quot_z (nth xs k) (nth xs p)) → Ready which row lo a p k q s
    begun-ready q g = record { clear = b.clear; row_in = b.row_in; a_in = b.a_in; adds = one_more r b.a_in b.smallest e q g; room = b.room }
