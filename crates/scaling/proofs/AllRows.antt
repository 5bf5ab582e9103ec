-- All rows of a stage, as the code's loop goes through them: what is still to do is, of the definition's run, what was to do at first.
use mathlib.Core.Path.{◌≡◌, refl, sym, ◌∙◌, ap}
use mathlib.Core.Bool.{true, false}
use mathlib.Core.List.{List}
use Prim.Native.Nat.{ℕ, suc, ◌+◌, ◌*◌, ◌-◌, ◌≤◌, ◌<◌}
use native.Mathlib.Omega.{arith}
use lib.IntN.{ℤ}
use Rattle.std.specs.Prelude.{Some, None}
use Rattle.rules.specs.Search.{smallest}
use Rattle.rules.specs.Steps.{State}
use Rattle.rules.specs.Stages.{Progress, row, rows}
use Rattle.whole.proofs.Tests.{true-not-false}
use Rattle.theory.proofs.Search.{In, smallest_cong, smallest-there, smallest-nowhere}
use Rattle.theory.proofs.Loops.{rows_end, rows_step, row-pass}
use Rattle.theory.proofs.Flag.{rows_over}
use Rattle.scaling.specs.declared.work.Table.{Table}
use Rattle.scaling.specs.declared.work.Work.{Work}
use Rattle.scaling.specs.WorkState.{state_of, Tracks, table_for, height_for, RowOf}
use Rattle.scaling.specs.Scan.{sizes}
use Rattle.scaling.specs.Rows.{sizes_in, per_row, progress, RowBegun, RowDone, RowsBegun, RowsDone}
use Rattle.scaling.proofs.State.{state_over}
use Rattle.scaling.proofs.TableRow.{same-height, size_in}
use Rattle.scaling.proofs.Tracking.{over_tracks, on_tracks}
use Rattle.scaling.proofs.RowScan.{Best}

-- what the rows from k on down make of the state, with a columns active
abbrev pub rest_of : Table → (n lo k : ℕ) → Work → ℕ → Progress
rest_of which n lo k u a = rows (table_for which) n lo k (progress u a)

-- the rows from k on are done, with a columns active
pub record Rowed (which : Table) (lo k : ℕ) (s u : Work) (a : ℕ) : Type 0 where
  pub rows : u.m ≡ s.m
  pub cols : u.cols ≡ s.cols
  pub clear : u.over ≡ false
  pub low : lo ≤ a
  pub high : a ≤ s.cols
  pub rest : rest_of which s.cols lo k u a ≡ rest_of which s.cols lo (height_for which s) s s.cols
  pub steps : u.steps + k * per_row ≤ s.steps + height_for which s * per_row

module _ {which : Table} {lo k a : ℕ} {s u : Work} (b : RowsBegun which lo s) (g : Rowed which lo k s u a) where
  along : {v : State} → state_of u ≡ v → Tracks s.m s.cols u v
  along e = record { rows = g.rows; cols = g.cols; flag = sym (state_over u) ∙ ap (λ (x : State). x.over) e; same = λ _. e }

  pub rowed_end : k ≡ 0 → RowsDone which lo s u a
  rowed_end e =
      let d : progress u a ≡ rest_of which s.cols lo (height_for which s) s s.cols =
      sym (rows_end (table_for which) s.cols lo (progress u a)) ∙ (rw e at g.rest) in
      record {
        upto = g.high;
        tracks = along (ap (λ (x : Progress). x.state) d);
        active = λ _. ap (λ (x : Progress). x.a) d;
        counted = λ _. omega (arith, g.steps);
      }

  -- row k - 1
  module _ (h : 0 < k) (h' : k ≤ height_for which s) where
    pub row-there : k - 1 < height_for which u
    row-there = omega (arith, same-height which s u g.rows g.cols)

    one : rows (table_for which) s.cols lo (k - 1) (row (table_for which) s.cols lo (k - 1) (progress u a)) ≡ rest_of which s.cols lo (height_for which s) s s.cols
    one = let e : suc (k - 1) ≡ k = omega arith in sym (rows_step (table_for which) s.cols lo (progress u a) (k - 1)) ∙ rw e g.rest

    -- the scan is through
    module _ {xs : List ℤ} (r : RowOf which (k - 1) u xs) where
      scanned : smallest (sizes_in which u (k - 1)) lo a ≡ smallest (sizes xs) lo a
      scanned = smallest_cong (sizes_in which u (k - 1)) (sizes xs) lo a (λ d i. size_in r d (omega (arith, i.high, g.high, g.cols)))

      pub rowed_pass : Best (sizes xs) lo a a None → Rowed which lo (k - 1) s u a
      rowed_pass c = record {
        rows = g.rows;
        cols = g.cols;
        clear = g.clear;
        low = g.low;
        high = g.high;
        rest = ap (rows (table_for which) s.cols lo (k - 1))
            (sym (row-pass (table_for which) s.cols lo (k - 1) (progress u a)
            (smallest-nowhere (sizes_in which u (k - 1)) lo a (scanned ∙ sym c.is)))) ∙ one;
        steps = omega (arith, g.steps);
      }

      module _ {p : ℕ} (c : Best (sizes xs) lo a a (Some p)) where
        pub rowed_begun : RowBegun which (k - 1) lo a p u
        rowed_begun = record {
          clear = g.clear;
          row_in = row-there;
          a_in = omega (arith, g.high, g.cols);
          smallest = scanned ∙ sym c.is;
          room = omega (arith, g.steps, b.room);
        }

        p-in : In lo a p
        p-in = (smallest-there (sizes_in which u (k - 1)) lo a p (scanned ∙ sym c.is)).within

        pub some_left : 1 ≤ a
        some_left = omega (arith, p-in)

        module _ {z : Work} (rd : RowDone which (k - 1) lo a u z) where
          on : (row (table_for which) u.cols lo (k - 1) (progress u a)) ≡ (row (table_for which) s.cols lo (k - 1) (progress u a))
          on = ap (λ (n : ℕ). row (table_for which) n lo (k - 1) (progress u a)) g.cols

          next : Tracks s.m s.cols z (row (table_for which) s.cols lo (k - 1) (progress u a)).state
          next = on_tracks (along refl) rd.tracks (ap (λ (x : Progress). x.state) on)

          pub rowed_next : z.over ≡ false → Rowed which lo (k - 1) s z (a - 1)
          rowed_next o =
              let e : progress z (a - 1) ≡ row (table_for which) s.cols lo (k - 1) (progress u a) =
              (λ i. record { state = rd.tracks.same o i; a = sym rd.less i }) ∙ on in
              record {
                rows = next.rows;
                cols = next.cols;
                clear = o;
                low = omega (arith, p-in);
                high = omega (arith, g.high);
                rest = ap (rows (table_for which) s.cols lo (k - 1)) e ∙ one;
                steps = omega (arith, g.steps, rd.counted o);
              }

          pub rowed_over : z.over ≡ true → RowsDone which lo s z (a - 1)
          rowed_over o = record {
            upto = omega (arith, g.high);
            tracks = over_tracks next _ o (ap (λ (x : Progress). x.state.over) (sym one)
                ∙ rows_over (table_for which) s.cols lo (k - 1) (row (table_for which) s.cols lo (k - 1) (progress u a)) (sym next.flag ∙ o));
            active = λ e. absurd (true-not-false o e);
            counted = λ e. absurd (true-not-false o e);
          }
