-- One row by the code: (A), then (B) with the only column that is left.
use mathlib.Core.Path.{◌≡◌, sym, ◌∙◌, ap}
use mathlib.Core.Bool.{true, false, not}
use mathlib.Core.List.{List}
use Prim.Native.Nat.{ℕ, ◌+◌, ◌*◌, ◌-◌, ◌≤◌, ◌<◌}
use native.Mathlib.Omega.{arith}
use native.Mathlib.Decide.{ℕ_discrete}
use lib.Dec.{eqb}
use lib.IntN.{ℤ}
use Rattle.rules.specs.Limits.{M}
use Rattle.rules.specs.Steps.{State}
use Rattle.rules.specs.Stages.{size, eliminate, settle, row, Progress}
use Rattle.whole.proofs.Tests.{true-not-false, eq?, negated, failed}
use Rattle.theory.proofs.Search.{In, Smallest, total-le, first_nowhere, smallest-there}
use Rattle.theory.proofs.Loops.{Worked, row_works}
use Rattle.theory.proofs.Flag.{settle_over}
use Rattle.std.specs.Prelude.{Option, Some, None, IsSome}
use borrow.Author.Rules.{rules}
use Rattle.scaling.specs.declared.work.Table.{Table}
use Rattle.scaling.specs.declared.work.Work.{Work}
use Rattle.scaling.specs.WorkState.{state_of, table_for, RowOf}
use Rattle.scaling.specs.Scan.{sizes, Filled}
use Rattle.scaling.specs.Rows.{sizes_in, left, progress, Eliminated, Pivot, RowBegun, RowDone}
use Rattle.scaling.proofs.TableRow.{same-height, size_in, size_small}
use Rattle.scaling.proofs.Tracking.{over_tracks, on_tracks}
use Rattle.scaling.proofs.Repeating.{Begun}
use Rattle.scaling.proofs.Settling.{Settled}

module _ {which : Table} {k lo a p : ℕ} {s : Work} (b : RowBegun which k lo a p s) where
  p_is : Smallest (sizes_in which s k) lo a p
  p_is = smallest-there (sizes_in which s k) lo a p b.smallest

  pub row-p : In lo a p
  row-p = p_is.within

  left_small : left which s k lo a ≤ M * (a - lo)
  left_small = total-le lo (sizes_in which s k) M a (λ c i. size_small which s k b.clear b.row_in c (omega (arith, i.high, b.a_in)))

  pub row-begun : Begun which k lo a p s
  row-begun = record { clear = b.clear; row_in = b.row_in; a_in = b.a_in; smallest = b.smallest; room = omega (arith, left_small, b.room, b.a_in, s.sound.cols) }

  worked : Worked (table_for which) s.cols lo k (progress s a) (row (table_for which) s.cols lo k (progress s a))
  worked = row_works (table_for which) s.cols lo k (progress s a) p p_is.within p_is.filled

  module _ {w : Work} (el : Eliminated which k lo a s w) where
    pub row-refused : w.over ≡ true → RowDone which k lo a s w
    row-refused o = record {
      tracks = over_tracks el.tracks _ o (ap (λ (g : Progress). g.state.over) worked.result
          ∙ settle_over (table_for which) s.cols k worked.left (a - 1) (eliminate (table_for which) lo a k (state_of s)) (sym el.tracks.flag ∙ o));
      less = ap (λ (g : Progress). g.a) worked.result;
      counted = λ z. absurd (true-not-false o z);
    }

    module _ (o : w.over ≡ false) {xs : List ℤ} (r : RowOf which k w xs) where
      size_is : (c : ℕ) → c < a → size (table_for which) (eliminate (table_for which) lo a k (state_of s)) k c ≡ sizes xs c
      size_is c l = ap (λ (u : State). size (table_for which) u k c) (sym (el.tracks.same o)) ∙ size_in r c (omega (arith, el.tracks.cols, b.a_in))

      -- the search for a column that is not zero found one
      pub some-left : (j : Option ℕ) → Filled xs lo a j → IsSome j
      some-left (Some j) jo = search rules
      some-left None jo = absurd (worked.filled (size_is worked.left worked.active.high
          ∙ failed (negated (eq? (sizes xs worked.left) 0))
          (first_nowhere (λ c. not (eqb (sizes xs c) 0)) lo a (sym jo.is) worked.left worked.active)))

      -- which is j
      module _ {j : ℕ} (jo : Filled xs lo a (Some j)) where
        left_is : worked.left ≡ j
        left_is = go (ℕ_discrete worked.left j)
          where
            go : Dec (worked.left ≡ j) → worked.left ≡ j
            go (yes e) = e
            go (no d) =
                let zero : sizes xs j ≡ 0 =
                sym (size_is j jo.inside.high) ∙ worked.only j (record { low = jo.inside.low; high = jo.inside.high }) d in
                absurd (omega (arith, jo.inside.filled))

        swept_steps : w.steps ≤ s.steps + M * 24
        swept_steps = omega (arith, el.counted o, left_small, b.a_in, s.sound.cols)

        pub row-pivot : Pivot which k j w (w.cols + 2)
        row-pivot = record {
          clear = o;
          row_in = omega (arith, same-height which s w el.tracks.rows el.tracks.cols, b.row_in);
          b_in = omega (arith, jo.inside.high, el.tracks.cols, b.a_in);
          filled = omega (arith, jo.inside.filled, size_in r j (omega (arith, jo.inside.high, el.tracks.cols, b.a_in)));
          room = omega (arith, swept_steps, b.room, w.sound.cols);
        }

        pub row_done : {z : Work} → Settled which k j (a - 1) w z → RowDone which k lo a s z
        row_done st =
            let d : settle (table_for which) w.cols k j (a - 1) (state_of w) ≡ (row (table_for which) s.cols lo k (progress s a)).state =
            ap (λ (n : ℕ). settle (table_for which) n k j (a - 1) (state_of w)) el.tracks.cols
            ∙ ap (settle (table_for which) s.cols k j (a - 1)) (el.tracks.same o)
            ∙ ap (λ (x : ℕ). settle (table_for which) s.cols k x (a - 1) (eliminate (table_for which) lo a k (state_of s))) (sym left_is)
            ∙ sym (ap (λ (g : Progress). g.state) worked.result) in
            record {
              tracks = on_tracks el.tracks st.tracks d;
              less = ap (λ (g : Progress). g.a) worked.result;
              counted = λ z. omega (arith, st.counted z, swept_steps, w.sound.cols);
            }
