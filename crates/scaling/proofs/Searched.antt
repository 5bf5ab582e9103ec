-- (A)'s two searches by the code: with p, the column of the smallest entry, and what `other` found, it is known what (A) does next.
use mathlib.Core.Path.{◌≡◌, sym, ◌∙◌, ap}
use mathlib.Core.List.{List}
use Prim.Native.Nat.{ℕ, ◌≤◌}
use native.Mathlib.Omega.{arith}
use lib.IntN.{ℤ, neg_ℤ}
use lib.Signed.{quot_z}
use Rattle.std.specs.Prelude.{Some, None}
use Rattle.whole.specs.Lists.{nth}
use Rattle.rules.specs.Search.{found, first, smallest}
use Rattle.rules.specs.Stages.{is_other, other_column, done, adds, next}
use Rattle.theory.proofs.Search.{Smallest, first_cong, smallest-there}
use Rattle.theory.proofs.Repetition.{next-adds, next-done}
use Rattle.scaling.specs.declared.work.Table.{Table}
use Rattle.scaling.specs.declared.work.Work.{Work}
use Rattle.scaling.specs.WorkState.{state_of, table_for, RowOf}
use Rattle.scaling.specs.Scan.{sizes, Other, Divisible}
use Rattle.scaling.specs.Rows.{sizes_in}
use Rattle.scaling.proofs.TableRow.{size_in}

module _ {which : Table} {row : ℕ} {s : Work} {xs : List ℤ} (r : RowOf which row s xs) where
  -- the test reads only the columns there are
  pub other_same : (lo a p : ℕ) → a ≤ s.cols → other_column (table_for which) lo a row p (state_of s) ≡ first (is_other (sizes xs) p) lo a
  other_same lo a p h =
      first_cong (is_other (sizes_in which s row) p) (is_other (sizes xs) p) lo a (λ c i. rw (size_in r c (omega (arith, i.high))))

  module _ {lo a p : ℕ} (h : a ≤ s.cols) (sm : smallest (sizes_in which s row) lo a ≡ found p) where
    p_is : Smallest (sizes_in which s row) lo a p
    p_is = smallest-there (sizes_in which s row) lo a p sm

    pub none_left : Other xs p lo a None → next (table_for which) lo a row (state_of s) ≡ done
    none_left o = next-done (table_for which) lo a row (state_of s) p sm (other_same lo a p h ∙ sym o.is)

    module _ {k : ℕ} (o : Other xs p lo a (Some k)) where
      pub can_divide : Divisible xs p k
      can_divide = record {
        p_in = omega (arith, p_is.within.high, r.whole);
        j_in = omega (arith, o.inside.high, r.whole);
        filled = omega (arith, p_is.filled, size_in r p (omega (arith, p_is.within.high)));
      }

      pub one_more : (q : ℤ) → q ≡ neg_ℤ (quot_z (nth xs k) (nth xs p)) → next (table_for which) lo a row (state_of s) ≡ adds p k q
      one_more q e = next-adds (table_for which) lo a row (state_of s) p k sm (other_same lo a p h ∙ sym o.is)
          ∙ ap (adds p k) (rw (r.entry k (omega (arith, o.inside.high)), r.entry p (omega (arith, p_is.within.high))) (sym e))
