-- Stage 3 by the code: the columns from the last down, each with the row of its lowest entry.
use mathlib.Core.Path.{◌≡◌, refl, sym, ◌∙◌, ap}
use mathlib.Core.Bool.{true, false, not}
use Prim.Native.Nat.{ℕ, suc, ◌+◌, ◌*◌, ◌-◌, ◌≤◌, ◌<◌}
use native.Mathlib.Nat.{suc-mul}
use native.Mathlib.Omega.{arith}
use lib.Dec.{eqb}
use lib.IntN.{nat_abs}
use Rattle.std.specs.Prelude.{Some, None}
use Rattle.whole.specs.Lists.{nth}
use Rattle.rules.specs.Search.{Found, found, last}
use Rattle.rules.specs.Steps.{State}
use Rattle.rules.specs.Stages.{pivot_row, reduce_first, stage3}
use Rattle.theory.proofs.Search.{last_cong}
use Rattle.theory.proofs.Loops.{stage3_end, stage3-step}
use Rattle.theory.proofs.Flag.{stage3_over}
use Rattle.scaling.specs.declared.work.Table.TheVariants.{V}
use Rattle.scaling.specs.declared.work.Work.{Work}
use Rattle.scaling.specs.WorkState.{state_of, Tracks}
use Rattle.scaling.specs.Scan.{Lowest}
use Rattle.scaling.specs.Rows.{sizes_in, Pivot, AllReduced, Stage3Begun}
use Rattle.scaling.proofs.State.{state_over, state_size}
use Rattle.scaling.proofs.Tracking.{over_tracks, on_tracks}

-- the columns from c on are done
pub record Third (r c : ℕ) (s u : Work) : Type 0 where
  pub rows : u.m ≡ s.m
  pub cols : u.cols ≡ s.cols
  pub clear : u.over ≡ false
  pub low : r ≤ c
  pub high : c ≤ s.cols
  pub rest : stage3 s.cols r c (state_of u) ≡ stage3 s.cols r s.cols (state_of s)
  pub steps : u.steps + c * s.cols ≤ s.steps + s.cols * s.cols

module _ {r c : ℕ} {s u : Work} (b : Stage3Begun r s) (g : Third r c s u) where
  along : {v : State} → state_of u ≡ v → Tracks s.m s.cols u v
  along e = record { rows = g.rows; cols = g.cols; flag = sym (state_over u) ∙ ap (λ (x : State). x.over) e; same = λ _. e }

  pub third_end : c ≤ r → Tracks s.m s.cols u (stage3 s.cols r s.cols (state_of s))
  third_end h = along (sym (stage3_end s.cols r (state_of u) c h) ∙ g.rest)

  -- column c - 1
  module _ (h : r < c) where
    less : (c - 1) * s.cols + s.cols ≡ c * s.cols
    less = let e : suc (c - 1) ≡ c = omega arith in sym (suc-mul (c - 1) s.cols) ∙ ap (λ (x : ℕ). x * s.cols) e

    one : stage3 s.cols r (c - 1) (reduce_first r (c - 1) (state_of u) (pivot_row s.cols (c - 1) (state_of u))) ≡ stage3 s.cols r s.cols (state_of s)
    one = let e : suc (c - 1) ≡ c = omega arith in sym (stage3-step s.cols r (state_of u) (c - 1) (omega arith)) ∙ rw e g.rest

    pub column : c - 1 < u.cols
    column = omega (arith, g.cols, g.high)

    row_is : pivot_row u.cols (c - 1) (state_of u) ≡ last (λ i. not (eqb (nat_abs (nth u.v (c - 1 + i * u.cols))) 0)) u.cols
    row_is = last_cong (λ i. not (eqb (sizes_in V u i (c - 1)) 0)) (λ i. not (eqb (nat_abs (nth u.v (c - 1 + i * u.cols))) 0)) u.cols
        (λ i l. ap (λ (x : ℕ). not (eqb x 0)) (state_size u V i (c - 1) l column))

    -- what the search for the row found
    then : {x : Found} → x ≡ last (λ i. not (eqb (nat_abs (nth u.v (c - 1 + i * u.cols))) 0)) u.cols
        → stage3 s.cols r (c - 1) (reduce_first r (c - 1) (state_of u) x) ≡ stage3 s.cols r s.cols (state_of s)
    then e = ap (λ (x : Found). stage3 s.cols r (c - 1) (reduce_first r (c - 1) (state_of u) x))
        (e ∙ sym row_is ∙ ap (λ (n : ℕ). pivot_row n (c - 1) (state_of u)) g.cols) ∙ one

    pub third_pass : Lowest u.v u.cols (c - 1) None → Third r (c - 1) s u
    third_pass lw = record {
      rows = g.rows;
      cols = g.cols;
      clear = g.clear;
      low = omega arith;
      high = omega (arith, g.high);
      rest = then lw.is;
      steps = omega (arith, g.steps, less);
    }

    module _ {k : ℕ} (lw : Lowest u.v u.cols (c - 1) (Some k)) where
      pub third_pivot : Pivot V k (c - 1) u u.cols
      third_pivot = record {
        clear = g.clear;
        row_in = lw.inside.0;
        b_in = column;
        filled = omega (arith, state_size u V k (c - 1) lw.inside.0 column, lw.inside.1);
        room = omega (arith, g.cols, g.steps, less, b.room);
      }

      module _ {w : Work} (a : AllReduced V k (c - 1) 0 r u w) where
        next : Tracks s.m s.cols w (reduce_first r (c - 1) (state_of u) (found k))
        next = on_tracks (along refl) a.tracks refl

        pub third_next : w.over ≡ false → Third r (c - 1) s w
        third_next o = record {
          rows = next.rows;
          cols = next.cols;
          clear = o;
          low = omega arith;
          high = omega (arith, g.high);
          rest = ap (stage3 s.cols r (c - 1)) (next.same o) ∙ then lw.is;
          steps = omega (arith, g.cols, g.steps, less, a.counted o);
        }

        pub third_over : w.over ≡ true → Tracks s.m s.cols w (stage3 s.cols r s.cols (state_of s))
        third_over o = over_tracks next _ o
            (ap (λ (x : State). x.over) (sym (then lw.is))
            ∙ stage3_over s.cols r (c - 1) (reduce_first r (c - 1) (state_of u) (found k)) (sym next.flag ∙ o))
