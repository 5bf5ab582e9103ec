-- A row of the table that a stage looks at, as the code reads it: its entries are those of the definition's state, and how large they are.
use mathlib.Core.Path.{◌≡◌, sym, ◌∙◌, ap}
use mathlib.Core.Bool.{false}
use mathlib.Core.List.{List}
use Prim.Native.Nat.{ℕ, ◌+◌, ◌-◌, ◌*◌, ◌<◌, ◌≤◌}
use native.Mathlib.Nat.{le_refl}
use native.Mathlib.Omega.{arith}
use lib.ListN.{take, drop, length-drop}
use lib.Seq.{length-take-le}
use lib.IntN.{ℤ, nat_abs}
use Rattle.whole.specs.Lists.{nth}
use Rattle.whole.proofs.Order.{row_within}
use Rattle.rules.specs.Limits.{M}
use Rattle.rules.specs.Stages.{size}
use Rattle.scaling.specs.declared.work.Table.{Table}
use Rattle.scaling.specs.declared.work.Table.TheVariants.{T, V}
use Rattle.scaling.specs.declared.work.Work.{Work}
use Rattle.scaling.specs.Sound.{Small}
use Rattle.scaling.specs.WorkState.{entries_for, height_for, RowOf}
use Rattle.scaling.specs.Scan.{sizes}
use Rattle.scaling.specs.Rows.{sizes_in}
use Rattle.scaling.proofs.State.{state-get, table-room}
use Rattle.scaling.proofs.Finding.{row-nth}

-- the part of the flat list in which row k stands
pub row_is : (which : Table) (s : Work) (k : ℕ) → k < height_for which s → {xs : List ℤ} → xs ≡ entries_for which s
    → RowOf which k s (take (k * s.cols + s.cols - k * s.cols) (drop (k * s.cols) xs))
row_is which s k h {xs} e =
    let w : k * s.cols + s.cols - k * s.cols ≡ s.cols = omega arith in
    rw (e, w) (record {
      whole = length-take-le s.cols (drop (k * s.cols) (entries_for which s))
          (omega (arith, length-drop (k * s.cols) (entries_for which s), table-room s which, row_within k s.cols (height_for which s) s.cols h (le_refl s.cols)));
      entry = λ c l. state-get s which k c h l ∙ ap (nth (entries_for which s)) (omega arith) ∙ sym (row-nth (entries_for which s) (k * s.cols) s.cols c l);
    })

-- a table of a state of the same sizes has as many rows
pub same-height : (which : Table) (s w : Work) → w.m ≡ s.m → w.cols ≡ s.cols → height_for which w ≡ height_for which s
same-height T s w e g = e
same-height V s w e g = g

pub size_in : {which : Table} {s : Work} {row : ℕ} {xs : List ℤ} → RowOf which row s xs → (c : ℕ) → c < s.cols → sizes_in which s row c ≡ sizes xs c
unfolding size
size_in r c h = ap nat_abs (r.entry c h)

entries-small : (which : Table) (s : Work) → s.over ≡ false → Small (entries_for which s)
entries-small T s o = s.sound.t_small o
entries-small V s o = s.sound.v_small o

pub size_small : (which : Table) (s : Work) (row : ℕ) → s.over ≡ false → row < height_for which s → (c : ℕ) → c < s.cols → sizes_in which s row c ≤ M
unfolding size
size_small which s row o h c k = rw (state-get s which row c h k) ((entries-small which s o).at (c + row * s.cols))
