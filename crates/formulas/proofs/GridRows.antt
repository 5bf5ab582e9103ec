-- A grid written row after row into a list: the rows written so far, and what stood after them.
use mathlib.Core.Path.{◌≡◌, sym, ◌∙◌, ap}
use mathlib.Core.List.{List, ◌++◌, append_assoc}
use Prim.Native.Nat.{ℕ, suc, ◌+◌, ◌*◌}
use native.Mathlib.Numerals.{add-one}
use native.Mathlib.Omega.{arith}
use lib.ListN.{take, drop}
use lib.Seq.{take_at, drop_at, drop-drop}
use lib.IntN.{ℤ}
use Rattle.whole.specs.Lists.{tab}
use Rattle.whole.specs.Matrix.{Matrix}
use Rattle.rules.specs.Calls.{grid}
use Rattle.theory.proofs.Grid.{length-grid}
use Rattle.scaling.proofs.Filling.{join_more}

module _ (n : ℕ) (A : Matrix) (xs : List ℤ) where
  abbrev pub begun : (rows : ℕ) → List ℤ
  begun t = grid t n A ++ drop (t * n) xs

  -- row t is written next
  after : (t : ℕ) → drop n (drop (t * n) (begun t)) ≡ drop (suc t * n) xs
  after t =
      let k : t * n + n ≡ suc t * n = omega arith in
      ap (drop n) (drop_at (grid t n A) (drop (t * n) xs) (t * n) (length-grid t n A)) ∙ drop-drop n (t * n) xs ∙ ap (λ i. drop i xs) k

  pub row_written : (t : ℕ) → take (t * n) (begun t) ++ (tab n (A t) ++ drop n (drop (t * n) (begun t))) ≡ begun (t + 1)
  row_written t =
      ap (λ l. l ++ (tab n (A t) ++ drop n (drop (t * n) (begun t)))) (take_at (grid t n A) (drop (t * n) xs) (t * n) (length-grid t n A))
      ∙ ap (λ l. grid t n A ++ (tab n (A t) ++ l)) (after t)
      ∙ sym (append_assoc (grid t n A) (tab n (A t)) (drop (suc t * n) xs))
      ∙ ap (λ l. l ++ drop (suc t * n) xs) (sym (join_more t (λ r. tab n (λ c. A r c)))) ∙ ap begun (sym (add-one t))
