-- Stage 3: it leaves T and the last columns of V alone, and brings the first r columns of V into range at every pivot row of the last ones.
use mathlib.Core.Path.{◌≡◌, refl, sym, ◌∙◌, ap}
use mathlib.Core.Bool.{Bool, true, false, not}
use Prim.Native.Nat.{ℕ, zero, suc, ◌≤◌, ◌<◌}
use native.Mathlib.Omega.{arith}
use native.Mathlib.Decide.{ℕ_discrete}
use Rattle.whole.proofs.Tests.{Test, pass, fail, lt?}
use Rattle.rules.specs.Limits.{is_zero}
use Rattle.rules.specs.Forms.{InRange}
use Rattle.rules.specs.Search.{found, each}
use Rattle.rules.specs.Steps.{State, on_v, get}
use Rattle.rules.specs.Stages.{size, reduce, pivot_row, reduce_first, stage3}
use Rattle.theory.proofs.Search.{In, last_cong}
use Rattle.theory.proofs.StepLines.{count}
use Rattle.theory.proofs.Moves.{Moves, stay, both, widen, moves_count, still}
use Rattle.theory.proofs.Settle.{ColumnsReduced, all_reduced}
use Rattle.theory.proofs.Pivots.{FinishedColumn, pivot-kept, lowest, pivot_found}

-- columns r to n of V are finished
abbrev pub Finished : (n r : ℕ) → State → Type 0
Finished n r u = (c : ℕ) → In r n c → FinishedColumn (get on_v u) r n n 0 c

pub pivot_row_is : (n c : ℕ) (u : State) → pivot_row n c u ≡ lowest (get on_v u) n c
unfolding size
pivot_row_is n c u = refl

pub finished-row : (n r : ℕ) (u : State) (f : Finished n r u) (c : ℕ) (i : In r n c) → pivot_row n c u ≡ found (f c i).at
finished-row n r u f c i = pivot_row_is n c u ∙ pivot_found (get on_v u) r n n 0 c (f c i)

-- the pivot row of a column depends on that column only
pub pivot_row_same : (n c : ℕ) (u w : State) → ((i : ℕ) → get on_v w i c ≡ get on_v u i c) → pivot_row n c w ≡ pivot_row n c u
pivot_row_same n c u w same = pivot_row_is n c w
    ∙ last_cong (λ k. not (is_zero (get on_v w k c))) (λ k. not (is_zero (get on_v u k c))) n (λ k _. ap (λ z. not (is_zero z)) (same k))
    ∙ sym (pivot_row_is n c u)

-- columns r to c are dealt with
pub record FirstReduced (n r c : ℕ) (u w : State) : Type 0 where
  pub moves : Moves n r c u w
  pub same : (i d : ℕ) → r ≤ d → get on_v w i d ≡ get on_v u i d
  pub in_range : (d k e : ℕ) → In r c d → pivot_row n d u ≡ found k → e < r → InRange (get on_v w k e) (get on_v w k d)

module _ (n r : ℕ) (fit : r ≤ n) where
  -- one column, and then those before it
  column_first : (c : ℕ) → r ≤ c → (l : c < n) (u : State) → count u ≡ n → Finished n r u
      → ((w : State) → count w ≡ n → Finished n r w → FirstReduced n r c w (stage3 n r c w))
      → FirstReduced n r (suc c) u (stage3 n r c (reduce_first r c u (pivot_row n c u)))
  column_first c g l u ct f rest = rw (finished-row n r u f c here) (record {
    moves = both now.moves (widen (omega arith) then.moves);
    same = λ i d j. then.same i d j ∙ column_same i d j;
    in_range = λ d k₂ e i q j. pick d k₂ e i q j (ℕ_discrete d c);
  })
    where
      here : In r n c
      here = omega arith

      p : FinishedColumn (get on_v u) r n n 0 c
      p = f c here

      k : ℕ
      k = p.at

      w : State
      w = each (reduce on_v k c) 0 r u

      now : ColumnsReduced on_v n r (suc c) k c 0 r u w
      now = all_reduced on_v n r (suc c) k c (omega arith) 0 r u ct (omega arith) fit (λ i. omega arith) p.positive

      column_same : (i d : ℕ) → r ≤ d → get on_v w i d ≡ get on_v u i d
      column_same i d j = now.same i d (λ x. omega arith)

      ct₂ : count w ≡ n
      ct₂ = moves_count now.moves ct

      then : FirstReduced n r c w (stage3 n r c w)
      then = rest w ct₂ (λ d i. pivot-kept (get on_v u) (get on_v w) r n n 0 0 d (omega arith) i (λ i₂ d₂ _ _ j. column_same i₂ d₂ j.low) (f d i))

      -- the columns before it are zero in its pivot row, so what follows leaves that row alone
      quiet : (e : ℕ) → get on_v (stage3 n r c w) k e ≡ get on_v w k e
      quiet e = still (omega arith) then.moves ct₂ on_v k (λ d i. column_same k d i.low ∙ p.left k d (omega arith) p.within i) e

      pick : (d k₂ e : ℕ) → In r (suc c) d → pivot_row n d u ≡ found k₂ → e < r → Dec (d ≡ c)
          → InRange (get on_v (stage3 n r c w) k₂ e) (get on_v (stage3 n r c w) k₂ d)
      pick d k₂ e i q j (yes y) =
          let q₂ : pivot_row n c u ≡ found k₂ = rw y at q in
          let q₃ : pivot_row n c u ≡ found k = finished-row n r u f c here in
          let same_row : k₂ ≡ k = cc in
          rw (same_row, y, quiet e, quiet c, column_same k c g) (now.in_range e (omega arith))
      pick d k₂ e i q j (no y) = then.in_range d k₂ e (omega arith) (pivot_row_same n d u w (λ i₂. column_same i₂ d i.low) ∙ q) j

  pub stage3_is : (c : ℕ) → c ≤ n → (u : State) → count u ≡ n → Finished n r u → FirstReduced n r c u (stage3 n r c u)
  unfolding stage3
  stage3_is zero h u ct f = record { moves = stay; same = λ i d _. refl; in_range = λ d k e i. absurd (omega arith) }
  stage3_is (suc c) h u ct f = go (lt? c r) (λ w x y. stage3_is c (omega arith) w x y)
    where
      go : {b : Bool} → Test (c < r) (r ≤ c) b → ((w : State) → count w ≡ n → Finished n r w → FirstReduced n r c w (stage3 n r c w))
          → FirstReduced n r (suc c) u (elim b [ true ↦ u | false ↦ stage3 n r c (reduce_first r c u (pivot_row n c u)) ])
      go (pass g) rest = record { moves = stay; same = λ i d _. refl; in_range = λ d k e i. absurd (omega arith) }
      go (fail g) rest = column_first c g h u ct f rest
