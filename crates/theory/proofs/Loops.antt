-- The recursions of rules/specs as a loop meets them: before the first index, one index more, and the way out.
use mathlib.Core.Path.{◌≡◌, refl, sym, ◌∙◌, ap}
use mathlib.Core.Logic.{◌≢◌}
use mathlib.Core.Bool.{Bool, true, false}
use Prim.Native.Nat.{ℕ, zero, suc, ◌-◌, ◌≤◌, ◌<◌}
use native.Mathlib.Omega.{arith}
use native.Mathlib.Decide.{ℕ_discrete, dec_lt}
use borrow.Author.Tests.{lt-ltb, le-ltb}
use Rattle.rules.specs.Search.{Found, none, found, or_at, first, last, or_smaller, smallest, each}
use Rattle.rules.specs.Steps.{State, Table}
use Rattle.rules.specs.Stages.{size, next, eliminate, settle, Progress, settled, row, rows, pivot_row, reduce_first, stage3}
use Rattle.theory.proofs.Search.{In, SmallestIs, all-zero, is_smallest, smallest_is, smallest-none}
use Rattle.theory.proofs.Eliminate.{eliminate-done, eliminate-alone, eliminate-filled}

-- ---- the smallest
module _ (f : ℕ → ℕ) (lo : ℕ) where
  pub smallest_start : (c : ℕ) → c ≤ lo → smallest f lo c ≡ none
  unfolding smallest
  smallest_start zero h = refl
  smallest_start (suc c) h = rw (lt-ltb c lo h, smallest)

  pub smallest-step : (c : ℕ) → lo ≤ c → smallest f lo (suc c) ≡ or_smaller f c (smallest f lo c)
  unfolding smallest
  smallest-step c h = rw (le-ltb c lo h, smallest)

-- ---- the first
module _ (test : ℕ → Bool) (lo : ℕ) where
  pub first_start : (c : ℕ) → c ≤ lo → first test lo c ≡ none
  unfolding first
  first_start zero h = refl
  first_start (suc c) h = rw (lt-ltb c lo h, first)

  pub first_step : (c : ℕ) → lo ≤ c → first test lo (suc c) ≡ or_at test c (first test lo c)
  unfolding first
  first_step c h = rw (le-ltb c lo h, first)

  -- a search that has found is left
  pub first_stop : (j c hi : ℕ) → c ≤ hi → lo ≤ c → first test lo c ≡ found j → first test lo hi ≡ found j
  first_stop j c zero h l e = let z : c ≡ 0 = omega arith in rw (← z) e
  first_stop j c (suc hi) h l e = go (ℕ_discrete c (suc hi)) (λ k. first_stop j c hi k l e)
    where
      go : Dec (c ≡ suc hi) → (c ≤ hi → first test lo hi ≡ found j) → first test lo (suc hi) ≡ found j
      go (yes z) r = rw (← z) e
      go (no z) r = first_step hi (omega arith) ∙ ap (or_at test hi) (r (omega arith))

  -- nothing so far, and not here
  pub first_more : (c : ℕ) → lo ≤ c → first test lo c ≡ none → test c ≡ false → first test lo (suc c) ≡ none
  first_more c h e t = first_step c h ∙ ap (or_at test c) e ∙ rw (t, or_at)

  -- nothing so far, and here
  pub first_hit : (c hi : ℕ) → lo ≤ c → c < hi → first test lo c ≡ none → test c ≡ true → first test lo hi ≡ found c
  first_hit c hi h l e t = first_stop c (suc c) hi l (omega arith) (first_step c h ∙ ap (or_at test c) e ∙ rw (t, or_at))

-- ---- the last, from the end down
pub last_end : (test : ℕ → Bool) → last test 0 ≡ none
unfolding last
last_end test = refl

module _ (test : ℕ → Bool) (c : ℕ) where
  pub last_hit : test c ≡ true → last test (suc c) ≡ found c
  unfolding last
  last_hit t = rw (t, last)

  pub last_more : test c ≡ false → last test (suc c) ≡ last test c
  unfolding last
  last_more t = rw (t, last)

-- ---- a step at each index
module _ {S : Type 0} (f : ℕ → S → S) (lo : ℕ) (s : S) where
  pub each_start : (c : ℕ) → c ≤ lo → each f lo c s ≡ s
  unfolding each
  each_start zero h = refl
  each_start (suc c) h = rw (lt-ltb c lo h, each)

  pub each_step : (c : ℕ) → lo ≤ c → each f lo (suc c) s ≡ f c (each f lo c s)
  unfolding each
  each_step c h = rw (le-ltb c lo h, each)

-- indices from lo on at which nothing changes are passed over
pub each_skip : {S : Type 0} (f : ℕ → S → S) (lo c : ℕ) (s : S) → ((i : ℕ) → lo ≤ i → i < c → f i s ≡ s) → lo ≤ c
    → (hi : ℕ) → each f lo hi s ≡ each f c hi s
each_skip f lo c s still l zero = each_start f lo s 0 (omega arith) ∙ sym (each_start f c s 0 (omega arith))
each_skip f lo c s still l (suc h) = go (dec_lt h lo) (dec_lt h c) (each_skip f lo c s still l h)
  where
    go : Dec (h < lo) → Dec (h < c) → each f lo h s ≡ each f c h s → each f lo (suc h) s ≡ each f c (suc h) s
    go (yes x) y r = each_start f lo s (suc h) x ∙ sym (each_start f c s (suc h) (omega arith))
    go (no x) (yes y) r = each_step f lo s h (omega arith) ∙ ap (f h) (r ∙ each_start f c s h (omega arith)) ∙ still h (omega arith) y
        ∙ sym (each_start f c s (suc h) y)
    go (no x) (no y) r = each_step f lo s h (omega arith) ∙ ap (f h) r ∙ sym (each_step f c s h (omega arith))

-- ---- the rows of a stage, from the last to the first
module _ (tb : Table) (n lo : ℕ) (g : Progress) where
  pub rows_end : rows tb n lo 0 g ≡ g
  unfolding rows
  rows_end = refl

  pub rows_step : (k : ℕ) → rows tb n lo (suc k) g ≡ rows tb n lo k (row tb n lo k g)
  unfolding rows
  rows_step k = refl

-- ---- the columns of stage 3, from the last to the first
module _ (n r : ℕ) (u : State) where
  pub stage3_end : (c : ℕ) → c ≤ r → stage3 n r c u ≡ u
  unfolding stage3
  stage3_end zero h = refl
  stage3_end (suc c) h = rw (lt-ltb c r h, stage3)

  pub stage3-step : (c : ℕ) → r ≤ c → stage3 n r (suc c) u ≡ stage3 n r c (reduce_first r c u (pivot_row n c u))
  unfolding stage3
  stage3-step c h = rw (le-ltb c r h, stage3)

-- ---- a row: it is passed over if its active columns are all 0 (R7.7)
pub row-pass : (tb : Table) (n lo k : ℕ) (g : Progress) → ((c : ℕ) → In lo g.a c → size tb g.state k c ≡ 0) → row tb n lo k g ≡ g
unfolding row next
row-pass tb n lo k g z =
    let e : smallest (size tb g.state k) lo g.a ≡ none = smallest-none (size tb g.state k) lo g.a z in
    rw (eliminated e) (rw e)
  where
    eliminated : smallest (size tb g.state k) lo g.a ≡ none → eliminate tb lo g.a k g.state ≡ g.state
    eliminated e = eliminate-done tb lo g.a k g.state (rw e)

-- otherwise (A), until exactly one column is left, and (B) with that
pub record Worked (tb : Table) (n lo k : ℕ) (g h : Progress) : Type 0 where
  pub left : ℕ
  pub active : In lo g.a left
  pub filled : size tb (eliminate tb lo g.a k g.state) k left ≢ 0
  pub only : (c : ℕ) → In lo g.a c → left ≢ c → size tb (eliminate tb lo g.a k g.state) k c ≡ 0
  pub result : h ≡ record { state = settle tb n k left (g.a - 1) (eliminate tb lo g.a k g.state); a = g.a - 1 }

pub row_works : (tb : Table) (n lo k : ℕ) (g : Progress) (p : ℕ) → In lo g.a p → size tb g.state k p ≢ 0 → Worked tb n lo k g (row tb n lo k g)
unfolding row
row_works tb n lo k g p x h = go (smallest_is (size tb u k) lo g.a)
  where
    u : State
    u = eliminate tb lo g.a k g.state

    some : (c : ℕ) × In lo g.a c × (size tb u k c ≢ 0)
    some = eliminate-filled tb lo g.a k g.state p x h

    go : {y : Found} → SmallestIs (size tb u k) lo g.a y → Worked tb n lo k g (settled tb n g.a k u y)
    go (all-zero z) = absurd (some.2 (z some.0 some.1))
    go (is_smallest q s) = record {
      left = q;
      active = s.within;
      filled = s.filled;
      only = λ c j d. eliminate-alone tb lo g.a k g.state q c s.within j d s.filled;
      result = refl;
    }
