-- A stage, over the table looked at and the first active column lo: after all its rows the active columns are zero and the others are finished.
use mathlib.Core.Path.{◌≡◌, ◌∙◌}
use Prim.Native.Nat.{ℕ, zero, suc, ◌-◌, ◌≤◌, ◌<◌}
use native.Mathlib.Omega.{arith}
use native.Mathlib.Decide.{ℕ_discrete}
use lib.IntN.{pos}
use lib.Signed.{◌<ℤ◌}
use Rattle.rules.specs.Forms.{InRange}
use Rattle.rules.specs.Search.{Found}
use Rattle.rules.specs.Steps.{State, Table, get}
use Rattle.rules.specs.Stages.{size, eliminate, settle, Progress, settled, row, rows}
use Rattle.theory.proofs.Search.{In, SmallestIs, all-zero, is_smallest, smallest_is}
use Rattle.theory.proofs.StepLines.{count}
use Rattle.theory.proofs.Moves.{Moves, stay, both, widen, moves_count, still}
use Rattle.theory.proofs.Eliminate.{entry_zero, size_zero, eliminate-alone, eliminate-moves}
use Rattle.theory.proofs.Settle.{RowSettled, settle_is}
use Rattle.theory.proofs.Pivots.{FinishedColumn, pivot-kept}

-- rows k and below, of m, are done: the active columns lo to a are zero there, and columns a to n are finished
pub record RowsFinished (tb : Table) (n lo m k : ℕ) (u : State) (a : ℕ) : Type 0 where
  pub low : lo ≤ a
  pub high : a ≤ n
  pub lines : count u ≡ n
  pub clean : (r : ℕ) → k ≤ r → r < m → (c : ℕ) → In lo a c → get tb u r c ≡ pos 0
  pub pivots : (c : ℕ) → In a n c → FinishedColumn (get tb u) lo n m k c

-- what a part of a stage makes of g
pub record Advanced (tb : Table) (n lo m k : ℕ) (g h : Progress) : Type 0 where
  pub stands : RowsFinished tb n lo m k h.state h.a
  pub moves : Moves n lo n g.state h.state

module _ (tb : Table) (n lo m k : ℕ) (hk : k < m) (u : State) (a : ℕ) (v : RowsFinished tb n lo m (suc k) u a) where
  -- a run over the active columns changes nothing in the rows done
  rows-still : {w : State} → Moves n lo a u w → (r : ℕ) → suc k ≤ r → r < m → (c : ℕ) → get tb w r c ≡ get tb u r c
  rows-still s r h l = still v.high s v.lines tb r (v.clean r h l)

  module _ (w : State) (s : Moves n lo a u w) where
    -- columns lo to b of row k are zero now too
    clean_too : (b : ℕ) → b ≤ a → ((c : ℕ) → In lo b c → get tb w k c ≡ pos 0) → (r : ℕ) → k ≤ r → r < m → (c : ℕ) → In lo b c → get tb w r c ≡ pos 0
    clean_too b f z r h l c i = pick (ℕ_discrete k r)
      where
        pick : Dec (k ≡ r) → get tb w r c ≡ pos 0
        pick (yes e) = rw (← e) (z c i)
        pick (no d) = rows-still s r (omega arith) l c ∙ v.clean r (omega arith) l c (omega arith)

    pivots_too : (c : ℕ) → In a n c → FinishedColumn (get tb w) lo n m k c
    pivots_too c i = pivot-kept (get tb u) (get tb w) lo n m (suc k) k c (omega arith) (omega (arith, v.low))
        (λ r d h l _. rows-still s r h l d) (v.pivots c i)

    -- row k is all zero
    passed : ((c : ℕ) → In lo a c → get tb w k c ≡ pos 0) → RowsFinished tb n lo m k w a
    passed z = record { low = v.low; high = v.high; lines = moves_count s v.lines; clean = clean_too a (omega arith) z; pivots = pivots_too }

    -- row k has its pivot in the last active column b
    placed : (b : ℕ) → a ≡ suc b → lo ≤ b → pos 0 <ℤ get tb w k b → ((d : ℕ) → In lo b d → get tb w k d ≡ pos 0)
        → ((d : ℕ) → In (suc b) n d → InRange (get tb w k d) (get tb w k b)) → RowsFinished tb n lo m k w b
    placed b e lb pv z right = record {
      low = lb;
      high = omega (arith, v.high);
      lines = moves_count s v.lines;
      clean = clean_too b (omega arith) z;
      pivots = λ c i. pivot c i (ℕ_discrete c b);
    }
      where
        pivot : (c : ℕ) → In b n c → Dec (c ≡ b) → FinishedColumn (get tb w) lo n m k c
        pivot c i (yes d) = rw d (record {
          at = k;
          first = omega arith;
          within = hk;
          positive = pv;
          below = λ r h l. rows-still s r h l b ∙ v.clean r h l b (omega arith);
          left = λ r d h l j. clean_too b (omega arith) z r h l d j;
          right = right;
        })
        pivot c i (no d) = pivots_too c (omega arith)

module _ (tb : Table) (n lo m : ℕ) where
  pub row_is : (k : ℕ) → k < m → (g : Progress) → RowsFinished tb n lo m (suc k) g.state g.a → Advanced tb n lo m k g (row tb n lo k g)
  unfolding row
  row_is k hk g v = go (smallest_is (size tb w k) lo a)
    where
      u : State
      u = g.state

      a : ℕ
      a = g.a

      w : State
      w = eliminate tb lo a k u

      first : Moves n lo a u w
      first = eliminate-moves tb lo a k n u v.lines

      go : {x : Found} → SmallestIs (size tb w k) lo a x → Advanced tb n lo m k g (settled tb n a k w x)
      go (all-zero z) = record { stands = passed tb n lo m k hk u a v w first (λ c i. entry_zero tb w k c (z c i)); moves = widen v.high first }
      go (is_smallest p s) =
          let b : ℕ = a - 1 in
          let i : In lo a p = s.within in
          let e : a ≡ suc b = omega arith in
          let fit : b < n = omega (arith, v.high) in
          let done : RowSettled tb n lo b k w (settle tb n k p b w) = settle_is tb n lo b k fit w (moves_count first v.lines) p (omega arith)
          (λ y. s.filled (size_zero tb w k p y)) (λ c j d. entry_zero tb w k c (eliminate-alone tb lo a k u p c i (omega arith) d s.filled)) in
          let all : Moves n lo a u (settle tb n k p b w) = both first (widen (omega arith) done.moves) in
          record {
            stands = placed tb n lo m k hk u a v (settle tb n k p b w) all b e (omega arith) done.pivot done.zeros done.in_range;
            moves = widen v.high all;
          }

  rows_are : (k : ℕ) → k ≤ m → (g : Progress) → RowsFinished tb n lo m k g.state g.a → Advanced tb n lo m 0 g (rows tb n lo k g)
  unfolding rows
  rows_are zero h g v = record { stands = v; moves = stay }
  rows_are (suc k) h g v =
      let d : Advanced tb n lo m k g (row tb n lo k g) = row_is k h g v in
      let e : Advanced tb n lo m 0 (row tb n lo k g) (rows tb n lo k (row tb n lo k g)) = rows_are k (omega arith) (row tb n lo k g) d.stands in
      record { stands = e.stands; moves = both d.moves e.moves }

  -- before the first row
  pub no_row_done : (u : State) → count u ≡ n → lo ≤ n → RowsFinished tb n lo m m u n
  no_row_done u e h = record { low = h; high = omega arith; lines = e; clean = λ r k l. absurd (omega arith); pivots = λ c i. absurd (omega arith) }

  -- the whole stage, from any state of n lines
  pub stage_is : (u : State) → count u ≡ n → lo ≤ n → Advanced tb n lo m 0 (record { state = u; a = n }) (rows tb n lo m (record { state = u; a = n }))
  stage_is u e h = rows_are m (omega arith) (record { state = u; a = n }) (no_row_done u e h)
