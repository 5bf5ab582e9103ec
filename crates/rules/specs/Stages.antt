-- Section 7 of the rules: (A), (B), the three stages and the whole run, on whole numbers without limit.
-- Rows and columns count from 0; 'columns lo to a', the active ones, are lo, .., a - 1.
use Rattle.std.specs.Prelude.{Bool, true, false, not, ◌&&◌, List, ℕ, zero, suc, ◌-◌, ltb, eqb, ℤ, pos, neg_ℤ, nat_abs}
use Rattle.std.specs.Int.Signed.{quot_z, lt_z}
use Rattle.whole.specs.Division.{floor_z}
use Rattle.whole.specs.Matrix.{Matrix}
use Rattle.rules.specs.Limits.{is_zero}
use Rattle.rules.specs.Search.{Found, none, found, first, last, smallest, total, each}
use Rattle.rules.specs.Problem.{Problem, N, columns}
use Rattle.rules.specs.Steps.{State, Table, on_t, on_v, get, get_w, swap_step, negate_step, add_step, reorder, start}

-- ---- (A), R7.8, among columns lo to a of row k
unfoldable pub size : Table → State → (k c : ℕ) → ℕ
size tb u k c = nat_abs (get tb u k c)

-- p: the least absolute value that is not 0, the lowest of several
abbrev pub pivot_column : Table → (lo a k : ℕ) → State → Found
pivot_column tb lo a k u = smallest (size tb u k) lo a

-- j: the lowest other column that is not 0
abbrev pub is_other : (ℕ → ℕ) → ℕ → ℕ → Bool
is_other f p c = not (eqb c p) && not (eqb (f c) 0)

abbrev pub other_column : Table → (lo a k p : ℕ) → State → Found
other_column tb lo a k p u = first (is_other (size tb u k) p) lo a

-- what (A) does next: nothing, or add q times column p to column j
pub data Next : Type 0 where
  done : Next
  adds : (p j : ℕ) (q : ℤ) → Next

-- quot_z rounds toward zero
abbrev pub next_add : Table → (k : ℕ) → State → (p : ℕ) → Found → Next
next_add tb k u p none = done
next_add tb k u p (found j) = adds p j (neg_ℤ (quot_z (get tb u k j) (get tb u k p)))

abbrev pub next_for : Table → (lo a k : ℕ) → State → Found → Next
next_for tb lo a k u none = done
next_for tb lo a k u (found p) = next_add tb k u p (other_column tb lo a k p u)

unfoldable pub next : Table → (lo a k : ℕ) → State → Next
next tb lo a k u = next_for tb lo a k u (pivot_column tb lo a k u)

-- (A) again and again until p alone is left, at most so often
unfoldable pub repeat_a : (times : ℕ) → Table → (lo a k : ℕ) → State → State
repeat_a zero tb lo a k u = u
repeat_a (suc times) tb lo a k u = elim (next tb lo a k u) [ done ↦ u | adds p j q ↦ repeat_a times tb lo a k (add_step p j q u) ]

-- the sum of the absolute values falls with each addition, so that many times are enough
unfoldable pub eliminate : Table → (lo a k : ℕ) → State → State
eliminate tb lo a k u = repeat_a (total (size tb u k) lo a) tb lo a k u

-- ---- (B), R7.9, in row k
-- column c is brought into range by the pivot's column b; floor_z rounds down
unfoldable pub reduce : Table → (k b c : ℕ) → State → State
reduce tb k b c u =
    let q : ℤ = neg_ℤ (floor_z (get tb u k c) (get tb u k b)) in
    elim (is_zero q) [ true ↦ u | false ↦ add_step b c q u ]

-- the pivot comes to column b
unfoldable pub bring : (p b : ℕ) → State → State
bring p b u = elim (eqb p b) [ true ↦ u | false ↦ swap_step p b u ]

-- and becomes positive
unfoldable pub make_positive : Table → (k b : ℕ) → State → State
make_positive tb k b u = elim (lt_z (get tb u k b) (pos 0)) [ true ↦ negate_step b u | false ↦ u ]

-- (B): b is the last active column, n is the number of columns
unfoldable pub settle : Table → (n k p b : ℕ) → State → State
settle tb n k p b u = each (reduce tb k b) (suc b) n (make_positive tb k b (bring p b u))

-- ---- a row, and the rows from the last to the first
-- where a stage stands: the state, and a
pub record Progress : Type 0 where
  pub state : State
  pub a : ℕ

-- after (B) a is one lower; a row without a pivot column is passed over
abbrev pub settled : Table → (n a k : ℕ) → State → Found → Progress
settled tb n a k u none = record { state = u; a = a }
settled tb n a k u (found p) = record { state = settle tb n k p (a - 1) u; a = a - 1 }

-- R7.7: (A), then (B), unless the active columns are all 0
unfoldable pub row : Table → (n lo k : ℕ) → Progress → Progress
row tb n lo k g =
    let u : State = eliminate tb lo g.a k g.state in
    settled tb n g.a k u (pivot_column tb lo g.a k u)

unfoldable pub rows : Table → (n lo k : ℕ) → Progress → Progress
rows tb n lo zero g = g
rows tb n lo (suc k) g = rows tb n lo k (row tb n lo k g)

-- ---- the stages; n is the number of columns
-- R7.7
unfoldable pub stage1 : (m n : ℕ) → State → Progress
stage1 m n u = rows on_t n 0 m (record { state = u; a = n })

-- R7.12: the same on V, with all of its n rows and the columns from r on
unfoldable pub stage2 : (n r : ℕ) → State → Progress
stage2 n r u = rows on_v n r n (record { state = u; a = n })

-- the pivot row of column c of V: that of its lowest non-zero entry
abbrev pub pivot_row : (n c : ℕ) → State → Found
pivot_row n c u = last (λ k. not (eqb (size on_v u k c) 0)) n

-- R7.13, of column c with the pivot row that was found: each column below r is brought into range
abbrev pub reduce_first : (r c : ℕ) → State → Found → State
reduce_first r c u none = u
reduce_first r c u (found k) = each (reduce on_v k c) 0 r u

-- R7.13: the lowest pivot row first. The rows rise with the columns, so the last column comes first.
-- Columns r to c are still to be taken.
unfoldable pub stage3 : (n r c : ℕ) → State → State
stage3 n r zero u = u
stage3 n r (suc c) u = elim (ltb c r) [ true ↦ u | false ↦ stage3 n r c (reduce_first r c u (pivot_row n c u)) ]

-- ---- the run
pub record Run : Type 0 where
  pub state : State
  pub rank : ℕ

-- R7.11: r is the number of columns that the reordering brings to the front
unfoldable pub run_on : (m n : ℕ) → List (List ℤ) → Run
run_on m n cols =
    let g : Progress = stage1 m n (start cols) in
    let r : ℕ = n - g.a in
    let h : Progress = stage2 n r (reorder g.a g.state) in
    record { state = stage3 n r n h.state; rank = r }

unfoldable pub run : Problem → Run
run P = run_on P.m (N P) (columns P)

-- R7.14
abbrev pub H : Run → Matrix
H u = get on_t u.state

-- (antt keeps the word V for itself)
abbrev pub U : Run → Matrix
U u = get on_v u.state

abbrev pub W : Run → Matrix
W u = get_w u.state
