-- Section 7 of the rules: the work state and the three column steps, on whole numbers without limit.
use Rattle.std.specs.Prelude.{Bool, false, ◌||◌, List, [], ◌∷◌, ◌++◌, map, ℕ, zero, suc, length, get_or, take, drop, set, replicate, ℤ, pos, neg_ℤ, ◌+ℤ◌, ◌*ℤ◌}
use Rattle.whole.specs.Lists.{nth}
use Rattle.whole.specs.Matrix.{Matrix}
use Rattle.rules.specs.Limits.{beyond}

-- ---- the state
-- Line i holds column i of T, column i of V and row i of W: what a column step touches together.
pub record Line : Type 0 where
  pub t : List ℤ
  pub v : List ℤ
  pub w : List ℤ

pub record State : Type 0 where
  pub lines : List Line
  pub steps : ℕ
  -- whether a value beyond M has been written
  pub over : Bool

abbrev pub blank : Line
blank = record { t = []; v = []; w = [] }

abbrev pub line : State → ℕ → Line
line u i = get_or u.lines i blank

-- which of T and V is looked at
pub data Table : Type 0 where
  on_t on_v : Table

abbrev pub side : Table → Line → List ℤ
side on_t l = l.t
side on_v l = l.v

-- the entry of T or V, and that of W
unfoldable pub get : Table → State → Matrix
get tb u r c = nth (side tb (line u c)) r

unfoldable pub get_w : State → Matrix
get_w u r c = nth (line u r).w c

-- ---- a step
abbrev pub any_beyond : List ℤ → Bool
any_beyond [] = false
any_beyond (x ∷ xs) = beyond x || any_beyond xs

-- R7.5 and R7.6: the lines after a step, and the values that it wrote
unfoldable pub step : List Line → (written : List ℤ) → State → State
step lines written u = record { lines = lines; steps = suc u.steps; over = u.over || any_beyond written }

abbrev pub values : Line → List ℤ
values l = l.t ++ l.v ++ l.w

-- R7.2
unfoldable pub swap_step : (i j : ℕ) → State → State
swap_step i j u = step (set (set u.lines i (line u j)) j (line u i)) (values (line u j) ++ values (line u i)) u

-- R7.3
abbrev pub negated : Line → Line
negated l = record { t = map neg_ℤ l.t; v = map neg_ℤ l.v; w = map neg_ℤ l.w }

unfoldable pub negate_step : (i : ℕ) → State → State
negate_step i u = step (set u.lines i (negated (line u i))) (values (negated (line u i))) u

-- xs + q · ys, entry by entry
abbrev pub plus : ℤ → List ℤ → List ℤ → List ℤ
plus q [] ys = map (λ y. q *ℤ y) ys
plus q (x ∷ xs) [] = x ∷ xs
plus q (x ∷ xs) (y ∷ ys) = (x +ℤ q *ℤ y) ∷ plus q xs ys

-- R7.4: line i after an addition, in which W changes, and line j, in which T and V do
abbrev pub source : ℤ → Line → Line → Line
source q i j = record { t = i.t; v = i.v; w = plus (neg_ℤ q) i.w j.w }

abbrev pub target : ℤ → Line → Line → Line
target q i j = record { t = plus q j.t i.t; v = plus q j.v i.v; w = j.w }

unfoldable pub add_step : (i j : ℕ) (q : ℤ) → State → State
add_step i j q u =
    let x : Line = source q (line u i) (line u j) in
    let y : Line = target q (line u i) (line u j) in
    step (set (set u.lines i x) j y) (y.t ++ y.v ++ x.w) u

-- ---- the reordering
-- R7.10: the lines from a on, then those below a
unfoldable pub reorder : (a : ℕ) → State → State
reorder a u = record { lines = drop a u.lines ++ take a u.lines; steps = u.steps; over = u.over }

-- ---- the start
-- entry i is 1, the others of n are 0
abbrev pub unit : (n i : ℕ) → List ℤ
unit zero i = []
unit (suc n) zero = pos 1 ∷ replicate n (pos 0)
unit (suc n) (suc i) = pos 0 ∷ unit n i

-- R7.1: the columns listed are column i of C and those after it
unfoldable pub start_lines : (n i : ℕ) → List (List ℤ) → List Line
start_lines n i [] = []
start_lines n i (c ∷ cs) = record { t = c; v = unit n i; w = unit n i } ∷ start_lines n (suc i) cs

abbrev pub start : List (List ℤ) → State
start cols = record { lines = start_lines (length cols) 0 cols; steps = 0; over = false }
