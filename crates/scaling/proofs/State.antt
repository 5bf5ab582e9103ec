-- The code's state read as the definition's: its lines, its entries and their sizes, and the bounds of its places.
use mathlib.Core.Path.{◌≡◌, refl, ap, sym, ◌∙◌}
use mathlib.Core.Bool.{Bool, false, ◌||◌}
use mathlib.Core.List.{List, ◌++◌}
use Prim.Native.Nat.{ℕ, zero, suc, ◌+◌, ◌*◌, ◌<◌, ◌≤◌}
use native.Mathlib.Nat.{mul-le-mul, add-zero}
use native.Mathlib.Omega.{arith}
use lib.ListN.{length, get_or}
use lib.Seq.{ext_get_or}
use lib.IntN.{ℤ, nat_abs}
use Rattle.whole.specs.Lists.{nth}
use Rattle.rules.specs.Steps.{Line, State, blank, line, get, get_w, values, any_beyond}
use Rattle.rules.specs.Stages.{size}
use Rattle.theory.proofs.Flag.{any_beyond-append}
use Rattle.scaling.specs.declared.work.Table.{Table}
use Rattle.scaling.specs.declared.work.Table.TheVariants.{T, V}
use Rattle.scaling.specs.declared.work.Work.{Work}
use Rattle.scaling.specs.Strided.{Within}
use Rattle.scaling.specs.WorkState.{line_of, lines_from, state_of, table_for, entries_for, height_for}
use Rattle.scaling.proofs.Places.{cell}
use Rattle.scaling.proofs.StridedLines.{pick-nth, pick_small}

-- ---- lines
lines_count : (m n : ℕ) (t v w : List ℤ) (i k : ℕ) → length (lines_from m n t v w i k) ≡ k
unfolding lines_from
lines_count m n t v w i zero = refl
lines_count m n t v w i (suc k) = ap suc (lines_count m n t v w (suc i) k)

lines_at : (m n : ℕ) (t v w : List ℤ) (i k c : ℕ) → c < k → get_or (lines_from m n t v w i k) c blank ≡ line_of m n t v w (i + c)
unfolding lines_from
lines_at m n t v w i zero c h = absurd (omega arith)
lines_at m n t v w i (suc k) zero h = rw (add-zero i)
lines_at m n t v w i (suc k) (suc c) h = let e : i + suc c ≡ suc i + c = omega arith in rw e (lines_at m n t v w (suc i) k c (omega arith))

-- line c of the code's state
abbrev pub line_in : Work → ℕ → Line
line_in s c = line_of s.m s.cols s.t s.v s.w c

module _ (s : Work) where
  pub state_count : length (state_of s).lines ≡ s.cols
  unfolding state_of
  state_count = lines_count s.m s.cols s.t s.v s.w 0 s.cols

  pub state_steps : (state_of s).steps ≡ s.steps
  unfolding state_of
  state_steps = refl

  pub state_over : (state_of s).over ≡ s.over
  unfolding state_of
  state_over = refl

  pub state-line : (c : ℕ) → c < s.cols → line (state_of s) c ≡ line_in s c
  unfolding state_of
  state-line c h = let e : 0 + c ≡ c = omega arith in rw e at (lines_at s.m s.cols s.t s.v s.w 0 s.cols c h)

  -- the state is known by its lines
  pub state_is : (u : State) → length u.lines ≡ s.cols → ((c : ℕ) → c < s.cols → line_in s c ≡ line u c) → s.steps ≡ u.steps → s.over ≡ u.over → state_of s ≡ u
  unfolding state_of
  state_is u e h p o =
      let l : lines_from s.m s.cols s.t s.v s.w 0 s.cols ≡ u.lines =
      ext_get_or blank (lines_from s.m s.cols s.t s.v s.w 0 s.cols) u.lines (state_count ∙ sym e)
      (λ c g. let b : c < s.cols = omega (arith, state_count) in state-line c b ∙ h c b) in
      λ k. record { lines = l k; steps = p k; over = o k }

  -- ---- entries
  -- of the table that a stage looks at
  pub state-get : (which : Table) (r c : ℕ) → r < height_for which s → c < s.cols
      → get (table_for which) (state_of s) r c ≡ nth (entries_for which s) (c + r * s.cols)
  unfolding get line_of
  state-get V r c h l = ap (λ (x : Line). nth x.v r) (state-line c l) ∙ pick-nth s.v c s.cols s.cols r h
  state-get T r c h l = ap (λ (x : Line). nth x.t r) (state-line c l) ∙ pick-nth s.t c s.cols s.m r h

  pub state_size : (which : Table) (r c : ℕ) → r < height_for which s → c < s.cols
      → size (table_for which) (state_of s) r c ≡ nat_abs (nth (entries_for which s) (c + r * s.cols))
  unfolding size
  state_size which r c h l = ap nat_abs (state-get which r c h l)

  pub state-get_w : (r c : ℕ) → r < s.cols → c < s.cols → get_w (state_of s) r c ≡ nth s.w (c + r * s.cols)
  unfolding get_w line_of
  state-get_w r c h l =
      let e : r * s.cols + c * 1 ≡ c + r * s.cols = omega arith in
      ap (λ (x : Line). nth x.w c) (state-line r h) ∙ pick-nth s.w (r * s.cols) 1 s.cols c l ∙ ap (nth s.w) e

  -- ---- places
  pub line-near : s.over ≡ false → (c : ℕ) → any_beyond (values (line_in s c)) ≡ false
  unfolding line_of
  line-near o c = any_beyond-append ((line_in s c).t ++ (line_in s c).v) (line_in s c).w
      ∙ ap (λ (b : Bool). b || any_beyond (line_in s c).w) (any_beyond-append (line_in s c).t (line_in s c).v)
      ∙ rw (
        pick_small s.t c s.cols s.m (s.sound.t_small o),
        pick_small s.v c s.cols s.cols (s.sound.v_small o),
        pick_small s.w (c * s.cols) 1 s.cols (s.sound.w_small o),
      )

  pub t-room : s.m * s.cols ≤ length s.t
  t-room = omega (arith, s.sound.t_long, mul-le-mul s.sound.rows s.sound.cols)

  pub v-room : s.cols * s.cols ≤ length s.v
  v-room = omega (arith, s.sound.v_long, mul-le-mul s.sound.cols s.sound.cols)

  pub w-room : s.cols * s.cols ≤ length s.w
  w-room = omega (arith, s.sound.w_long, mul-le-mul s.sound.cols s.sound.cols)

  -- of the table that a stage looks at
  pub table-room : (which : Table) → height_for which s * s.cols ≤ length (entries_for which s)
  table-room T = t-room
  table-room V = v-room

  pub t_in : (c : ℕ) → c < s.cols → Within s.t c s.cols s.m
  t_in c h = record { each = λ k l. omega (arith, t-room, cell {j = c} {n = s.cols} {k = k} {m = s.m} h l) }

  pub v_in : (c : ℕ) → c < s.cols → Within s.v c s.cols s.cols
  v_in c h = record { each = λ k l. omega (arith, v-room, cell {j = c} {n = s.cols} {k = k} {m = s.cols} h l) }

  pub w_in : (c : ℕ) → c < s.cols → Within s.w (c * s.cols) 1 s.cols
  w_in c h = record { each = λ k l. omega (arith, w-room, cell {j = k} {n = s.cols} {k = c} {m = s.cols} l h) }
