-- Without the flag every entry is within M: the flag looks only at what the steps write, and the rest was within M before.
use mathlib.Core.Path.{◌≡◌, refl, sym, ◌∙◌}
use mathlib.Core.Bool.{Bool, false}
use mathlib.Core.List.{List, [], ◌∷◌, ◌++◌}
use Prim.Native.Nat.{ℕ, zero, suc, ◌≤◌, ◌<◌}
use native.Mathlib.Omega.{arith}
use lib.ListN.{length, get_or-eq_default}
use lib.IntN.{ℤ, nat_abs}
use Rattle.whole.specs.Lists.{nth}
use Rattle.whole.proofs.Tests.{Test, pass, fail, lt?, is_false, failed, or-neither}
use Rattle.rules.specs.Limits.{M, beyond}
use Rattle.rules.specs.Steps.{Line, State, blank, line, Table, on_t, on_v, get, get_w, any_beyond, values, swap_step, negated, negate_step, source, target, add_step, reorder}
use Rattle.theory.proofs.StepLines.{count}
use Rattle.theory.proofs.Moves.{Move, swap, negate, add, move_count}
use Rattle.theory.proofs.Reorder.{reorder_count}
use Rattle.theory.proofs.Lines.{Every, swap-every, negate-every, add-every, reorder-every}
use Rattle.theory.proofs.Sequence.{Steps, steps_keep, written_by}
use Rattle.theory.proofs.Flag.{any_beyond-append, move_flag}

-- ---- lists
append_left : (xs ys : List ℤ) → any_beyond (xs ++ ys) ≡ false → any_beyond xs ≡ false
append_left xs ys e = (or-neither (any_beyond xs) (any_beyond ys) (sym (any_beyond-append xs ys) ∙ e)).0

append_right : (xs ys : List ℤ) → any_beyond (xs ++ ys) ≡ false → any_beyond ys ≡ false
append_right xs ys e = (or-neither (any_beyond xs) (any_beyond ys) (sym (any_beyond-append xs ys) ∙ e)).1

pub none-beyond : (xs : List ℤ) → ((i : ℕ) → i < length xs → nat_abs (nth xs i) ≤ M) → any_beyond xs ≡ false
none-beyond [] h = refl
none-beyond (x ∷ xs) h = rw (is_false (lt? M (nat_abs x)) (λ k. omega (arith, h 0 (omega arith)))) (none-beyond xs (λ i l. h (suc i) (omega arith)))

pub beyond-none : (xs : List ℤ) → any_beyond xs ≡ false → (i : ℕ) → nat_abs (nth xs i) ≤ M
beyond-none [] e i = omega arith
beyond-none (x ∷ xs) e zero = failed (lt? M (nat_abs x)) (or-neither (beyond x) (any_beyond xs) e).0
beyond-none (x ∷ xs) e (suc i) = beyond-none xs (or-neither (beyond x) (any_beyond xs) e).1 i

-- ---- lines
-- all numbers of a line are within M
pub record Near (l : Line) : Type 0 where
  pub t : any_beyond l.t ≡ false
  pub v : any_beyond l.v ≡ false
  pub w : any_beyond l.w ≡ false

pub near-values : (l : Line) → any_beyond (values l) ≡ false → Near l
near-values l e =
    let tv : any_beyond (l.t ++ l.v) ≡ false = append_left (l.t ++ l.v) l.w e in
    record { t = append_left l.t l.v tv; v = append_right l.t l.v tv; w = append_right (l.t ++ l.v) l.w e }

-- ---- states
-- u has n lines, and they are all near unless the flag is set
pub record NearState (n : ℕ) (u : State) : Type 0 where
  pub lines : count u ≡ n
  pub near : u.over ≡ false → (c : ℕ) → c < n → Near (line u c)

-- what a step says of the state before it, and of what it wrote, if the flag is not set after it
module _ {n lo a : ℕ} {u w : State} (m : Move n lo a u w) (e : w.over ≡ false) where
  not-before : u.over ≡ false
  not-before = (or-neither u.over (any_beyond (written_by m)) (sym (move_flag m) ∙ e)).0

  not_written : any_beyond (written_by m) ≡ false
  not_written = (or-neither u.over (any_beyond (written_by m)) (sym (move_flag m) ∙ e)).1

  lines-before : NearState n u → Every n Near u
  lines-before h = record { lines = h.lines; all = h.near not-before }

move_near : (n : ℕ) (u w : State) → Move n 0 n u w → NearState n u → w.over ≡ false → Every n Near w
move_near n u w (swap i j x y) h e =
    let m : Move n 0 n u (swap_step i j u) = swap i j x y in
    swap-every n Near u (lines-before m e h) i j x.high y.high
move_near n u w (negate i x) h e =
    let m : Move n 0 n u (negate_step i u) = negate i x in
    negate-every n Near u (lines-before m e h) i x.high (near-values (negated (line u i)) (not_written m e))
move_near n u w (add i j q x y d) h e =
    let m : Move n 0 n u (add_step i j q u) = add i j q x y d in
    let b : Every n Near u = lines-before m e h in
    let from : Line = source q (line u i) (line u j) in
    let to : Line = target q (line u i) (line u j) in
    let tv : any_beyond (to.t ++ to.v) ≡ false = append_left (to.t ++ to.v) from.w (not_written m e) in
    add-every n Near u b i j q x.high y d
    (record { t = (b.all i x.high).t; v = (b.all i x.high).v; w = append_right (to.t ++ to.v) from.w (not_written m e) })
    (record { t = append_left to.t to.v tv; v = append_right to.t to.v tv; w = (b.all j y).w })

move_fine : (n : ℕ) (u w : State) → Move n 0 n u w → NearState n u → NearState n w
move_fine n u w m h = record { lines = move_count m ∙ h.lines; near = λ e. (move_near n u w m h e).all }

reorder-fine : (n a : ℕ) (u : State) → a ≤ n → NearState n u → NearState n (reorder a u)
unfolding reorder
reorder-fine n a u l h = record {
  lines = reorder_count a u ∙ h.lines;
  near = λ e. (reorder-every n Near u (record { lines = h.lines; all = h.near e }) a l).all;
}

pub steps_fine : {n : ℕ} {u w : State} → Steps n u w → NearState n u → NearState n w
steps_fine {n} s = steps_keep (NearState n) (move_fine n) (λ a u l h. reorder-fine n a u l h) s

-- ---- entries
module _ (n : ℕ) (u : State) (h : NearState n u) (e : u.over ≡ false) where
  -- a line past the last is empty
  line-near : (c : ℕ) → Near (line u c)
  line-near c = go (lt? c n)
    where
      go : {b : Bool} → Test (c < n) (n ≤ c) b → Near (line u c)
      go (pass l) = h.near e c l
      go (fail l) =
          let past : count u ≤ c = omega (arith, h.lines) in
          rw (get_or-eq_default u.lines blank past) (record { t = refl; v = refl; w = refl })

  pub fine-get : (tb : Table) (r c : ℕ) → nat_abs (get tb u r c) ≤ M
  unfolding get
  fine-get on_t r c = beyond-none (line u c).t (line-near c).t r
  fine-get on_v r c = beyond-none (line u c).v (line-near c).v r

  pub fine-get_w : (r c : ℕ) → nat_abs (get_w u r c) ≤ M
  unfolding get_w
  fine-get_w r c = beyond-none (line u r).w (line-near r).w c
