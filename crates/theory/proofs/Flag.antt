-- Theorem 5: the range flag never falls, through any part of the run, so code may stop at once; and it is set exactly when a step has written a
-- value beyond M.
use mathlib.Core.Path.{◌≡◌, refl, sym, ◌∙◌, ap}
use mathlib.Core.Logic.{◌↔◌, ◌⊎◌, inl, inr}
use mathlib.Core.Bool.{Bool, true, false, ◌||◌, or-true, or-false, or_assoc, false≢true}
use mathlib.Core.List.{List, [], ◌∷◌, ◌++◌}
use Prim.Native.Nat.{ℕ, zero, suc, ◌≤◌, ◌<◌}
use native.Mathlib.Omega.{arith}
use lib.ListN.{length}
use lib.IntN.{ℤ, nat_abs}
use borrow.Author.Tests.{lt-ltb}
use Rattle.whole.specs.Lists.{nth}
use Rattle.whole.proofs.Tests.{Test, pass, fail, lt?, or-either}
use Rattle.rules.specs.Limits.{M, beyond}
use Rattle.rules.specs.Problem.{Problem}
use Rattle.rules.specs.Search.{Found, each}
use Rattle.rules.specs.Steps.{State, Table, any_beyond, swap_step, negate_step, add_step, reorder}
use Rattle.rules.specs.Stages.{Progress, eliminate, reduce, bring, make_positive, settle, row, rows, stage1, stage2, reduce_first, stage3, run}
use Rattle.theory.proofs.Search.{each_keeps}
use Rattle.theory.proofs.StepLines.{swap-flag, negate-flag, add-flag}
use Rattle.theory.proofs.Moves.{Move, swap, negate, add}
use Rattle.theory.proofs.Sequence.{Steps, begin, then, reordered, written_by, written, taken, steps_counted}
use Rattle.theory.proofs.Parts as Parts
use Rattle.theory.proofs.Run.{run_steps}

-- ---- the flag never falls
abbrev pub Over : State → Type 0
Over u = u.over ≡ true

pub swap_over : (i j : ℕ) (u : State) → Over u → Over (swap_step i j u)
swap_over i j u e = swap-flag i j u ∙ rw e

pub negate_over : (i : ℕ) (u : State) → Over u → Over (negate_step i u)
negate_over i u e = negate-flag i u ∙ rw e

pub add_over : (i j : ℕ) (q : ℤ) (u : State) → Over u → Over (add_step i j q u)
add_over i j q u e = add-flag i j q u ∙ rw e

pub reorder_over : (a : ℕ) (u : State) → Over u → Over (reorder a u)
unfolding reorder
reorder_over a u e = e

pub eliminate_over : (tb : Table) (lo a k : ℕ) (u : State) → Over u → Over (eliminate tb lo a k u)
eliminate_over = Parts.eliminate_keeps Over swap_over negate_over add_over

pub reduce_over : (tb : Table) (k b c : ℕ) (u : State) → Over u → Over (reduce tb k b c u)
reduce_over = Parts.reduce_keeps Over swap_over negate_over add_over

pub reduces_over : (tb : Table) (k b lo hi : ℕ) (u : State) → Over u → Over (each (reduce tb k b) lo hi u)
reduces_over tb k b lo hi u e = each_keeps Over (reduce tb k b) (reduce_over tb k b) lo hi u e

pub bring_over : (p b : ℕ) (u : State) → Over u → Over (bring p b u)
bring_over = Parts.bring_keeps Over swap_over negate_over add_over

pub make_positive_over : (tb : Table) (k b : ℕ) (u : State) → Over u → Over (make_positive tb k b u)
make_positive_over = Parts.make_positive_keeps Over swap_over negate_over add_over

pub settle_over : (tb : Table) (n k p b : ℕ) (u : State) → Over u → Over (settle tb n k p b u)
settle_over = Parts.settle_keeps Over swap_over negate_over add_over

pub row_over : (tb : Table) (n lo k : ℕ) (g : Progress) → Over g.state → Over (row tb n lo k g).state
row_over = Parts.row_keeps Over swap_over negate_over add_over

pub rows_over : (tb : Table) (n lo k : ℕ) (g : Progress) → Over g.state → Over (rows tb n lo k g).state
rows_over = Parts.rows-keep Over swap_over negate_over add_over

pub stage1_over : (m n : ℕ) (u : State) → Over u → Over (stage1 m n u).state
stage1_over = Parts.stage1_keeps Over swap_over negate_over add_over

pub stage2_over : (n r : ℕ) (u : State) → Over u → Over (stage2 n r u).state
stage2_over = Parts.stage2_keeps Over swap_over negate_over add_over

pub reduce_first_over : (r c : ℕ) (u : State) (x : Found) → Over u → Over (reduce_first r c u x)
reduce_first_over = Parts.reduce_first_keeps Over swap_over negate_over add_over

pub stage3_over : (n r c : ℕ) (u : State) → Over u → Over (stage3 n r c u)
stage3_over = Parts.stage3_keeps Over swap_over negate_over add_over

-- ---- the flag is set exactly when a value beyond M was written
pub any_beyond-append : (xs ys : List ℤ) → any_beyond (xs ++ ys) ≡ any_beyond xs || any_beyond ys
any_beyond-append [] ys = refl
any_beyond-append (x ∷ xs) ys = ap (λ b. beyond x || b) (any_beyond-append xs ys) ∙ sym (or_assoc (beyond x) (any_beyond xs) (any_beyond ys))

-- a value of xs is beyond M
pub record SomeBeyond (xs : List ℤ) : Type 0 where
  pub place : ℕ
  pub listed : place < length xs
  pub large : M < nat_abs (nth xs place)

pub some-beyond : (xs : List ℤ) → any_beyond xs ≡ true → SomeBeyond xs
some-beyond [] e = absurd (false≢true e)
some-beyond (x ∷ xs) e = go (lt? M (nat_abs x)) (or-either (beyond x) (any_beyond xs) e) (some-beyond xs)
  where
    go : {b : Bool} → Test (M < nat_abs x) (nat_abs x ≤ M) b → (b ≡ true) ⊎ (any_beyond xs ≡ true) → (any_beyond xs ≡ true → SomeBeyond xs) → SomeBeyond (x ∷ xs)
    go (pass h) y r = record { place = 0; listed = omega arith; large = h }
    go (fail h) (inl z) r = absurd (false≢true z)
    go (fail h) (inr z) r = let s : SomeBeyond xs = r z in record { place = suc s.place; listed = omega (arith, s.listed); large = s.large }

pub beyond-some : (xs : List ℤ) → SomeBeyond xs → any_beyond xs ≡ true
beyond-some xs s = go xs s.place s.listed s.large
  where
    go : (xs : List ℤ) (i : ℕ) → i < length xs → M < nat_abs (nth xs i) → any_beyond xs ≡ true
    go [] i l h = absurd (omega arith)
    go (x ∷ xs) zero l h = rw (lt-ltb M (nat_abs x) h)
    go (x ∷ xs) (suc i) l h = rw (go xs i (omega arith) h) (or-true (beyond x))

pub move_flag : {n lo a : ℕ} {u w : State} (m : Move n lo a u w) → w.over ≡ u.over || any_beyond (written_by m)
move_flag {u = u} (swap i j x y) = swap-flag i j u
move_flag {u = u} (negate i x) = negate-flag i u
move_flag {u = u} (add i j q x y d) = add-flag i j q u

pub steps_flag : {n : ℕ} {u w : State} (s : Steps n u w) → w.over ≡ u.over || any_beyond (written s)
unfolding reorder
steps_flag {u = u} begin = sym (or-false u.over)
steps_flag {u = u} (then s m) = move_flag m ∙ ap (λ b. b || any_beyond (written_by m)) (steps_flag s)
    ∙ or_assoc u.over (any_beyond (written s)) (any_beyond (written_by m))
    ∙ ap (λ b. u.over || b) (sym (any_beyond-append (written s) (written_by m)))
steps_flag (reordered a h s) = steps_flag s

pub over_exactly : {n : ℕ} {u w : State} (s : Steps n u w) → (w.over ≡ true) ↔ ((u.over ≡ true) ⊎ SomeBeyond (written s))
over_exactly {u = u} {w = w} s = (λ e. to (or-either u.over (any_beyond (written s)) (sym (steps_flag s) ∙ e)), λ e. steps_flag s ∙ back e)
  where
    to : (u.over ≡ true) ⊎ (any_beyond (written s) ≡ true) → (u.over ≡ true) ⊎ SomeBeyond (written s)
    to (inl e) = inl e
    to (inr e) = inr (some-beyond (written s) e)

    back : (u.over ≡ true) ⊎ SomeBeyond (written s) → u.over || any_beyond (written s) ≡ true
    back (inl e) = ap (λ b. b || any_beyond (written s)) e
    back (inr e) = ap (λ b. u.over || b) (beyond-some (written s) e) ∙ or-true u.over

-- ---- of a problem's run
-- R4.7
pub run_over : (P : Problem) → ((run P).state.over ≡ true) ↔ SomeBeyond (written (run_steps P))
run_over P = (λ e. to ((over_exactly (run_steps P)).0 e), λ s. (over_exactly (run_steps P)).1 (inr s))
  where
    to : (false ≡ true) ⊎ SomeBeyond (written (run_steps P)) → SomeBeyond (written (run_steps P))
    to (inl e) = absurd (false≢true e)
    to (inr s) = s

-- R7.5
pub run-counted : (P : Problem) → (run P).state.steps ≡ taken (run_steps P)
run-counted P = steps_counted (run_steps P) ∙ omega arith
