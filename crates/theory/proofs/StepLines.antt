-- The state after each of the three steps: which lines are new, and that the others stay; the step count and the flag.
use mathlib.Core.Path.{◌≡◌, refl, sym, ◌∙◌, ap}
use mathlib.Core.Logic.{◌≢◌}
use mathlib.Core.Bool.{Bool, ◌||◌}
use mathlib.Core.List.{List, ◌++◌}
use Prim.Native.Nat.{ℕ, suc, ◌≤◌, ◌<◌}
use native.Mathlib.Omega.{arith}
use native.Mathlib.Decide.{ℕ_discrete}
use lib.ListN.{length, get_or, set, length-set, get_or-eq_default}
use lib.Seq.{get_or-set_same, get_or-set_other}
use lib.IntN.{ℤ}
use Rattle.whole.proofs.Tests.{Test, pass, fail, lt?}
use Rattle.whole.proofs.Exchange.{tr, Which, first, second, neither, which?, tr_first, tr-second, tr-neither}
use Rattle.rules.specs.Steps.{Line, State, blank, line, any_beyond, values, step, swap_step, negated, negate_step, source, target, add_step}

-- the number of lines
abbrev pub count : State → ℕ
count u = length u.lines

-- ---- a swap
module _ (i j : ℕ) (u : State) where
  pub swap_count : count (swap_step i j u) ≡ count u
  unfolding swap_step step
  swap_count = length-set (set u.lines i (line u j)) j (line u i) ∙ length-set u.lines i (line u j)

  pub swap_line : i < count u → j < count u → (c : ℕ) → line (swap_step i j u) c ≡ line u (tr i j c)
  unfolding swap_step step
  swap_line hi hj c = go (which? i j c)
    where
      once : List Line
      once = set u.lines i (line u j)

      at_second : get_or (set once j (line u i)) j blank ≡ line u i
      at_second = get_or-set_same once j (line u i) blank (omega (arith, length-set u.lines i (line u j)))

      at_first : Dec (i ≡ j) → get_or (set once j (line u i)) i blank ≡ line u j
      at_first (yes e) = ap (λ (k : ℕ). get_or (set once j (line u i)) k blank) e ∙ at_second ∙ ap (line u) e
      at_first (no d) = get_or-set_other once j i (line u i) blank d ∙ get_or-set_same u.lines i (line u j) blank hi

      go : Which i j c → get_or (set once j (line u i)) c blank ≡ line u (tr i j c)
      go (first e) = rw (← e, tr_first i j) (at_first (ℕ_discrete i j))
      go (second d e) = rw (← e, tr-second i j) at_second
      go (neither d e) = rw (tr-neither i j c d e)
          (get_or-set_other once j c (line u i) blank (omega arith) ∙ get_or-set_other u.lines i c (line u j) blank (omega arith))

  pub swap_steps : (swap_step i j u).steps ≡ suc u.steps
  unfolding swap_step step
  swap_steps = refl

  pub swap-flag : (swap_step i j u).over ≡ u.over || any_beyond (values (line u j) ++ values (line u i))
  unfolding swap_step step
  swap-flag = refl

-- ---- a negation
module _ (i : ℕ) (u : State) where
  pub negate_count : count (negate_step i u) ≡ count u
  unfolding negate_step step
  negate_count = length-set u.lines i (negated (line u i))

  pub negate-line : i < count u → line (negate_step i u) i ≡ negated (line u i)
  unfolding negate_step step
  negate-line h = get_or-set_same u.lines i (negated (line u i)) blank h

  pub negate-line_other : (c : ℕ) → i ≢ c → line (negate_step i u) c ≡ line u c
  unfolding negate_step step
  negate-line_other c d = get_or-set_other u.lines i c (negated (line u i)) blank (omega arith)

  pub negate_steps : (negate_step i u).steps ≡ suc u.steps
  unfolding negate_step step
  negate_steps = refl

  pub negate-flag : (negate_step i u).over ≡ u.over || any_beyond (values (negated (line u i)))
  unfolding negate_step step
  negate-flag = refl

-- ---- an addition
-- a change that f does not see in the line changed, f sees nowhere
unseen : {A : Type 0} (f : Line → A) (ls : List Line) (i : ℕ) (x : Line) (c : ℕ) → f x ≡ f (get_or ls i blank)
    → f (get_or (set ls i x) c blank) ≡ f (get_or ls c blank)
unseen f ls i x c e = go (ℕ_discrete c i) (lt? i (length ls))
  where
    go : {b : Bool} → Dec (c ≡ i) → Test (i < length ls) (length ls ≤ i) b → f (get_or (set ls i x) c blank) ≡ f (get_or ls c blank)
    go (yes d) (pass h) = rw (d, get_or-set_same ls i x blank h) e
    go (yes d) (fail h) = rw d (ap f (get_or-eq_default (set ls i x) blank (omega (arith, length-set ls i x)) ∙ sym (get_or-eq_default ls blank h)))
    go (no d) y = ap f (get_or-set_other ls i c x blank d)

module _ (i j : ℕ) (q : ℤ) (u : State) where
  abbrev x : Line
  x = source q (line u i) (line u j)

  abbrev y : Line
  y = target q (line u i) (line u j)

  pub add_count : count (add_step i j q u) ≡ count u
  unfolding add_step step
  add_count = length-set (set u.lines i x) j y ∙ length-set u.lines i x

  pub add-line-source : i < count u → i ≢ j → line (add_step i j q u) i ≡ source q (line u i) (line u j)
  unfolding add_step step
  add-line-source h d = get_or-set_other (set u.lines i x) j i y blank d ∙ get_or-set_same u.lines i x blank h

  pub add-line-target : j < count u → line (add_step i j q u) j ≡ target q (line u i) (line u j)
  unfolding add_step step
  add-line-target h = get_or-set_same (set u.lines i x) j y blank (omega (arith, length-set u.lines i x))

  pub add-line_other : (c : ℕ) → i ≢ c → j ≢ c → line (add_step i j q u) c ≡ line u c
  unfolding add_step step
  add-line_other c d e = get_or-set_other (set u.lines i x) j c y blank (omega arith) ∙ get_or-set_other u.lines i c x blank (omega arith)

  -- what is the same in the new line i changes in line j only; and the other way round
  pub add_same_source : {A : Type 0} (f : Line → A) → f (source q (line u i) (line u j)) ≡ f (line u i) → (c : ℕ) → j ≢ c
      → f (line (add_step i j q u) c) ≡ f (line u c)
  unfolding add_step step
  add_same_source f e c d = ap f (get_or-set_other (set u.lines i x) j c y blank (omega arith)) ∙ unseen f u.lines i x c e

  pub add_same_target : {A : Type 0} (f : Line → A) → f (target q (line u i) (line u j)) ≡ f (line u j) → (c : ℕ) → i ≢ c
      → f (line (add_step i j q u) c) ≡ f (line u c)
  unfolding add_step step
  add_same_target f e c d = go (ℕ_discrete j c)
    where
      once : get_or (set u.lines i x) c blank ≡ line u c
      once = get_or-set_other u.lines i c x blank (omega arith)

      go : Dec (j ≡ c) → f (get_or (set (set u.lines i x) j y) c blank) ≡ f (line u c)
      go (yes z) = unseen f (set u.lines i x) j y c (e ∙ sym (ap f (rw (← z) at once))) ∙ ap f once
      go (no z) = ap f (get_or-set_other (set u.lines i x) j c y blank (omega arith) ∙ once)

  pub add_steps : (add_step i j q u).steps ≡ suc u.steps
  unfolding add_step step
  add_steps = refl

  pub add-flag : (add_step i j q u).over ≡ u.over
      || any_beyond ((target q (line u i) (line u j)).t ++ (target q (line u i) (line u j)).v ++ (source q (line u i) (line u j)).w)
  unfolding add_step step
  add-flag = refl
