-- The three steps and the reordering of the code are the definition's.
use mathlib.Core.Path.{◌≡◌, ap, ap₂, sym, ◌∙◌}
use mathlib.Core.Logic.{◌≢◌}
use mathlib.Core.Bool.{Bool, false, ◌||◌}
use mathlib.Core.List.{List, ◌++◌, map}
use Prim.Native.Nat.{ℕ, ◌+◌, ◌-◌, ◌*◌, ◌%◌, ◌<◌, ◌≤◌}
use native.Mathlib.Nat.{add_comm, mod-lt, mod-eq_of_lt, add-mod_right}
use native.Mathlib.Decide.{ℕ_discrete}
use native.Mathlib.Omega.{arith}
use lib.ListN.{length, get_or, set, take, drop, length-set, length-append, length-take, length-drop, get_or-append}
use lib.Seq.{get_or-set_same, get_or-set_other, get_or-append-add, get_or-drop, get_or-take}
use lib.IntN.{ℤ, neg_ℤ}
use Rattle.whole.proofs.Tests.{Test, pass, fail, lt?, or-neither}
use Rattle.whole.proofs.Exchange.{tr, tr_first, tr-second, tr-neither}
use Rattle.rules.specs.Steps.{Line, State, blank, any_beyond, values, step, plus, swap_step, negated, negate_step, source, target, add_step, reorder}
use Rattle.theory.proofs.Flag.{any_beyond-append}
use Rattle.scaling.specs.declared.work.Work.{Work}
use Rattle.scaling.specs.Strided.{Added, add_f, swap_f, neg_f, rotate_f}
use Rattle.scaling.specs.Sound.{Small, Sound}
use Rattle.scaling.specs.WorkState.{pick, line_of, state_of, Tracks, Same, One, Two, Reorders}
use Rattle.scaling.proofs.Places.{columns, rows}
use Rattle.scaling.proofs.StridedContents.{add_f-small, neg_f-small, swap_f-small, rotate_f-small}
use Rattle.scaling.proofs.StridedLines.{Written, swap-lines, negate-lines, add-flag, add-lines, rotate_columns, rotate_rows}
use Rattle.scaling.proofs.State.{line_in, state_count, state_steps, state_over, state-line, state_is, line-near, t-room, v-room, w-room, t_in, v_in, w_in}

-- r is s with these arrays, this count and this flag
pub record Made (s r : Work) (ts vs ws : List ℤ) (count : ℕ) (flag : Bool) : Type 0 where
  pub rows : r.m ≡ s.m
  pub cols : r.cols ≡ s.cols
  pub t : r.t ≡ ts
  pub v : r.v ≡ vs
  pub w : r.w ≡ ws
  pub steps : r.steps ≡ count
  pub over : r.over ≡ flag

made-line : {s r : Work} {ts vs ws : List ℤ} {count : ℕ} {flag : Bool} → Made s r ts vs ws count flag → (c : ℕ) → line_in r c ≡ line_of s.m s.cols ts vs ws c
made-line g c = λ k. line_of (g.rows k) (g.cols k) (g.t k) (g.v k) (g.w k) c

-- what the three loops of an addition answered, and what the method made of it
pub record Summed (s r : Work) (i j : ℕ) (q : ℤ) (a b c : Bool) : Type 0 where
  pub rows : r.m ≡ s.m
  pub cols : r.cols ≡ s.cols
  pub t : Added s.t r.t j i s.cols q s.m a
  pub v : Added s.v r.v j i s.cols q s.cols b
  pub w : Added s.w r.w (i * s.cols) (j * s.cols) 1 (neg_ℤ q) s.cols c
  pub steps : r.steps ≡ s.steps + 1
  pub over : r.over ≡ a || b || c

-- ---- arrays that are as long as those of a state, and small where no flag says otherwise
module _ (s : Work) {t v w : List ℤ} (lt : length t ≡ length s.t) (lv : length v ≡ length s.v) (lw : length w ≡ length s.w) where
  pub still-sound : {o : Bool} → (o ≡ false → Small t) → (o ≡ false → Small v) → (o ≡ false → Small w) → Sound s.m s.cols t v w o
  still-sound ts vs ws = record {
    rows = s.sound.rows;
    cols = s.sound.cols;
    t_long = lt ∙ s.sound.t_long;
    v_long = lv ∙ s.sound.v_long;
    w_long = lw ∙ s.sound.w_long;
    t_small = ts;
    v_small = vs;
    w_small = ws;
  }

  pub swap-sound : (i j k l : ℕ) → t ≡ swap_f s.t i j s.cols s.m → v ≡ swap_f s.v i j s.cols s.cols → w ≡ swap_f s.w k l 1 s.cols
      → Sound s.m s.cols t v w s.over
  swap-sound i j k l e f g = still-sound
      (λ o. rw e (swap_f-small s.t i j s.cols (s.sound.t_small o) s.m))
      (λ o. rw f (swap_f-small s.v i j s.cols (s.sound.v_small o) s.cols))
      (λ o. rw g (swap_f-small s.w k l 1 (s.sound.w_small o) s.cols))

  pub negate-sound : (i k : ℕ) → t ≡ neg_f s.t i s.cols s.m → v ≡ neg_f s.v i s.cols s.cols → w ≡ neg_f s.w k 1 s.cols
      → Sound s.m s.cols t v w s.over
  negate-sound i k e f g = still-sound
      (λ o. rw e (neg_f-small s.t i s.cols (s.sound.t_small o) s.m))
      (λ o. rw f (neg_f-small s.v i s.cols (s.sound.v_small o) s.cols))
      (λ o. rw g (neg_f-small s.w k 1 (s.sound.w_small o) s.cols))

  pub reorder-sound : (x y z k : ℕ) → t ≡ rotate_f s.t s.t s.cols x y → v ≡ rotate_f s.v s.v s.cols x z → w ≡ rotate_f s.w s.w (s.cols * s.cols) k (1 * (s.cols * s.cols))
      → Sound s.m s.cols t v w s.over
  reorder-sound x y z k e f g = still-sound
      (λ o. rw e (rotate_f-small s.t s.t s.cols x (s.sound.t_small o) (s.sound.t_small o) y))
      (λ o. rw f (rotate_f-small s.v s.v s.cols x (s.sound.v_small o) (s.sound.v_small o) z))
      (λ o. rw g (rotate_f-small s.w s.w (s.cols * s.cols) k (s.sound.w_small o) (s.sound.w_small o) (1 * (s.cols * s.cols))))

  pub add-sound : (i j k l : ℕ) (p q : ℤ) {a b c : Bool} → s.over ≡ false
      → Added s.t t j i s.cols q s.m a → Added s.v v j i s.cols q s.cols b → Added s.w w k l 1 p s.cols c
      → Sound s.m s.cols t v w (a || b || c)
  add-sound i j k l p q {a} {b} {c} clear e f g = still-sound
      (λ o. rw (e.list (none o).0) (add_f-small s.t j i s.cols q (s.sound.t_small clear) s.m))
      (λ o. rw (f.list (none o).1) (add_f-small s.v j i s.cols q (s.sound.v_small clear) s.cols))
      (λ o. rw (g.list (none o).2) (add_f-small s.w k l 1 p (s.sound.w_small clear) s.cols))
    where
      none : a || b || c ≡ false → (a ≡ false) × (b ≡ false) × (c ≡ false)
      none o = ((or-neither a b (or-neither (a || b) c o).0).0, (or-neither a b (or-neither (a || b) c o).0).1, (or-neither (a || b) c o).1)

line_eq : {t t' v v' w w' : List ℤ} → t ≡ t' → v ≡ v' → w ≡ w' → ◌≡◌ {A = Line} (record { t = t; v = v; w = w }) (record { t = t'; v = v'; w = w' })
line_eq a b c = λ k. record { t = a k; v = b k; w = c k }

-- l is line c of lines of which line i was written
set_at : (ls : List Line) (i : ℕ) (x : Line) (c : ℕ) (l : Line) → i < length ls → (c ≡ i → l ≡ x) → (c ≢ i → l ≡ get_or ls c blank) → l ≡ get_or (set ls i x) c blank
set_at ls i x c l h e d = go (ℕ_discrete c i)
  where
    go : Dec (c ≡ i) → l ≡ get_or (set ls i x) c blank
    go (yes z) = e z ∙ sym (rw z (get_or-set_same ls i x blank h))
    go (no z) = d z ∙ sym (get_or-set_other ls i c x blank z)

-- lines a and on, then those below a
turned_at : (ls : List Line) (n a c : ℕ) → length ls ≡ n → a ≤ n → c < n → get_or (drop a ls ++ take a ls) c blank ≡ get_or ls ((c + a) % n) blank
turned_at ls n a c e ha hc = go (lt? (c + a) n)
  where
    go : {b : Bool} → Test (c + a < n) (n ≤ c + a) b → get_or (drop a ls ++ take a ls) c blank ≡ get_or ls ((c + a) % n) blank
    go (pass h) = get_or-append (drop a ls) (take a ls) blank c (omega (arith, length-drop a ls)) ∙ get_or-drop a ls c blank
        ∙ ap (λ (k : ℕ). get_or ls k blank) (add_comm a c ∙ sym (mod-eq_of_lt h))
    go (fail h) =
        let p : c ≡ length (drop a ls) + (c + a - n) = omega (arith, length-drop a ls) in
        let q : c + a - n + n ≡ c + a = omega arith in
        let k : (c + a) % n ≡ c + a - n = ap (λ (z : ℕ). z % n) (sym q) ∙ add-mod_right (c + a - n) n ∙ mod-eq_of_lt (omega arith) in
        ap (λ (z : ℕ). get_or (drop a ls ++ take a ls) z blank) p ∙ get_or-append-add (drop a ls) (take a ls) (c + a - n) blank
        ∙ get_or-take a ls (c + a - n) blank (omega arith) ∙ ap (λ (z : ℕ). get_or ls z blank) (sym k)

module _ (s r : Work) where
  abbrev m : ℕ
  m = s.m

  abbrev n : ℕ
  n = s.cols

  abbrev u : State
  u = state_of s

  -- the lines after a step, its values and its count
  step_is : s.over ≡ false → (ls : List Line) (xs : List ℤ) → length ls ≡ n → r.cols ≡ n → ((c : ℕ) → c < n → line_in r c ≡ get_or ls c blank)
      → r.steps ≡ s.steps + 1 → r.over ≡ any_beyond xs → state_of r ≡ step ls xs u
  unfolding step
  step_is clear ls xs e size h p o =
      state_is r (step ls xs u) (e ∙ sym size) (λ c l. h c (omega arith)) (omega (arith, state_steps s)) (o ∙ sym (rw (state_over s, clear)))

  -- ---- swap
  module _ {i j : ℕ} (b : Two i j s) (g : Made s r (swap_f s.t i j n m) (swap_f s.v i j n n) (swap_f s.w (i * n) (j * n) 1 n) (s.steps + 1) s.over) where
    swapped : (c : ℕ) → c < n → line_in r c ≡ line_in s (tr i j c)
    unfolding line_of
    swapped c l = made-line g c ∙ line_eq
        (swap-lines (columns m n) s.t i j b.i_in b.j_in b.apart (t_in s i b.i_in) (t_in s j b.j_in) c l)
        (swap-lines (columns n n) s.v i j b.i_in b.j_in b.apart (v_in s i b.i_in) (v_in s j b.j_in) c l)
        (swap-lines (rows n) s.w i j b.i_in b.j_in b.apart (w_in s i b.i_in) (w_in s j b.j_in) c l)

    swap_step_lem : swap_step i j u ≡ step (set (set u.lines i (line_in s j)) j (line_in s i)) (values (line_in s j) ++ values (line_in s i)) u
    unfolding swap_step
    swap_step_lem = ap₂ (λ a b. step (set (set u.lines i b) j a) (values b ++ values a) u) (state-line s i b.i_in) (state-line s j b.j_in)

    pub swap_same : Same m n r (swap_step i j u)
    swap_same = record {
      rows = g.rows;
      cols = g.cols;
      clear = g.over ∙ b.clear;
      same = step_is b.clear (set (set u.lines i (line_in s j)) j (line_in s i)) (values (line_in s j) ++ values (line_in s i))
          (simp length-set (state_count s)) g.cols
          (λ c l. swapped c l
          ∙ set_at (set u.lines i (line_in s j)) j (line_in s i) c (line_in s (tr i j c)) (simp length-set (omega (arith, state_count s)))
          (λ e. rw (e, tr-second i j))
          (λ x. set_at u.lines i (line_in s j) c (line_in s (tr i j c)) (omega (arith, state_count s)) (λ e. rw (e, tr_first i j))
          (λ y. rw (tr-neither i j c (omega arith) (omega arith)) (sym (state-line s c l)))))
          g.steps
          (g.over ∙ b.clear ∙ sym (any_beyond-append (values (line_in s j)) (values (line_in s i)) ∙ rw (line-near s b.clear j, line-near s b.clear i)))
          ∙ sym swap_step_lem;
    }

  -- ---- negate
  module _ {i : ℕ} (b : One i s) (g : Made s r (neg_f s.t i n m) (neg_f s.v i n n) (neg_f s.w (i * n) 1 n) (s.steps + 1) s.over) where
    neg_t : Written n i (map neg_ℤ (pick s.t i n m)) (λ c. pick s.t c n m) (λ c. pick (neg_f s.t i n m) c n m)
    neg_t = negate-lines (columns m n) s.t i b.i_in (t_in s i b.i_in) (s.sound.t_small b.clear)

    neg_v : Written n i (map neg_ℤ (pick s.v i n n)) (λ c. pick s.v c n n) (λ c. pick (neg_f s.v i n n) c n n)
    neg_v = negate-lines (columns n n) s.v i b.i_in (v_in s i b.i_in) (s.sound.v_small b.clear)

    neg_w : Written n i (map neg_ℤ (pick s.w (i * n) 1 n)) (λ c. pick s.w (c * n) 1 n) (λ c. pick (neg_f s.w (i * n) 1 n) (c * n) 1 n)
    neg_w = negate-lines (rows n) s.w i b.i_in (w_in s i b.i_in) (s.sound.w_small b.clear)

    line-negated : line_in r i ≡ negated (line_in s i)
    unfolding line_of
    line-negated = made-line g i ∙ line_eq neg_t.here neg_v.here neg_w.here

    lines-kept : (c : ℕ) → c < n → c ≢ i → line_in r c ≡ line_in s c
    unfolding line_of
    lines-kept c l d = made-line g c ∙ line_eq (neg_t.off c l d) (neg_v.off c l d) (neg_w.off c l d)

    negate-step : negate_step i u ≡ step (set u.lines i (negated (line_in s i))) (values (negated (line_in s i))) u
    unfolding negate_step
    negate-step = ap (λ a. step (set u.lines i (negated a)) (values (negated a)) u) (state-line s i b.i_in)

    pub negate_same : Same m n r (negate_step i u)
    negate_same = record {
      rows = g.rows;
      cols = g.cols;
      clear = g.over ∙ b.clear;
      same = step_is b.clear (set u.lines i (negated (line_in s i))) (values (negated (line_in s i))) (simp length-set (state_count s)) g.cols
          (λ c l. set_at u.lines i (negated (line_in s i)) c (line_in r c) (omega (arith, b.i_in, state_count s))
          (λ e. rw e line-negated) (λ d. lines-kept c l d ∙ sym (state-line s c l)))
          g.steps
          (g.over ∙ b.clear ∙ sym (line-near r (g.over ∙ b.clear) i) ∙ ap (λ l. any_beyond (values l)) line-negated)
          ∙ sym negate-step;
    }

  -- ---- add
  module _ {i j : ℕ} (two : Two i j s) {q : ℤ} {a b c : Bool} (g : Summed s r i j q a b c) where
    abbrev x : Line
    x = source q (line_in s i) (line_in s j)

    abbrev y : Line
    y = target q (line_in s i) (line_in s j)

    hi : i < n
    hi = two.i_in

    hj : j < n
    hj = two.j_in

    d : i ≢ j
    d = two.apart

    apart : j ≢ i
    apart = omega arith

    add_step_lem : add_step i j q u ≡ step (set (set u.lines i x) j y) (y.t ++ y.v ++ x.w) u
    unfolding add_step
    add_step_lem = ap₂ (λ a b. step (set (set u.lines i (source q a b)) j (target q a b)) ((target q a b).t ++ (target q a b).v ++ (source q a b).w) u)
        (state-line s i hi) (state-line s j hj)

    flag : r.over ≡ any_beyond (y.t ++ y.v ++ x.w)
    unfolding line_of
    flag = g.over
        ∙ ap₂ ◌||◌ (ap₂ ◌||◌ (g.t.flag ∙ add-flag (columns m n) s.t i j q hi hj apart) (g.v.flag ∙ add-flag (columns n n) s.v i j q hi hj apart))
        (g.w.flag ∙ add-flag (rows n) s.w j i (neg_ℤ q) hj hi d)
        ∙ sym (any_beyond-append (y.t ++ y.v) x.w ∙ ap (λ (b : Bool). b || any_beyond x.w) (any_beyond-append y.t y.v))

    module _ (o : r.over ≡ false) where
      none : (a || b ≡ false) × (c ≡ false)
      none = or-neither (a || b) c (sym g.over ∙ o)

      others : (a ≡ false) × (b ≡ false)
      others = or-neither a b none.0

      in_t : Written n j (plus q (pick s.t j n m) (pick s.t i n m)) (λ c. pick s.t c n m) (λ c. pick (add_f s.t j i n q m) c n m)
      in_t = add-lines (columns m n) s.t i j q hi hj apart (t_in s j hj) (sym g.t.flag ∙ others.0)

      in_v : Written n j (plus q (pick s.v j n n) (pick s.v i n n)) (λ c. pick s.v c n n) (λ c. pick (add_f s.v j i n q n) c n n)
      in_v = add-lines (columns n n) s.v i j q hi hj apart (v_in s j hj) (sym g.v.flag ∙ others.1)

      in_w : Written n i (plus (neg_ℤ q) (pick s.w (i * n) 1 n) (pick s.w (j * n) 1 n)) (λ c. pick s.w (c * n) 1 n)
          (λ c. pick (add_f s.w (i * n) (j * n) 1 (neg_ℤ q) n) (c * n) 1 n)
      in_w = add-lines (rows n) s.w j i (neg_ℤ q) hj hi d (w_in s i hi) (sym g.w.flag ∙ none.1)

      made : Made s r (add_f s.t j i n q m) (add_f s.v j i n q n) (add_f s.w (i * n) (j * n) 1 (neg_ℤ q) n) (s.steps + 1) false
      made = record { rows = g.rows; cols = g.cols; t = g.t.list others.0; v = g.v.list others.1; w = g.w.list none.1; steps = g.steps; over = o }

      at_source : line_in r i ≡ x
      unfolding line_of
      at_source = made-line made i ∙ line_eq (in_t.off i hi d) (in_v.off i hi d) in_w.here

      at_target : line_in r j ≡ y
      unfolding line_of
      at_target = made-line made j ∙ line_eq in_t.here in_v.here (in_w.off j hj apart)

      at_others : (c : ℕ) → c < n → c ≢ i → c ≢ j → line_in r c ≡ line_in s c
      unfolding line_of
      at_others c l a b = made-line made c ∙ line_eq (in_t.off c l b) (in_v.off c l b) (in_w.off c l a)

      add_is : state_of r ≡ add_step i j q u
      add_is = step_is two.clear (set (set u.lines i x) j y) (y.t ++ y.v ++ x.w) (simp length-set (state_count s)) g.cols
          (λ c l. set_at (set u.lines i x) j y c (line_in r c) (simp length-set (omega (arith, hj, state_count s))) (λ z. rw z at_target)
          (λ b. set_at u.lines i x c (line_in r c) (omega (arith, hi, state_count s)) (λ z. rw z at_source) (λ a. at_others c l a b ∙ sym (state-line s c l))))
          g.steps flag ∙ sym add_step_lem

    pub add-tracks : Tracks m n r (add_step i j q u)
    unfolding step
    add-tracks = record {
      rows = g.rows;
      cols = g.cols;
      flag = flag ∙ sym (ap (λ (w : State). w.over) add_step_lem ∙ rw (state_over s, two.clear));
      same = add_is;
    }

  -- ---- reorder
  module _ {a : ℕ} (b : Reorders a s)
      (g : Made s r (rotate_f s.t s.t n a (m * n)) (rotate_f s.v s.v n a (n * n)) (rotate_f s.w s.w (n * n) (a * n) (1 * (n * n))) s.steps s.over) where
    turned : (c : ℕ) → c < n → line_in r c ≡ line_in s ((c + a) % n)
    unfolding line_of
    turned c l = made-line g c ∙ line_eq
        (rotate_columns s.t s.t m n a (t-room s) c l)
        (rotate_columns s.v s.v n n a (v-room s) c l)
        (rotate_rows s.w s.w n a (w-room s) c l)

    pub reorder_same : Same m n r (reorder a u)
    unfolding reorder
    reorder_same = record {
      rows = g.rows;
      cols = g.cols;
      clear = g.over ∙ b.clear;
      same = state_is r (reorder a u) (simp (length-append, length-drop, length-take) (omega (arith, b.a_in, g.cols, state_count s)))
          (λ c k. let l : c < n = omega (arith, g.cols) in
          turned c l ∙ sym (state-line s ((c + a) % n) (mod-lt (c + a) b.some)) ∙ sym (turned_at u.lines n a c (state_count s) b.a_in l))
          (g.steps ∙ sym (state_steps s)) (g.over ∙ sym (state_over s));
    }
