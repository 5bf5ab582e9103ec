-- What holds of every line stays so; and theorem 1, "kept throughout", its part on shapes: the number of lines and their lengths stay, through each
-- of the three steps and the
-- reordering.
use mathlib.Core.Path.{◌≡◌, refl, ◌∙◌, ap}
use mathlib.Core.Logic.{◌≢◌}
use mathlib.Core.List.{List, [], ◌∷◌}
use Prim.Native.Nat.{ℕ, suc, ◌+◌, ◌-◌, ◌≤◌, ◌<◌}
use native.Mathlib.Omega.{arith}
use native.Mathlib.Decide.{ℕ_discrete}
use lib.ListN.{length, length-map}
use lib.IntN.{ℤ, neg_ℤ}
use Rattle.whole.proofs.Exchange.{tr, tr-lt, Which, first, second, neither, which?}
use Rattle.rules.specs.Steps.{Line, State, line, plus, swap_step, negated, negate_step, source, target, add_step, reorder}
use Rattle.theory.proofs.StepLines.{count, swap_count, swap_line, negate_count, negate-line, negate-line_other, add_count, add-line-source, add-line-target, add-line_other}
use Rattle.theory.proofs.Reorder.{turn, turn-lt, reorder-line, reorder_count}

-- ---- what holds of every line
pub record Every (n : ℕ) (P : Line → Type 0) (u : State) : Type 0 where
  pub lines : count u ≡ n
  pub all : (c : ℕ) → c < n → P (line u c)

module _ (n : ℕ) (P : Line → Type 0) (u : State) (h : Every n P u) where
  pub swap-every : (i j : ℕ) → i < n → j < n → Every n P (swap_step i j u)
  swap-every i j hi hj = record {
    lines = swap_count i j u ∙ h.lines;
    all = λ c l. rw (swap_line i j u (omega (arith, h.lines)) (omega (arith, h.lines)) c) (h.all (tr i j c) (tr-lt n i j c hi hj l));
  }

  pub negate-every : (i : ℕ) → i < n → P (negated (line u i)) → Every n P (negate_step i u)
  negate-every i hi p = record { lines = negate_count i u ∙ h.lines; all = λ c l. go c l (ℕ_discrete i c) }
    where
      go : (c : ℕ) → c < n → Dec (i ≡ c) → P (line (negate_step i u) c)
      go c l (yes e) = rw (← e, negate-line i u (omega (arith, h.lines))) p
      go c l (no d) = rw (negate-line_other i u c d) (h.all c l)

  pub add-every : (i j : ℕ) (q : ℤ) → i < n → j < n → i ≢ j → P (source q (line u i) (line u j)) → P (target q (line u i) (line u j))
      → Every n P (add_step i j q u)
  add-every i j q hi hj d s t = record { lines = add_count i j q u ∙ h.lines; all = λ c l. go c l (which? i j c) }
    where
      go : (c : ℕ) → c < n → Which i j c → P (line (add_step i j q u) c)
      go c l (first e) = rw (← e, add-line-source i j q u (omega (arith, h.lines)) d) s
      go c l (second _ e) = rw (← e, add-line-target i j q u (omega (arith, h.lines))) t
      go c l (neither x y) = rw (add-line_other i j q u c x y) (h.all c l)

  pub reorder-every : (a : ℕ) → a ≤ n → Every n P (reorder a u)
  reorder-every a fit =
      let e : a + (n - a) ≡ n = omega arith in
      record {
        lines = reorder_count a u ∙ h.lines;
        all = λ c l. rw (reorder-line n a (n - a) e u h.lines c l) (h.all (turn a (n - a) c) (turn-lt n a (n - a) e c l));
      }

-- ---- lengths: a column of T has m entries, a column of V and a row of W have n
pub record Sized (m n : ℕ) (l : Line) : Type 0 where
  pub t : length l.t ≡ m
  pub v : length l.v ≡ n
  pub w : length l.w ≡ n

-- n lines of those lengths
abbrev pub Shape : (m n : ℕ) → State → Type 0
Shape m n u = Every n (Sized m n) u

length-plus : (q : ℤ) (k : ℕ) (xs ys : List ℤ) → length xs ≡ k → length ys ≡ k → length (plus q xs ys) ≡ k
length-plus q k [] ys e f = length-map ys _ ∙ f
length-plus q k (x ∷ xs) [] e f = e
length-plus q k (x ∷ xs) (y ∷ ys) e f = ap suc (length-plus q (length xs) xs ys refl (omega arith)) ∙ e

sized-negated : {m n : ℕ} {l : Line} → Sized m n l → Sized m n (negated l)
sized-negated {l = l} s = record { t = length-map l.t neg_ℤ ∙ s.t; v = length-map l.v neg_ℤ ∙ s.v; w = length-map l.w neg_ℤ ∙ s.w }

sized-source : (q : ℤ) {m n : ℕ} {i j : Line} → Sized m n i → Sized m n j → Sized m n (source q i j)
sized-source q {n = n} {i = i} {j = j} x y = record { t = x.t; v = x.v; w = length-plus (neg_ℤ q) n i.w j.w x.w y.w }

sized-target : (q : ℤ) {m n : ℕ} {i j : Line} → Sized m n i → Sized m n j → Sized m n (target q i j)
sized-target q {m = m} {n = n} {i = i} {j = j} x y = record {
  t = length-plus q m j.t i.t y.t x.t;
  v = length-plus q n j.v i.v y.v x.v;
  w = y.w;
}

module _ (m n : ℕ) (u : State) (h : Shape m n u) where
  pub swap_shape : (i j : ℕ) → i < n → j < n → Shape m n (swap_step i j u)
  swap_shape = swap-every n (Sized m n) u h

  pub negate_shape : (i : ℕ) → i < n → Shape m n (negate_step i u)
  negate_shape i hi = negate-every n (Sized m n) u h i hi (sized-negated (h.all i hi))

  pub add_shape : (i j : ℕ) (q : ℤ) → i < n → j < n → i ≢ j → Shape m n (add_step i j q u)
  add_shape i j q hi hj d = add-every n (Sized m n) u h i j q hi hj d
      (sized-source q (h.all i hi) (h.all j hj)) (sized-target q (h.all i hi) (h.all j hj))

  pub reorder_shape : (a : ℕ) → a ≤ n → Shape m n (reorder a u)
  reorder_shape = reorder-every n (Sized m n) u h
