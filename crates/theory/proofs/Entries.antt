-- What each entry of T, V and W is after each of the three steps: the steps are the column steps of whole/proofs/Columns.
use mathlib.Core.Path.{◌≡◌, refl, ◌∙◌, ap}
use mathlib.Core.Logic.{◌≢◌}
use mathlib.Core.Bool.{Bool, cond}
use mathlib.Core.List.{List, [], ◌∷◌, map}
use Prim.Native.Nat.{ℕ, zero, suc, ◌≤◌, ◌<◌}
use lib.ListN.{get_or-eq_default, get_or-map}
use lib.IntN.{ℤ, pos, negsuc, neg_ℤ, ◌+ℤ◌, ◌*ℤ◌, ◌-ℤ◌}
use Rattle.whole.specs.Lists.{nth}
use Rattle.whole.proofs.Tests.{Test, pass, fail, lt?, eq?}
use Rattle.whole.proofs.Solver.{con, ◌⊕◌, ◌⊗◌, ◌⊖◌, ⊝◌, ◌≟◌, ring₁, ring₂, ring₃}
use Rattle.whole.proofs.Columns.{addcol, subrow, swapcol, swaprow, negcol, negrow}
use Rattle.rules.specs.Steps.{Line, State, blank, line, Table, on_t, on_v, side, get, get_w, plus, swap_step, negated, negate_step, source, target, add_step}
use Rattle.theory.proofs.StepLines.{count, swap_line, negate-line, negate-line_other, add-line-source, add-line-target, add_same_source, add_same_target}

-- ---- lists
pub nth-plus : (q : ℤ) (xs ys : List ℤ) (i : ℕ) → nth (plus q xs ys) i ≡ nth xs i +ℤ q *ℤ nth ys i
nth-plus q [] [] i = ring₁ q (λ q. con (pos 0) ≟ con (pos 0) ⊕ q ⊗ con (pos 0)) tt
nth-plus q [] (y ∷ ys) zero = ring₂ q y (λ q z. q ⊗ z ≟ con (pos 0) ⊕ q ⊗ z) tt
nth-plus q [] (y ∷ ys) (suc i) = nth-plus q [] ys i
nth-plus q (x ∷ xs) [] i = ring₂ q (nth (x ∷ xs) i) (λ q z. z ≟ z ⊕ q ⊗ con (pos 0)) tt
nth-plus q (x ∷ xs) (y ∷ ys) zero = refl
nth-plus q (x ∷ xs) (y ∷ ys) (suc i) = nth-plus q xs ys i

nth-negated : (xs : List ℤ) (r : ℕ) → nth (map neg_ℤ xs) r ≡ neg_ℤ (nth xs r)
nth-negated xs r = get_or-map neg_ℤ xs r (pos 0)

-- ---- T and V alike
side-blank : (tb : Table) → side tb blank ≡ []
side-blank on_t = refl
side-blank on_v = refl

side-negated : (tb : Table) (l : Line) → side tb (negated l) ≡ map neg_ℤ (side tb l)
side-negated on_t l = refl
side-negated on_v l = refl

side-source : (tb : Table) (q : ℤ) (i j : Line) → side tb (source q i j) ≡ side tb i
side-source on_t q i j = refl
side-source on_v q i j = refl

side-target : (tb : Table) (q : ℤ) (i j : Line) → side tb (target q i j) ≡ plus q (side tb j) (side tb i)
side-target on_t q i j = refl
side-target on_v q i j = refl

-- a column that is not zero is there
pub filled_in : (tb : Table) (u : State) (r c : ℕ) → get tb u r c ≢ pos 0 → c < count u
unfolding get
filled_in tb u r c h = go (lt? c (count u))
  where
    go : {b : Bool} → Test (c < count u) (count u ≤ c) b → c < count u
    go (pass k) = k
    go (fail k) = absurd (h (ap (λ (l : Line). nth (side tb l) r) (get_or-eq_default u.lines blank k) ∙ rw (side-blank tb)))

-- ---- entries after a swap
module _ (i j : ℕ) (u : State) (hi : i < count u) (hj : j < count u) where
  pub swap-get : (tb : Table) (r c : ℕ) → get tb (swap_step i j u) r c ≡ swapcol i j (get tb u) r c
  unfolding get
  swap-get tb r c = ap (λ (l : Line). nth (side tb l) r) (swap_line i j u hi hj c)

  pub swap-get_w : (r c : ℕ) → get_w (swap_step i j u) r c ≡ swaprow i j (get_w u) r c
  unfolding get_w
  swap-get_w r c = ap (λ (l : Line). nth l.w c) (swap_line i j u hi hj r)

-- ---- entries after a negation
minus_one : (x : ℤ) → neg_ℤ x ≡ negsuc 0 *ℤ x
minus_one x = ring₁ x (λ x. ⊝ x ≟ con (negsuc 0) ⊗ x) tt

times_one : (x : ℤ) → x ≡ pos 1 *ℤ x
times_one x = ring₁ x (λ x. x ≟ con (pos 1) ⊗ x) tt

module _ (i : ℕ) (u : State) (h : i < count u) where
  pub negate_at : (tb : Table) (r : ℕ) → get tb (negate_step i u) r i ≡ neg_ℤ (get tb u r i)
  unfolding get
  negate_at tb r = ap (λ (l : Line). nth (side tb l) r) (negate-line i u h) ∙ rw (side-negated tb (line u i)) (nth-negated (side tb (line u i)) r)

  pub negate-off : (tb : Table) (r c : ℕ) → i ≢ c → get tb (negate_step i u) r c ≡ get tb u r c
  unfolding get
  negate-off tb r c d = ap (λ (l : Line). nth (side tb l) r) (negate-line_other i u c d)

  pub negate-get : (tb : Table) (r c : ℕ) → get tb (negate_step i u) r c ≡ negcol i (get tb u) r c
  negate-get tb r c = go (eq? i c)
    where
      go : {b : Bool} → Test (i ≡ c) (i ≢ c) b → get tb (negate_step i u) r c ≡ cond b (negsuc 0) (pos 1) *ℤ get tb u r c
      go (pass e) = rw (← e) (negate_at tb r ∙ minus_one (get tb u r i))
      go (fail d) = negate-off tb r c d ∙ times_one (get tb u r c)

  pub negate-get_w : (r c : ℕ) → get_w (negate_step i u) r c ≡ negrow i (get_w u) r c
  unfolding get_w
  negate-get_w r c = go (eq? i r)
    where
      go : {b : Bool} → Test (i ≡ r) (i ≢ r) b → nth (line (negate_step i u) r).w c ≡ cond b (negsuc 0) (pos 1) *ℤ nth (line u r).w c
      go (pass e) = rw (← e) (ap (λ (l : Line). nth l.w c) (negate-line i u h) ∙ nth-negated (line u i).w c ∙ minus_one (nth (line u i).w c))
      go (fail d) = ap (λ (l : Line). nth l.w c) (negate-line_other i u r d) ∙ times_one (nth (line u r).w c)

-- ---- entries after an addition
module _ (i j : ℕ) (q : ℤ) (u : State) where
  pub add_at : j < count u → (tb : Table) (r : ℕ) → get tb (add_step i j q u) r j ≡ get tb u r j +ℤ q *ℤ get tb u r i
  unfolding get
  add_at h tb r = ap (λ (l : Line). nth (side tb l) r) (add-line-target i j q u h)
      ∙ rw (side-target tb q (line u i) (line u j)) (nth-plus q (side tb (line u j)) (side tb (line u i)) r)

  pub add-off : (tb : Table) (r c : ℕ) → j ≢ c → get tb (add_step i j q u) r c ≡ get tb u r c
  unfolding get
  add-off tb r c d = add_same_source i j q u (λ l. nth (side tb l) r) (rw (side-source tb q (line u i) (line u j))) c d

  pub add-get : j < count u → (tb : Table) (r c : ℕ) → get tb (add_step i j q u) r c ≡ addcol q i j (get tb u) r c
  unfolding addcol
  add-get h tb r c = go (eq? j c)
    where
      go : {b : Bool} → Test (j ≡ c) (j ≢ c) b → get tb (add_step i j q u) r c ≡ cond b (get tb u r c +ℤ q *ℤ get tb u r i) (get tb u r c)
      go (pass e) = rw (← e) (add_at h tb r)
      go (fail d) = add-off tb r c d

  pub add-get_w : i < count u → i ≢ j → (r c : ℕ) → get_w (add_step i j q u) r c ≡ subrow q i j (get_w u) r c
  unfolding get_w subrow
  add-get_w h n r c = go (eq? i r)
    where
      at : nth (line (add_step i j q u) i).w c ≡ nth (line u i).w c -ℤ q *ℤ nth (line u j).w c
      at = ap (λ (l : Line). nth l.w c) (add-line-source i j q u h n) ∙ nth-plus (neg_ℤ q) (line u i).w (line u j).w c
          ∙ ring₃ (nth (line u i).w c) q (nth (line u j).w c) (λ a q b. a ⊕ ⊝ q ⊗ b ≟ a ⊖ q ⊗ b) tt

      go : {b : Bool} → Test (i ≡ r) (i ≢ r) b
          → nth (line (add_step i j q u) r).w c ≡ cond b (nth (line u r).w c -ℤ q *ℤ nth (line u j).w c) (nth (line u r).w c)
      go (pass e) = rw (← e) at
      go (fail d) = add_same_target i j q u (λ l. nth l.w c) refl r d
