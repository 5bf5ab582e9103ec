-- Expressions of the ring ℤ and their normal forms, which the solver of `Solver` computes: an expression whose normal form is 0 is 0 at all values.
use mathlib.Core.Path.{◌≡◌, refl, sym, ◌∙◌, ap, ap₂}
use mathlib.Core.Bool.{Bool, true, false, cond}
use mathlib.Core.List.{List, [], ◌∷◌}
use Prim.Native.Nat.{ℕ, compare, Ordering}
use lib.Dec.{T, compare_is_eq, eqb, eqb→eq}
use lib.ListN.{get_or}
use lib.IntN.{ℤ, pos, negsuc, neg_ℤ, ◌+ℤ◌, ◌*ℤ◌, ◌-ℤ◌, +ℤ_assoc, +ℤ_idl, +ℤ_idr, neg_ℤ-+ℤ, *ℤ-zero, zero-*ℤ}
use Rattle.whole.proofs.Ring.{+ℤ-left-comm, *ℤ-left-comm, *ℤ-assoc, *ℤ-distribl, *ℤ-distribr, negℤ_*ℤ, one_*ℤ, *ℤ-1}

pub data E : Type 0 where
  var : ℕ → E
  con : ℤ → E
  ◌⊕◌ : E → E → E
  ◌⊗◌ : E → E → E
  ◌⊖◌ : E → E → E
  ⊝◌ : E → E

infixl 6 ◌⊕◌ ◌⊖◌
infixl 7 ◌⊗◌
infix 8 ⊝◌
-- what an expression means where ρ lists the values of var 0, var 1, ..
abbrev pub eval : List ℤ → E → ℤ
eval ρ (var i) = get_or ρ i (pos 0)
eval ρ (con c) = c
eval ρ (a ⊕ b) = eval ρ a +ℤ eval ρ b
eval ρ (a ⊗ b) = eval ρ a *ℤ eval ρ b
eval ρ (a ⊖ b) = eval ρ a -ℤ eval ρ b
eval ρ (⊝ a) = neg_ℤ (eval ρ a)

-- ---- normal forms: sums of terms c · x₁ x₂ .., the terms and the variables in each sorted
-- In names, M is for what is done to such a product of variables, T to one term, P to a sum.
abbrev Mono : Type 0
Mono = List ℕ

pub data Poly : Type 0 where
  nil : Poly
  term : ℤ → Mono → Poly → Poly

abbrev choose : {A : Type 0} → Ordering → A → A → A → A
choose Ordering.lt a b c = a
choose Ordering.eq a b c = b
choose Ordering.gt a b c = c

abbrev cmp : Mono → Mono → Ordering
cmp [] [] = Ordering.eq
cmp [] (j ∷ n) = Ordering.lt
cmp (i ∷ m) [] = Ordering.gt
cmp (i ∷ m) (j ∷ n) = choose (compare i j) Ordering.lt (cmp m n) Ordering.gt

abbrev ins_m : ℕ → Mono → Mono
ins_m i [] = i ∷ []
ins_m i (j ∷ m) = choose (compare i j) (i ∷ j ∷ m) (i ∷ j ∷ m) (j ∷ ins_m i m)

abbrev mul_m : Mono → Mono → Mono
mul_m [] n = n
mul_m (i ∷ m) n = ins_m i (mul_m m n)

abbrev add_t : ℤ → Mono → Poly → Poly
add_t c m nil = term c m nil
add_t c m (term d n p) = choose (cmp m n) (term c m (term d n p)) (term (c +ℤ d) n p) (term d n (add_t c m p))

abbrev add_p : Poly → Poly → Poly
add_p nil q = q
add_p (term c m p) q = add_t c m (add_p p q)

-- c · m · q, added to r
abbrev mul_t : ℤ → Mono → Poly → Poly → Poly
mul_t c m nil r = r
mul_t c m (term d n q) r = add_t (c *ℤ d) (mul_m m n) (mul_t c m q r)

abbrev mul_p : Poly → Poly → Poly
mul_p nil q = nil
mul_p (term c m p) q = mul_t c m q (mul_p p q)

abbrev neg_p : Poly → Poly
neg_p nil = nil
neg_p (term c m p) = term (neg_ℤ c) m (neg_p p)

abbrev norm : E → Poly
norm (var i) = term (pos 1) (i ∷ []) nil
norm (con c) = term c [] nil
norm (a ⊕ b) = add_p (norm a) (norm b)
norm (a ⊗ b) = mul_p (norm a) (norm b)
norm (a ⊖ b) = add_p (norm a) (neg_p (norm b))
norm (⊝ a) = neg_p (norm a)

abbrev is_z : ℤ → Bool
is_z (pos n) = eqb n 0
is_z (negsuc n) = false

-- terms that have cancelled are still there, with the factor 0
abbrev all_z : Poly → Bool
all_z nil = true
all_z (term c m p) = cond (is_z c) (all_z p) false

-- e has the normal form 0
abbrev pub Null : E → Type 0
Null e = T (all_z (norm e))

-- ---- a normal form means what its expression means
choose_is : {A : Type 0} (Q : A → Type 0) (o : Ordering) (a b c : A) → Q a → (T (compare_is_eq o) → Q b) → Q c → Q (choose o a b c)
choose_is Q Ordering.lt a b c p q r = p
choose_is Q Ordering.eq a b c p q r = q tt
choose_is Q Ordering.gt a b c p q r = r

both : (o o' : Ordering) → T (compare_is_eq (choose o Ordering.lt o' Ordering.gt)) → T (compare_is_eq o) × T (compare_is_eq o')
both Ordering.lt o h = absurd h
both Ordering.eq o h = (tt, h)
both Ordering.gt o h = absurd h

cmp-eq : (m n : Mono) → T (compare_is_eq (cmp m n)) → m ≡ n
cmp-eq [] [] h = refl
cmp-eq [] (j ∷ n) h = absurd h
cmp-eq (i ∷ m) [] h = absurd h
cmp-eq (i ∷ m) (j ∷ n) h = let e = both (compare i j) (cmp m n) h in ap₂ ◌∷◌ (eqb→eq i j e.0) (cmp-eq m n e.1)

product_is : (c d m n q r : ℤ) → c *ℤ d *ℤ (m *ℤ n) +ℤ (c *ℤ m *ℤ q +ℤ r) ≡ c *ℤ m *ℤ (d *ℤ n +ℤ q) +ℤ r
product_is c d m n q r = simp (*ℤ-distribl, +ℤ_assoc, *ℤ-assoc, *ℤ-left-comm)

is_z_is : (c : ℤ) → T (is_z c) → c ≡ pos 0
is_z_is (pos n) h = ap pos (eqb→eq n 0 h)
is_z_is (negsuc n) h = absurd h

module _ (ρ : List ℤ) where
  ev_m : Mono → ℤ
  ev_m [] = pos 1
  ev_m (i ∷ m) = get_or ρ i (pos 0) *ℤ ev_m m

  ev_p : Poly → ℤ
  ev_p nil = pos 0
  ev_p (term c m p) = c *ℤ ev_m m +ℤ ev_p p

  ins_m_is : (i : ℕ) (m : Mono) → ev_m (ins_m i m) ≡ get_or ρ i (pos 0) *ℤ ev_m m
  unfolding ev_m
  ins_m_is i [] = refl
  ins_m_is i (j ∷ m) = let x = get_or ρ i (pos 0) in let y = get_or ρ j (pos 0) in
      choose_is (λ n. ev_m n ≡ x *ℤ (y *ℤ ev_m m)) (compare i j) (i ∷ j ∷ m) (i ∷ j ∷ m) (j ∷ ins_m i m) refl (λ _. refl)
      (ap (λ z. y *ℤ z) (ins_m_is i m) ∙ *ℤ-left-comm y x (ev_m m))

  mul_m_is : (m n : Mono) → ev_m (mul_m m n) ≡ ev_m m *ℤ ev_m n
  unfolding ev_m
  mul_m_is [] n = sym (one_*ℤ (ev_m n))
  mul_m_is (i ∷ m) n = let x = get_or ρ i (pos 0) in ins_m_is i (mul_m m n) ∙ ap (λ z. x *ℤ z) (mul_m_is m n) ∙ sym (*ℤ-assoc x (ev_m m) (ev_m n))

  add_t_is : (c : ℤ) (m : Mono) (p : Poly) → ev_p (add_t c m p) ≡ c *ℤ ev_m m +ℤ ev_p p
  unfolding ev_p
  add_t_is c m nil = refl
  add_t_is c m (term d n p) =
      choose_is (λ q. ev_p q ≡ c *ℤ ev_m m +ℤ (d *ℤ ev_m n +ℤ ev_p p)) (cmp m n) (term c m (term d n p)) (term (c +ℤ d) n p) (term d n (add_t c m p)) refl
      (λ h. rw (cmp-eq m n h, *ℤ-distribr c d (ev_m n), +ℤ_assoc (c *ℤ ev_m n) (d *ℤ ev_m n) (ev_p p)))
      (rw (add_t_is c m p, +ℤ-left-comm (d *ℤ ev_m n) (c *ℤ ev_m m) (ev_p p)))

  add_p_is : (p q : Poly) → ev_p (add_p p q) ≡ ev_p p +ℤ ev_p q
  unfolding ev_p
  add_p_is nil q = sym (+ℤ_idl (ev_p q))
  add_p_is (term c m p) q = add_t_is c m (add_p p q) ∙ rw (add_p_is p q, +ℤ_assoc (c *ℤ ev_m m) (ev_p p) (ev_p q))

  mul_t_is : (c : ℤ) (m : Mono) (q r : Poly) → ev_p (mul_t c m q r) ≡ c *ℤ ev_m m *ℤ ev_p q +ℤ ev_p r
  unfolding ev_p
  mul_t_is c m nil r = rw (*ℤ-zero (c *ℤ ev_m m), +ℤ_idl (ev_p r))
  mul_t_is c m (term d n q) r = add_t_is (c *ℤ d) (mul_m m n) (mul_t c m q r)
      ∙ rw (mul_m_is m n, mul_t_is c m q r) (product_is c d (ev_m m) (ev_m n) (ev_p q) (ev_p r))

  mul_p_is : (p q : Poly) → ev_p (mul_p p q) ≡ ev_p p *ℤ ev_p q
  unfolding ev_p
  mul_p_is nil q = sym (zero-*ℤ (ev_p q))
  mul_p_is (term c m p) q = mul_t_is c m q (mul_p p q) ∙ rw (mul_p_is p q, *ℤ-distribr (c *ℤ ev_m m) (ev_p p) (ev_p q))

  neg_p_is : (p : Poly) → ev_p (neg_p p) ≡ neg_ℤ (ev_p p)
  unfolding ev_p
  neg_p_is nil = refl
  neg_p_is (term c m p) = rw (neg_p_is p, negℤ_*ℤ c (ev_m m), neg_ℤ-+ℤ (c *ℤ ev_m m) (ev_p p))

  norm_is : (e : E) → ev_p (norm e) ≡ eval ρ e
  unfolding ev_p ev_m
  norm_is (var i) = let x = get_or ρ i (pos 0) in rw (one_*ℤ (x *ℤ pos 1), *ℤ-1 x, +ℤ_idr x)
  norm_is (con c) = rw (*ℤ-1 c, +ℤ_idr c)
  norm_is (a ⊕ b) = add_p_is (norm a) (norm b) ∙ ap₂ ◌+ℤ◌ (norm_is a) (norm_is b)
  norm_is (a ⊗ b) = mul_p_is (norm a) (norm b) ∙ ap₂ ◌*ℤ◌ (norm_is a) (norm_is b)
  norm_is (a ⊖ b) = add_p_is (norm a) (neg_p (norm b)) ∙ ap₂ ◌+ℤ◌ (norm_is a) (neg_p_is (norm b) ∙ ap neg_ℤ (norm_is b))
  norm_is (⊝ a) = neg_p_is (norm a) ∙ ap neg_ℤ (norm_is a)

  all_z_is : (p : Poly) → T (all_z p) → ev_p p ≡ pos 0
  unfolding ev_p
  all_z_is nil h = refl
  all_z_is (term c m p) h = go (is_z c) (is_z_is c) (all_z_is p) h
    where
      go : (b : Bool) → (T b → c ≡ pos 0) → (T (all_z p) → ev_p p ≡ pos 0) → T (cond b (all_z p) false) → c *ℤ ev_m m +ℤ ev_p p ≡ pos 0
      go true e r g = rw (e tt, zero-*ℤ (ev_m m), r g)
      go false e r g = absurd g

  pub null_zero : (e : E) → Null e → eval ρ e ≡ pos 0
  null_zero e h = sym (norm_is e) ∙ all_z_is (norm e) h
