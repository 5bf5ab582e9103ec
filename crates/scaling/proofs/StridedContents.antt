-- What the lists of specs/Strided hold after their turns, at each place, and that what they hold is small.
use mathlib.Core.Path.{◌≡◌, refl, ap, sym, ◌∙◌}
use mathlib.Core.Logic.{◌≢◌}
use mathlib.Core.Bool.{Bool}
use mathlib.Core.List.{List}
use Prim.Native.Nat.{ℕ, zero, suc, ◌+◌, ◌*◌, ◌<◌, ◌≤◌}
use native.Mathlib.Decide.{ℕ_discrete}
use native.Mathlib.Omega.{arith}
use lib.ListN.{length, set, length-set}
use lib.Seq.{get_or-set_same, get_or-set_other, set_out}
use lib.IntN.{ℤ, pos, nat_abs, neg_ℤ}
use Rattle.whole.specs.Lists.{nth}
use Rattle.whole.proofs.Tests.{Test, pass, fail, lt?}
use Rattle.rules.specs.Limits.{M}
use Rattle.scaling.specs.Strided.{Within, keep, sum_at, add_f, swap_f, neg_f, rotate_from, rotate_f}
use Rattle.scaling.specs.Sound.{Small}
use Rattle.scaling.proofs.Values.{keep-small}
use Rattle.scaling.proofs.Places.{Disjoint, once}

-- ---- any list that goes through turns
module _ (F : ℕ → List ℤ) where
  turns_keep : (P : List ℤ → Type 0) → P (F 0) → ((k : ℕ) → P (F k) → P (F (suc k))) → (k : ℕ) → P (F k)
  turns_keep P h s zero = h
  turns_keep P h s (suc k) = s k (turns_keep P h s k)

  -- a place that no turn from j to c writes
  unwritten : (p j c : ℕ) → j ≤ c → ((k : ℕ) → j ≤ k → k < c → nth (F (suc k)) p ≡ nth (F k) p) → nth (F c) p ≡ nth (F j) p
  unwritten p j zero l h = let e : j ≡ 0 = omega arith in rw e
  unwritten p j (suc c) l h = go (ℕ_discrete j (suc c)) (λ x. unwritten p j c x (λ k a b. h k a (omega arith)))
    where
      go : Dec (j ≡ suc c) → (j ≤ c → nth (F c) p ≡ nth (F j) p) → nth (F (suc c)) p ≡ nth (F j) p
      go (yes e) r = rw e
      go (no d) r = h c (omega arith) (omega arith) ∙ r (omega arith)

set-small : (xs : List ℤ) (i : ℕ) (z : ℤ) → Small xs → nat_abs z ≤ M → Small (set xs i z)
set-small xs i z h k = record { at = λ p. go p (ℕ_discrete p i) (lt? i (length xs)) }
  where
    go : {b : Bool} (p : ℕ) → Dec (p ≡ i) → Test (i < length xs) (length xs ≤ i) b → nat_abs (nth (set xs i z) p) ≤ M
    go p (yes e) (pass l) = rw (e, get_or-set_same xs i z (pos 0) l) k
    go p (yes e) (fail l) = rw (set_out xs i z l) (h.at p)
    go p (no d) t = rw (get_or-set_other xs i p z (pos 0) d) (h.at p)

-- ---- a list with one write in each turn
record Writes (xs : List ℤ) (F : ℕ → List ℤ) (place : ℕ → ℕ) (value : ℕ → ℤ) : Type 0 where
  start : F 0 ≡ xs
  turn : (k : ℕ) → F (suc k) ≡ set (F k) (place k) (value k)

module _ {xs : List ℤ} {F : ℕ → List ℤ} {place : ℕ → ℕ} {value : ℕ → ℤ} (w : Writes xs F place value) where
  writes_length : (k : ℕ) → length (F k) ≡ length xs
  writes_length = turns_keep F (λ l. length l ≡ length xs) (ap length w.start) (λ k e. ap length (w.turn k) ∙ length-set (F k) (place k) (value k) ∙ e)

  writes_small : Small xs → ((k : ℕ) → nat_abs (value k) ≤ M) → (k : ℕ) → Small (F k)
  writes_small h v = turns_keep F Small (rw w.start h) (λ k s. rw (w.turn k) (set-small (F k) (place k) (value k) s (v k)))

  writes_later : (p j c : ℕ) → j ≤ c → ((k : ℕ) → j ≤ k → k < c → p ≢ place k) → nth (F c) p ≡ nth (F j) p
  writes_later p j c l h = unwritten F p j c l (λ k a b. rw (w.turn k) (get_or-set_other (F k) (place k) p (value k) (pos 0) (h k a b)))

  writes_kept : (p c : ℕ) → ((k : ℕ) → k < c → p ≢ place k) → nth (F c) p ≡ nth xs p
  writes_kept p c h = writes_later p 0 c (omega arith) (λ k _ b. h k b) ∙ ap (λ (l : List ℤ). nth l p) w.start

  writes_made : (count k : ℕ) → k < count → place k < length xs → ((l : ℕ) → k < l → place k ≢ place l) → nth (F count) (place k) ≡ value k
  writes_made count k h g d = writes_later (place k) (suc k) count h (λ l a _. d l a)
      ∙ rw (w.turn k) (get_or-set_same (F k) (place k) (value k) (pos 0) (omega (arith, writes_length k)))

-- ---- additions
module _ (xs : List ℤ) (to from stride : ℕ) (q : ℤ) where
  add_f_writes : Writes xs (add_f xs to from stride q) (λ k. to + k * stride) (λ k. keep (sum_at q (to + k * stride) (from + k * stride) (add_f xs to from stride q k)))
  unfolding add_f
  add_f_writes = record { start = refl; turn = λ k. refl }

  pub add_f-small : Small xs → (k : ℕ) → Small (add_f xs to from stride q k)
  add_f-small h = writes_small add_f_writes h (λ k. keep-small (sum_at q (to + k * stride) (from + k * stride) (add_f xs to from stride q k)))

  pub add_f-kept : (p c : ℕ) → ((k : ℕ) → k < c → p ≢ to + k * stride) → nth (add_f xs to from stride q c) p ≡ nth xs p
  add_f-kept = writes_kept add_f_writes

  module _ (count : ℕ) (s : 0 < stride) (apart : Disjoint to from stride count) (k : ℕ) (h : k < count) where
    -- what turn k reads is as it was at first
    pub add_f-reads : sum_at q (to + k * stride) (from + k * stride) (add_f xs to from stride q k) ≡ sum_at q (to + k * stride) (from + k * stride) xs
    add_f-reads =
        let a = add_f-kept (to + k * stride) k (λ l x. once to stride k l s (omega arith)) in
        let b = add_f-kept (from + k * stride) k (λ l x e. apart.each l k (omega arith) h (sym e)) in
        rw (a, b)

    pub add_f-made : Within xs to stride count → nth (add_f xs to from stride q count) (to + k * stride) ≡ keep (sum_at q (to + k * stride) (from + k * stride) xs)
    add_f-made w = writes_made add_f_writes count k h (w.each k h) (λ l a. once to stride k l s (omega arith)) ∙ ap keep add_f-reads

-- ---- negations
module _ (xs : List ℤ) (at stride : ℕ) where
  neg_f_writes : Writes xs (neg_f xs at stride) (λ k. at + k * stride) (λ k. keep (neg_ℤ (nth (neg_f xs at stride k) (at + k * stride))))
  unfolding neg_f
  neg_f_writes = record { start = refl; turn = λ k. refl }

  pub neg_f-small : Small xs → (k : ℕ) → Small (neg_f xs at stride k)
  neg_f-small h = writes_small neg_f_writes h (λ k. keep-small (neg_ℤ (nth (neg_f xs at stride k) (at + k * stride))))

  pub neg_f-kept : (p c : ℕ) → ((k : ℕ) → k < c → p ≢ at + k * stride) → nth (neg_f xs at stride c) p ≡ nth xs p
  neg_f-kept = writes_kept neg_f_writes

  pub neg_f-made : (count : ℕ) → 0 < stride → Within xs at stride count → (k : ℕ) → k < count
      → nth (neg_f xs at stride count) (at + k * stride) ≡ keep (neg_ℤ (nth xs (at + k * stride)))
  neg_f-made count s w k h = writes_made neg_f_writes count k h (w.each k h) (λ l a. once at stride k l s (omega arith))
      ∙ ap (λ (z : ℤ). keep (neg_ℤ z)) (neg_f-kept (at + k * stride) k (λ l x. once at stride k l s (omega arith)))

-- ---- turned rows
module _ (xs old : List ℤ) (width by : ℕ) where
  rotate_f_writes : Writes xs (rotate_f xs old width by) (λ k. k) (λ k. nth old (rotate_from width by k))
  unfolding rotate_f
  rotate_f_writes = record { start = refl; turn = λ k. refl }

  pub rotate_f-small : Small xs → Small old → (k : ℕ) → Small (rotate_f xs old width by k)
  rotate_f-small h g = writes_small rotate_f_writes h (λ k. g.at (rotate_from width by k))

  pub rotate_f-length : (k : ℕ) → length (rotate_f xs old width by k) ≡ length xs
  rotate_f-length = writes_length rotate_f_writes

  pub rotate_f-made : (count k : ℕ) → count ≤ length xs → k < count → nth (rotate_f xs old width by count) k ≡ nth old (rotate_from width by k)
  rotate_f-made count k l h = writes_made rotate_f_writes count k h (omega arith) (λ l a. omega arith)

-- ---- swaps, with two writes in each turn
module _ (xs : List ℤ) (x y stride : ℕ) where
  swap_f-length : (k : ℕ) → length (swap_f xs x y stride k) ≡ length xs
  unfolding swap_f
  swap_f-length = turns_keep (swap_f xs x y stride) (λ l. length l ≡ length xs) refl (λ k e. simp length-set e)

  pub swap_f-small : Small xs → (k : ℕ) → Small (swap_f xs x y stride k)
  unfolding swap_f
  swap_f-small h = turns_keep (swap_f xs x y stride) Small h (λ k s. set-small _ _ _ (set-small (swap_f xs x y stride k) _ _ s (s.at _)) (s.at _))

  swap_f-later : (p j c : ℕ) → j ≤ c → ((k : ℕ) → j ≤ k → k < c → (p ≢ x + k * stride) × (p ≢ y + k * stride))
      → nth (swap_f xs x y stride c) p ≡ nth (swap_f xs x y stride j) p
  unfolding swap_f
  swap_f-later p j c l h = unwritten (swap_f xs x y stride) p j c l (λ k a b.
      get_or-set_other (set (swap_f xs x y stride k) (x + k * stride) _) (y + k * stride) p _ (pos 0) (h k a b).1
      ∙ get_or-set_other (swap_f xs x y stride k) (x + k * stride) p _ (pos 0) (h k a b).0)

  pub swap_f-kept : (p c : ℕ) → ((k : ℕ) → k < c → (p ≢ x + k * stride) × (p ≢ y + k * stride)) → nth (swap_f xs x y stride c) p ≡ nth xs p
  unfolding swap_f
  swap_f-kept p c h = swap_f-later p 0 c (omega arith) (λ k _ b. h k b)

  module _ (count : ℕ) (s : 0 < stride) (apart : Disjoint x y stride count) (wx : Within xs x stride count) (wy : Within xs y stride count) (k : ℕ) (h : k < count) where
    -- the places of turn k are written in no other turn
    x-alone : (l : ℕ) → l < count → k ≢ l → (x + k * stride ≢ x + l * stride) × (x + k * stride ≢ y + l * stride)
    x-alone l g d = (once x stride k l s d, apart.each k l h g)

    y-alone : (l : ℕ) → l < count → k ≢ l → (y + k * stride ≢ x + l * stride) × (y + k * stride ≢ y + l * stride)
    y-alone l g d = ((λ e. apart.each l k g h (sym e)), once y stride k l s d)

    pub swap_f_first : nth (swap_f xs x y stride count) (x + k * stride) ≡ nth xs (y + k * stride)
    unfolding swap_f
    swap_f_first = swap_f-later (x + k * stride) (suc k) count h (λ l a b. x-alone l b (omega arith))
        ∙ get_or-set_other (set (swap_f xs x y stride k) (x + k * stride) _) (y + k * stride) (x + k * stride) _ (pos 0) (apart.each k k h h)
        ∙ get_or-set_same (swap_f xs x y stride k) (x + k * stride) _ (pos 0) (omega (arith, swap_f-length k, wx.each k h))
        ∙ swap_f-kept (y + k * stride) k (λ l b. y-alone l (omega arith) (omega arith))

    pub swap_f-second : nth (swap_f xs x y stride count) (y + k * stride) ≡ nth xs (x + k * stride)
    unfolding swap_f
    swap_f-second = swap_f-later (y + k * stride) (suc k) count h (λ l a b. y-alone l b (omega arith))
        ∙ get_or-set_same (set (swap_f xs x y stride k) (x + k * stride) _) (y + k * stride) _ (pos 0) (simp length-set (omega (arith, swap_f-length k, wy.each k h)))
        ∙ swap_f-kept (x + k * stride) k (λ l b. x-alone l (omega arith) (omega arith))
