-- Writing one entry after the other into a list: the entries of a function of the index, from an index on or from the front.
use mathlib.Core.Path.{◌≡◌, refl, sym, ◌∙◌, ap}
use mathlib.Core.List.{List, [], ◌∷◌, ◌++◌, append_assoc, append-nil}
use Prim.Native.Nat.{ℕ, zero, suc, ◌+◌, ◌-◌, ◌≤◌, ◌<◌}
use native.Mathlib.Omega.{arith}
use native.Mathlib.Numerals.{add-one}
use native.Mathlib.Nat.{zero-add, add-suc}
use lib.ListN.{length, get_or, take, drop, set, length-append, length-drop, get_or-append}
use lib.Seq.{drop-cons, append_snoc, set_at, length-take-le, get_or-drop}
use Rattle.whole.specs.Lists.{tab, join}
use Rattle.whole.proofs.Lists.{length-tab, nth-tab, nth-rest}
use Rattle.rules.specs.Calls.{filled}

-- ---- one more at the end
pub tab-more {ℓ} : {A : Type ℓ} (n : ℕ) (f : ℕ → A) → tab (suc n) f ≡ tab n f ++ f n ∷ []
tab-more zero f = refl
tab-more (suc n) f = ap (λ l. f 0 ∷ l) (tab-more n (λ i. f (suc i)))

pub join_more {ℓ} : {A : Type ℓ} (n : ℕ) (f : ℕ → List A) → join (tab (suc n) f) ≡ join (tab n f) ++ f n
join_more zero f = append-nil (f 0)
join_more (suc n) f = ap (λ l. f 0 ++ l) (join_more n (λ i. f (suc i))) ∙ sym (append_assoc (f 0) (join (tab n (λ i. f (suc i)))) (f (suc n)))

pub take-tab {ℓ} : {A : Type ℓ} (n : ℕ) (xs : List A) (d : A) → n ≤ length xs → take n xs ≡ tab n (λ i. get_or xs i d)
take-tab zero xs d h = refl
take-tab (suc n) [] d h = absurd (omega arith)
take-tab (suc n) (x ∷ xs) d h = ap (λ l. x ∷ l) (take-tab n xs d (omega arith))

-- ---- from an index on
module _ {ℓ} {A : Type ℓ} (xs : List A) (at : ℕ) (f : ℕ → A) where
  length_head : (k : ℕ) → at + k ≤ length xs → length (take at xs ++ tab k f) ≡ at + k
  length_head k h = length-append (take at xs) (tab k f) ∙ omega (arith, length-take-le at xs (omega arith), length-tab k f)

  pub written-more : (k : ℕ) → at + k < length xs
      → set (take at xs ++ tab k f ++ drop (at + k) xs) (at + k) (f k) ≡ take at xs ++ tab (suc k) f ++ drop (at + suc k) xs
  written-more k h =
      let p : List A = take at xs ++ tab k f in
      let rest : List A = drop (suc (at + k)) xs in
      ap (λ (r : List A). set (p ++ r) (at + k) (f k)) (drop-cons xs (at + k) (f k) h)
      ∙ set_at p (get_or xs (at + k) (f k)) rest (f k) (at + k) (length_head k (omega arith))
      ∙ sym (append_snoc p (f k) rest)
      ∙ ap (λ (r : List A). r ++ rest) (append_assoc (take at xs) (tab k f) (f k ∷ []) ∙ ap (λ (r : List A). take at xs ++ r) (sym (tab-more k f)))
      ∙ ap (λ (n : ℕ). take at xs ++ tab (suc k) f ++ drop n xs) (sym (add-suc at k))

  pub length-written : (k : ℕ) → at + k ≤ length xs → length (take at xs ++ tab k f ++ drop (at + k) xs) ≡ length xs
  length-written k h =
      length-append (take at xs ++ tab k f) (drop (at + k) xs) ∙ omega (arith, length_head k h, length-drop (at + k) xs)

-- ---- from the front
module _ {ℓ} {A : Type ℓ} (xs : List A) (f : ℕ → A) where
  pub front-more : (k : ℕ) → k < length xs → set (tab k f ++ drop k xs) k (f k) ≡ tab (suc k) f ++ drop (suc k) xs
  front-more k h = rw (zero-add k, zero-add (suc k)) at (written-more xs 0 f k (omega arith))

  -- a turn of a loop
  pub front-turn : (k : ℕ) {a : List A} {x : A} → a ≡ tab k f ++ drop k xs → x ≡ f k → k < length xs → set a k x ≡ tab (k + 1) f ++ drop (k + 1) xs
  front-turn k e g h = rw (e, g, add-one k) (front-more k h)

  pub length_front : (k : ℕ) → k ≤ length xs → length (tab k f ++ drop k xs) ≡ length xs
  length_front k h = rw zero-add at (length-written xs 0 f k (omega arith))

  pub nth-filled : (n k : ℕ) (d : A) → k < n → get_or (tab n f ++ drop n xs) k d ≡ f k
  nth-filled n k d l = get_or-append (tab n f) (drop n xs) d k (omega (arith, length-tab n f)) ∙ nth-tab n f k d l

  pub nth_unfilled : (n k : ℕ) (d : A) → n ≤ k → get_or (tab n f ++ drop n xs) k d ≡ get_or xs k d
  nth_unfilled n k d l =
      let e : n + (k - length (tab n f)) ≡ k = omega (arith, length-tab n f) in
      nth-rest (tab n f) (drop n xs) k d (omega (arith, length-tab n f)) ∙ get_or-drop n xs (k - length (tab n f)) d ∙ ap (λ (i : ℕ). get_or xs i d) e

pub filled-front : {A : Type 0} (n : ℕ) (ys xs : List A) (d : A) → n ≤ length ys → tab n (λ i. get_or ys i d) ++ drop n xs ≡ filled (take n ys) xs
filled-front n ys xs d h = rw (length-take-le n ys h, take-tab n ys d h)
