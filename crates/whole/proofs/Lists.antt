-- Lists read at an index: those that tab and join of specs/Lists make, and those that hold a table row after row, entry (r, c) of width w at index r * w + c.
-- Stated with get_or and any default d; nth is get_or at the default 0. The kit has already:
--     lib.ListN   get_or-append (the first part of ++), get_or-eq_default (past the end), get_or-map (so nth of `map neg_ℤ xs`: neg_ℤ (pos 0) is pos 0)
--     lib.Seq     get_or-append-add (the second part of ++), get_or-set_same and get_or-set_other, ext_get_or (two lists equal by their entries)
--     lib.Arith   digits_lt (r * w + c is below n * w), digits_div and digits_mod (r and c of r * w + c)
use mathlib.Core.Path.{◌≡◌, refl, sym, ◌∙◌, ap, ap₂}
use mathlib.Core.List.{List, [], ◌∷◌, ◌++◌, map}
use Prim.Native.Nat.{ℕ, zero, suc, ◌+◌, ◌*◌, ◌-◌, ◌/◌, ◌%◌, ◌≤◌, ◌<◌}
use native.Mathlib.Omega.{arith}
use native.Mathlib.Nat.{div-add-mod', mod-lt, div-lt_iff_lt-mul}
use lib.Arith.{digits_div, digits_mod}
use lib.ListN.{length, get_or, replicate, length-append, get_or-append}
use lib.Seq.{get_or-append-add, ext_get_or}
use Rattle.whole.specs.Lists.{tab, join}

pub length-tab {ℓ} : {A : Type ℓ} (n : ℕ) (f : ℕ → A) → length (tab n f) ≡ n
length-tab zero f = refl
length-tab (suc n) f = ap suc (length-tab n (λ i. f (suc i)))

pub nth-tab {ℓ} : {A : Type ℓ} (n : ℕ) (f : ℕ → A) (i : ℕ) (d : A) → i < n → get_or (tab n f) i d ≡ f i
nth-tab zero f i d h = absurd (omega arith)
nth-tab (suc n) f zero d h = refl
nth-tab (suc n) f (suc i) d h = nth-tab n (λ i. f (suc i)) i d (omega arith)

pub tab-cong {ℓ} : {A : Type ℓ} (n : ℕ) (f g : ℕ → A) → ((i : ℕ) → i < n → f i ≡ g i) → tab n f ≡ tab n g
tab-cong zero f g h = refl
tab-cong (suc n) f g h = ap₂ ◌∷◌ (h 0 (omega arith)) (tab-cong n (λ i. f (suc i)) (λ i. g (suc i)) (λ i l. h (suc i) (omega arith)))

-- one value throughout, also as the default
pub nth-replicate {ℓ} : {A : Type ℓ} (n : ℕ) (a : A) (i : ℕ) → get_or (replicate n a) i a ≡ a
nth-replicate zero a i = refl
nth-replicate (suc n) a zero = refl
nth-replicate (suc n) a (suc i) = nth-replicate n a i

-- get_or-map of lib.ListN, for an index in the list and any two defaults
pub get_d_map {ℓ κ} : {A : Type ℓ} {B : Type κ} (f : A → B) (xs : List A) (i : ℕ) (a : A) (b : B) → i < length xs
    → get_or (map f xs) i b ≡ f (get_or xs i a)
get_d_map f [] i a b h = absurd (omega arith)
get_d_map f (x ∷ xs) zero a b h = refl
get_d_map f (x ∷ xs) (suc i) a b h = get_d_map f xs i a b (omega arith)

-- the second part of ++, by the index in the whole
pub nth-rest {ℓ} : {A : Type ℓ} (xs ys : List A) (i : ℕ) (d : A) → length xs ≤ i → get_or (xs ++ ys) i d ≡ get_or ys (i - length xs) d
nth-rest xs ys i d h =
    let e : i ≡ length xs + (i - length xs) = omega arith in
    ap (λ (k : ℕ). get_or (xs ++ ys) k d) e ∙ get_or-append-add xs ys (i - length xs) d

-- ---- m lists of length n, one after the other
pub length-join {ℓ} : {A : Type ℓ} (n m : ℕ) (f : ℕ → List A) → ((i : ℕ) → i < m → length (f i) ≡ n) → length (join (tab m f)) ≡ m * n
length-join n zero f h = omega arith
length-join n (suc m) f h = length-append (f 0) (join (tab m (λ i. f (suc i))))
    ∙ omega (arith, h 0 (omega arith), length-join n m (λ i. f (suc i)) (λ i l. h (suc i) (omega arith)))

pub join-at {ℓ} : {A : Type ℓ} (n m : ℕ) (f : ℕ → List A) (d : A) → ((i : ℕ) → i < m → length (f i) ≡ n)
    → (r c : ℕ) → r < m → c < n → get_or (join (tab m f)) (r * n + c) d ≡ get_or (f r) c d
join-at n zero f d h r c l k = absurd (omega arith)
join-at n (suc m) f d h zero c l k =
    let e : 0 * n + c ≡ c = omega arith in
    rw e (get_or-append (f 0) (join (tab m (λ i. f (suc i)))) d c (omega (arith, h 0 l)))
join-at n (suc m) f d h (suc r) c l k =
    let e : suc r * n + c ≡ length (f 0) + (r * n + c) = omega (arith, h 0 (omega arith)) in
    rw e (get_or-append-add (f 0) (join (tab m (λ i. f (suc i)))) (r * n + c) d)
    ∙ join-at n m (λ i. f (suc i)) d (λ i b. h (suc i) (omega arith)) r c (omega arith) k

-- ---- tables, row after row
-- two places are one only if their rows are and their columns are
pub place-row : (w r c r' c' : ℕ) → c < w → c' < w → r * w + c ≡ r' * w + c' → r ≡ r'
place-row w r c r' c' h h' e = sym (digits_div r h) ∙ ap (λ (z : ℕ). z / w) e ∙ digits_div r' h'

pub place_col : (w r c r' c' : ℕ) → c < w → c' < w → r * w + c ≡ r' * w + c' → c ≡ c'
place_col w r c r' c' h h' e = sym (digits_mod r h) ∙ ap (λ (z : ℕ). z % w) e ∙ digits_mod r' h'

pub lists-same {ℓ} : {A : Type ℓ} (n w : ℕ) (xs ys : List A) (d : A) → length xs ≡ n * w → length ys ≡ n * w
    → ((r c : ℕ) → r < n → c < w → get_or xs (r * w + c) d ≡ get_or ys (r * w + c) d) → xs ≡ ys
lists-same n zero xs ys d lx ly h = ext_get_or d xs ys (omega arith) (λ k l. absurd (omega arith))
lists-same n (suc w) xs ys d lx ly h = ext_get_or d xs ys (omega arith)
    (λ k l. rw (div-add-mod' k (suc w)) at (h (k / suc w) (k % suc w)
    ((div-lt_iff_lt-mul {k = suc w} {x = k} {y = n} (omega arith)).1 (omega arith)) (mod-lt k (omega arith))))
