-- The searches of rules/specs/Search: what each result means, as a view, so that a proof goes by cases on what was found; and the sum over columns.
use mathlib.Core.Path.{◌≡◌, refl, sym, ◌∙◌, ap, subst}
use mathlib.Core.Logic.{◌≢◌}
use mathlib.Core.Bool.{Bool, true, false, not, ◌&&◌}
use Prim.Native.Nat.{ℕ, zero, suc, ◌+◌, ◌*◌, ◌-◌, ◌≤◌, ◌<◌}
use native.Mathlib.Omega.{arith}
use native.Mathlib.Nat.{mul-suc}
use native.Mathlib.Decide.{ℕ_discrete}
use lib.Dec.{ltb}
use Rattle.whole.proofs.Tests.{Test, pass, fail, lt?, eq?, passed}
use Rattle.whole.proofs.Order.{below_suc}
use Rattle.rules.specs.Search.{Found, none, found, or_at, first, last, or_smaller, smallest, total, each}
use Rattle.rules.specs.Stages.{is_other}
use Rattle.rules.specs.Formulas.{is_none}

-- index c is one of lo to hi
pub record In (lo hi c : ℕ) : Type 0 where
  pub low : lo ≤ c
  pub high : c < hi

-- what holds of lo to c, and of c, holds of lo to c + 1
pub in_suc : {P : ℕ → Type 0} (lo c : ℕ) → ((d : ℕ) → In lo c d → P d) → P c → (d : ℕ) → In lo (suc c) d → P d
in_suc {P} lo c h k d i = below_suc P c k d (λ l. h d (omega arith)) i.high

-- ---- the first index where a test holds
abbrev pub Nowhere : (test : ℕ → Bool) (lo hi : ℕ) → Type 0
Nowhere test lo hi = (c : ℕ) → In lo hi c → test c ≡ false

pub data FirstIs (test : ℕ → Bool) (lo hi : ℕ) : Found → Type 0 where
  no_first : Nowhere test lo hi → FirstIs test lo hi none
  is_first : (j : ℕ) → In lo hi j → test j ≡ true → Nowhere test lo j → FirstIs test lo hi (found j)

module _ (test : ℕ → Bool) (lo : ℕ) where
  pub first_is_lem : (hi : ℕ) → FirstIs test lo hi (first test lo hi)
  unfolding first
  first_is_lem zero = no_first (λ c i. absurd (omega arith))
  first_is_lem (suc c) = go (lt? c lo) (first_is_lem c)
    where
      at : (b : Bool) → test c ≡ b → lo ≤ c → Nowhere test lo c → FirstIs test lo (suc c) (elim b [ true ↦ found c | false ↦ none ])
      at true e h z = is_first c (omega arith) e z
      at false e h z = no_first (in_suc lo c z e)

      go : {b : Bool} {x : Found} → Test (c < lo) (lo ≤ c) b → FirstIs test lo c x → FirstIs test lo (suc c) (elim b [ true ↦ none | false ↦ or_at test c x ])
      go (pass h) y = no_first (λ d i. absurd (omega arith))
      go (fail h) (no_first z) = at (test c) refl h z
      go (fail h) (is_first j i e z) = is_first j (omega arith) e z

-- there is none exactly where the test holds nowhere
pub none? : (test : ℕ → Bool) (lo hi : ℕ) → Test (Nowhere test lo hi) ((c : ℕ) × In lo hi c × (test c ≡ true)) (is_none (first test lo hi))
none? test lo hi = go (first_is_lem test lo hi)
  where
    go : {x : Found} → FirstIs test lo hi x → Test (Nowhere test lo hi) ((c : ℕ) × In lo hi c × (test c ≡ true)) (is_none x)
    go (no_first z) = pass z
    go (is_first j i e z) = fail (j, i, e)

-- the test of (A)'s second search
pub is_other_lem : (f : ℕ → ℕ) (p c : ℕ) → Test ((c ≢ p) × (f c ≢ 0)) (c ≢ p → f c ≡ 0) (is_other f p c)
is_other_lem f p c = go (eq? c p) (eq? (f c) 0)
  where
    go : {b d : Bool} → Test (c ≡ p) (c ≢ p) b → Test (f c ≡ 0) (f c ≢ 0) d → Test ((c ≢ p) × (f c ≢ 0)) (c ≢ p → f c ≡ 0) (not b && not d)
    go (pass e) y = fail (λ n. absurd (n e))
    go (fail n) (pass e) = fail (λ _. e)
    go (fail n) (fail m) = pass (n, m)

-- ---- the last index where a test holds
pub data LastIs (test : ℕ → Bool) (hi : ℕ) : Found → Type 0 where
  no_last : ((k : ℕ) → k < hi → test k ≡ false) → LastIs test hi none
  is_last : (r : ℕ) → r < hi → test r ≡ true → ((k : ℕ) → r < k → k < hi → test k ≡ false) → LastIs test hi (found r)

module _ (test : ℕ → Bool) where
  pub last_is : (hi : ℕ) → LastIs test hi (last test hi)
  unfolding last
  last_is zero = no_last (λ k h. absurd (omega arith))
  last_is (suc c) = go (test c) refl (last_is c)
    where
      more : {x : Found} → test c ≡ false → LastIs test c x → LastIs test (suc c) x
      more e (no_last z) = no_last (λ k h. below_suc (λ k. test k ≡ false) c e k (z k) h)
      more e (is_last r h t z) = is_last r (omega arith) t (λ k l g. below_suc (λ k. test k ≡ false) c e k (z k l) g)

      go : {x : Found} (b : Bool) → test c ≡ b → LastIs test c x → LastIs test (suc c) (elim b [ true ↦ found c | false ↦ x ])
      go true e y = is_last c (omega arith) e (λ k h g. absurd (omega arith))
      go false e y = more e y

-- ---- the index where f is smallest and not 0, the lowest on a tie
pub record Smallest (f : ℕ → ℕ) (lo hi p : ℕ) : Type 0 where
  pub within : In lo hi p
  pub filled : f p ≢ 0
  pub least : (c : ℕ) → In lo hi c → f c ≢ 0 → f p ≤ f c
  pub lowest : (c : ℕ) → In lo p c → f c ≢ 0 → f p < f c

pub data SmallestIs (f : ℕ → ℕ) (lo hi : ℕ) : Found → Type 0 where
  all-zero : ((c : ℕ) → In lo hi c → f c ≡ 0) → SmallestIs f lo hi none
  is_smallest : (p : ℕ) → Smallest f lo hi p → SmallestIs f lo hi (found p)

module _ (f : ℕ → ℕ) (lo : ℕ) where
  pub smallest_is : (hi : ℕ) → SmallestIs f lo hi (smallest f lo hi)
  unfolding smallest
  smallest_is zero = all-zero (λ c i. absurd (omega arith))
  smallest_is (suc c) = go (lt? c lo) (smallest_is c)
    where
      only : {b : Bool} → lo ≤ c → ((d : ℕ) → In lo c d → f d ≡ 0) → Test (f c ≡ 0) (f c ≢ 0) b
          → SmallestIs f lo (suc c) (elim b [ true ↦ none | false ↦ found c ])
      only h z (pass e) = all-zero (in_suc lo c z e)
      only h z (fail n) = is_smallest c (record {
        within = omega arith;
        filled = n;
        least = in_suc lo c (λ d i m. absurd (m (z d i))) (λ m. omega arith);
        lowest = λ d i m. absurd (m (z d i));
      })

      kept : (p : ℕ) → Smallest f lo c p → (f c ≢ 0 → f p ≤ f c) → SmallestIs f lo (suc c) (found p)
      kept p s h = is_smallest p (record {
        within = omega (arith, s.within.low, s.within.high);
        filled = s.filled;
        least = in_suc lo c s.least h;
        lowest = s.lowest;
      })

      less : {b : Bool} (p : ℕ) → lo ≤ c → f c ≢ 0 → Smallest f lo c p → Test (f c < f p) (f p ≤ f c) b
          → SmallestIs f lo (suc c) (elim b [ true ↦ found c | false ↦ found p ])
      less p h n s (pass e) = is_smallest c (record {
        within = omega arith;
        filled = n;
        least = in_suc lo c (λ d k x. omega (arith, s.least d k x)) (λ x. omega arith);
        lowest = λ d k x. omega (arith, s.least d k x);
      })
      less p h n s (fail e) = kept p s (λ _. e)

      then : {b : Bool} (p : ℕ) → lo ≤ c → Smallest f lo c p → Test (f c ≡ 0) (f c ≢ 0) b
          → SmallestIs f lo (suc c) (elim b [ true ↦ found p | false ↦ elim (ltb (f c) (f p)) [ true ↦ found c | false ↦ found p ] ])
      then p h s (pass e) = kept p s (λ n. absurd (n e))
      then p h s (fail n) = less p h n s (lt? (f c) (f p))

      go : {b : Bool} {x : Found} → Test (c < lo) (lo ≤ c) b → SmallestIs f lo c x
          → SmallestIs f lo (suc c) (elim b [ true ↦ none | false ↦ or_smaller f c x ])
      go (pass h) y = all-zero (λ d i. absurd (omega arith))
      go (fail h) (all-zero z) = only h z (eq? (f c) 0)
      go (fail h) (is_smallest p s) = then p h s (eq? (f c) 0)

-- it is one only
pub smallest_found : (f : ℕ → ℕ) (lo hi p : ℕ) → Smallest f lo hi p → smallest f lo hi ≡ found p
smallest_found f lo hi p l = go (smallest_is f lo hi)
  where
    same : (i : ℕ) → Smallest f lo hi i → {b b' : Bool} → Test (i < p) (p ≤ i) b → Test (p < i) (i ≤ p) b' → i ≡ p
    same i s (pass h) t = absurd (omega (arith, l.lowest i (omega (arith, s.within.low)) s.filled, s.least p l.within l.filled))
    same i s (fail h) (pass g) = absurd (omega (arith, s.lowest p (omega (arith, l.within.low)) l.filled, l.least i s.within s.filled))
    same i s (fail h) (fail g) = omega arith

    go : {x : Found} → SmallestIs f lo hi x → x ≡ found p
    go (all-zero z) = absurd (l.filled (z p l.within))
    go (is_smallest i s) = ap found (same i s (lt? i p) (lt? p i))

pub smallest-none : (f : ℕ → ℕ) (lo hi : ℕ) → ((c : ℕ) → In lo hi c → f c ≡ 0) → smallest f lo hi ≡ none
smallest-none f lo hi z = go (smallest_is f lo hi)
  where
    go : {x : Found} → SmallestIs f lo hi x → x ≡ none
    go (all-zero _) = refl
    go (is_smallest p s) = absurd (s.filled (z p s.within))

-- ---- from the result, as an equation: what is found is there, and what is not found is nowhere
not_none : {j : ℕ} → none ≡ found j → ⊥
not_none e = let o : ◌≡◌ {A = ℕ} 0 1 = cc in omega arith

module _ (test : ℕ → Bool) (lo hi : ℕ) where
  pub first_there : (j : ℕ) → first test lo hi ≡ found j → In lo hi j × (test j ≡ true)
  first_there j e = go (first_is_lem test lo hi) e
    where
      go : {x : Found} → FirstIs test lo hi x → x ≡ found j → In lo hi j × (test j ≡ true)
      go (no_first z) y = absurd (not_none y)
      go (is_first i w t z) y = let k : i ≡ j = cc in rw (← k) (w, t)

  pub first_nowhere : first test lo hi ≡ none → Nowhere test lo hi
  first_nowhere e = passed (none? test lo hi) (ap is_none e)

pub last_there : (test : ℕ → Bool) (hi r : ℕ) → last test hi ≡ found r → test r ≡ true
last_there test hi r e = go (last_is test hi) e
  where
    go : {x : Found} → LastIs test hi x → x ≡ found r → test r ≡ true
    go (no_last z) y = absurd (not_none y)
    go (is_last i h t z) y = let k : i ≡ r = cc in rw (← k) t

module _ (f : ℕ → ℕ) (lo hi : ℕ) where
  pub smallest-there : (p : ℕ) → smallest f lo hi ≡ found p → Smallest f lo hi p
  smallest-there p e = go (smallest_is f lo hi) e
    where
      go : {x : Found} → SmallestIs f lo hi x → x ≡ found p → Smallest f lo hi p
      go (all-zero z) y = absurd (not_none y)
      go (is_smallest i s) y = let k : i ≡ p = cc in rw (← k) s

  pub smallest-nowhere : smallest f lo hi ≡ none → (c : ℕ) → In lo hi c → f c ≡ 0
  smallest-nowhere e c i = go (smallest_is f lo hi) e
    where
      go : {x : Found} → SmallestIs f lo hi x → x ≡ none → f c ≡ 0
      go (all-zero z) y = z c i
      go (is_smallest p s) y = absurd (not_none (sym y))

-- ---- a search reads only the indices that it goes through
pub first_cong : (f g : ℕ → Bool) (lo hi : ℕ) → ((c : ℕ) → In lo hi c → f c ≡ g c) → first f lo hi ≡ first g lo hi
unfolding first
first_cong f g lo zero h = refl
first_cong f g lo (suc c) h = go (lt? c lo) (first_cong f g lo c (λ d i. h d (omega arith)))
  where
    at : (x : Found) → f c ≡ g c → or_at f c x ≡ or_at g c x
    at (found j) e = refl
    at none e = ap (λ (b : Bool). elim b as (λ _. Found) [ true ↦ found c | false ↦ none ]) e

    go : {b : Bool} → Test (c < lo) (lo ≤ c) b → first f lo c ≡ first g lo c
        → ◌≡◌ {A = Found} (elim b [ true ↦ none | false ↦ or_at f c (first f lo c) ]) (elim b [ true ↦ none | false ↦ or_at g c (first g lo c) ])
    go (pass k) e = refl
    go (fail k) e = at (first f lo c) (h c (omega arith)) ∙ ap (or_at g c) e

pub last_cong : (f g : ℕ → Bool) (hi : ℕ) → ((c : ℕ) → c < hi → f c ≡ g c) → last f hi ≡ last g hi
unfolding last
last_cong f g zero h = refl
last_cong f g (suc c) h = ap (λ (b : Bool). elim b as (λ _. Found) [ true ↦ found c | false ↦ last f c ]) (h c (omega arith))
    ∙ ap (λ (x : Found). elim (g c) as (λ _. Found) [ true ↦ found c | false ↦ x ]) (last_cong f g c (λ d l. h d (omega arith)))

pub smallest_cong : (f g : ℕ → ℕ) (lo hi : ℕ) → ((c : ℕ) → In lo hi c → f c ≡ g c) → smallest f lo hi ≡ smallest g lo hi
smallest_cong f g lo hi h = go (smallest_is g lo hi)
  where
    go : {x : Found} → SmallestIs g lo hi x → smallest f lo hi ≡ x
    go (all-zero z) = smallest-none f lo hi (λ c i. h c i ∙ z c i)
    go (is_smallest p s) = smallest_found f lo hi p (record {
      within = s.within;
      filled = λ e. s.filled (sym (h p s.within) ∙ e);
      least = λ c i d. omega (arith, h p s.within, h c i, s.least c i (λ e. d (h c i ∙ e)));
      lowest = λ c i d.
          let j : In lo hi c = omega (arith, s.within.high) in
          omega (arith, h p s.within, h c j, s.lowest c i (λ e. d (h c j ∙ e)));
    })

-- ---- the sum over lo to hi
module _ (lo : ℕ) where
  pub total_cong : (f g : ℕ → ℕ) (hi : ℕ) → ((c : ℕ) → In lo hi c → g c ≡ f c) → total g lo hi ≡ total f lo hi
  unfolding total
  total_cong f g zero h = refl
  total_cong f g (suc c) h = go (lt? c lo) (λ k. total_cong f g c (λ d i. h d (omega arith)))
    where
      go : {b : Bool} → Test (c < lo) (lo ≤ c) b → (lo ≤ c → total g lo c ≡ total f lo c)
          → ◌≡◌ {A = ℕ} (elim b [ true ↦ 0 | false ↦ total g lo c + g c ]) (elim b [ true ↦ 0 | false ↦ total f lo c + f c ])
      go (pass k) r = refl
      go (fail k) r = omega (arith, r k, h c (omega arith))

  pub total-le : (f : ℕ → ℕ) (most hi : ℕ) → ((c : ℕ) → In lo hi c → f c ≤ most) → total f lo hi ≤ most * (hi - lo)
  unfolding total
  total-le f most zero h = omega arith
  total-le f most (suc c) h = go (lt? c lo) (total-le f most c (λ d i. h d (omega arith)))
    where
      go : {b : Bool} → Test (c < lo) (lo ≤ c) b → total f lo c ≤ most * (c - lo)
          → ◌≤◌ (elim b [ true ↦ 0 | false ↦ total f lo c + f c ]) (most * (suc c - lo))
      go (pass k) r = omega arith
      go (fail k) r =
          let e : suc c - lo ≡ suc (c - lo) = omega arith in
          rw e (omega (arith, h c (omega arith), mul-suc most (c - lo)))

  pub at_most-total : (f : ℕ → ℕ) (hi c : ℕ) → In lo hi c → f c ≤ total f lo hi
  unfolding total
  at_most-total f zero c i = absurd (omega arith)
  at_most-total f (suc d) c i = go (lt? d lo) (ℕ_discrete c d) (at_most-total f d c)
    where
      go : {b : Bool} → Test (d < lo) (lo ≤ d) b → Dec (c ≡ d) → (In lo d c → f c ≤ total f lo d)
          → ◌≤◌ (f c) (elim b [ true ↦ 0 | false ↦ total f lo d + f d ])
      go (pass h) e r = absurd (omega arith)
      go (fail h) (yes e) r = omega (arith, ap f e)
      go (fail h) (no e) r = omega (arith, r (omega arith))

  -- less at one index, the same at the others
  pub total-less : (f g : ℕ → ℕ) (hi j : ℕ) → In lo hi j → g j < f j → ((c : ℕ) → In lo hi c → j ≢ c → g c ≡ f c) → total g lo hi < total f lo hi
  unfolding total
  total-less f g zero j i l h = absurd (omega arith)
  total-less f g (suc c) j i l h = go (lt? c lo) (ℕ_discrete j c) (λ k. total-less f g c j k l (λ d x. h d (omega arith)))
    where
      go : {b : Bool} → Test (c < lo) (lo ≤ c) b → Dec (j ≡ c) → (In lo c j → total g lo c < total f lo c)
          → ◌<◌ (elim b [ true ↦ 0 | false ↦ total g lo c + g c ]) (elim b [ true ↦ 0 | false ↦ total f lo c + f c ])
      go (pass k) e r = absurd (omega arith)
      go (fail k) (yes e) r = omega (arith, total_cong f g c (λ d x. h d (omega arith) (omega arith)), subst (λ (z : ℕ). g z < f z) e l)
      go (fail k) (no e) r = omega (arith, r (omega arith), h c (omega arith) e)

-- ---- a step at each index
-- what holds before the first index of lo to hi, and is handed on at each, holds after the last
pub each_holds : {S : Type 0} (Q : ℕ → S → Type 0) (f : ℕ → S → S) (lo hi : ℕ) (s : S) → lo ≤ hi → Q lo s
    → ((c : ℕ) (u : S) → In lo hi c → Q c u → Q (suc c) (f c u))
    → Q hi (each f lo hi s)
unfolding each
each_holds Q f lo zero s h q g = let e : lo ≡ 0 = omega arith in rw (← e) q
each_holds {S} Q f lo (suc c) s h q g = go (lt? c lo) (λ k. each_holds Q f lo c s k q (λ d u i. g d u (omega arith)))
  where
    go : {b : Bool} → Test (c < lo) (lo ≤ c) b → (lo ≤ c → Q c (each f lo c s)) → Q (suc c) (elim b as (λ _. S) [ true ↦ s | false ↦ f c (each f lo c s) ])
    go (pass k) r = let e : suc c ≡ lo = omega arith in rw e q
    go (fail k) r = g c (each f lo c s) (omega arith) (r k)

-- what each step keeps, all keep
pub each_keeps : {S : Type 0} (Q : S → Type 0) (f : ℕ → S → S) → ((c : ℕ) (s : S) → Q s → Q (f c s)) → (lo hi : ℕ) (s : S) → Q s → Q (each f lo hi s)
unfolding each
each_keeps Q f h lo zero s q = q
each_keeps {S} Q f h lo (suc c) s q = go (ltb c lo) (each_keeps Q f h lo c s q)
  where
    go : (b : Bool) → Q (each f lo c s) → Q (elim b as (λ _. S) [ true ↦ s | false ↦ f c (each f lo c s) ])
    go true r = q
    go false r = h c (each f lo c s) r
