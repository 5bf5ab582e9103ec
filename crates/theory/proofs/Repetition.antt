-- One repetition of (A) as code meets it: what (A) does next is read off the two searches, and after a step the next p is known without a search.
use mathlib.Core.Path.{◌≡◌, sym, ◌∙◌, ap}
use mathlib.Core.Logic.{◌≢◌}
use mathlib.Core.Bool.{Bool, cond}
use Prim.Native.Nat.{ℕ, ◌≤◌, ◌<◌}
use native.Mathlib.Omega.{arith}
use native.Mathlib.Decide.{ℕ_discrete}
use lib.Dec.{eqb}
use lib.IntN.{ℤ, neg_ℤ, nat_abs}
use lib.Signed.{quot_z}
use Rattle.whole.proofs.Tests.{Test, pass, fail, eq?}
use Rattle.whole.proofs.Order.{abs_neg}
use Rattle.whole.proofs.Division.{quot_le}
use Rattle.rules.specs.Search.{none, found, smallest}
use Rattle.rules.specs.Steps.{State, Table, get, add_step}
use Rattle.rules.specs.Stages.{size, pivot_column, other_column, done, adds, next}
use Rattle.theory.proofs.Search.{Smallest, smallest_found}
use Rattle.theory.proofs.Eliminate.{Adds, next_means, size_off, size_less}

-- ---- what is next, from the searches
module _ (tb : Table) (lo a k : ℕ) (u : State) where
  pub next-adds : (p j : ℕ) → pivot_column tb lo a k u ≡ found p → other_column tb lo a k p u ≡ found j
      → next tb lo a k u ≡ adds p j (neg_ℤ (quot_z (get tb u k j) (get tb u k p)))
  unfolding next
  next-adds p j e g = rw (e, g)

  pub next-done : (p : ℕ) → pivot_column tb lo a k u ≡ found p → other_column tb lo a k p u ≡ none → next tb lo a k u ≡ done
  unfolding next
  next-done p e g = rw (e, g)

  -- ---- after a step
  module _ (p j : ℕ) (q : ℤ) (e : next tb lo a k u ≡ adds p j q) where
    pub adds_is : Adds tb lo a k u p j q
    adds_is = rw e at (next_means tb lo a k u)

    pub quotient-small : nat_abs q ≤ size tb u k j
    unfolding size
    quotient-small = rw adds_is.quotient (omega (arith, abs_neg (quot_z (get tb u k j) (get tb u k p)), quot_le (get tb u k j) (get tb u k p)))

    -- the next p: the column changed, or the same again
    pub pivot-after : pivot_column tb lo a k (add_step p j q u) ≡ found (cond (eqb (size tb (add_step p j q u) k j) 0) p j)
    pivot-after = go (eq? (f j) 0)
      where
        f : ℕ → ℕ
        f = size tb (add_step p j q u) k

        g : ℕ → ℕ
        g = size tb u k

        s : Smallest g lo a p
        s = adds_is.pivot

        less : f j < g p
        less = size_less tb lo a k u p j q adds_is

        same : f p ≡ g p
        same = size_off tb k u p j q p (λ d. adds_is.apart (sym d))

        by : (c : ℕ) {x : Type 0} → Dec (j ≡ c) → (j ≡ c → x) → (f c ≡ g c → x) → x
        by c (yes e) l r = l e
        by c (no d) l r = r (size_off tb k u p j q c d)

        go : {b : Bool} → Test (f j ≡ 0) (f j ≢ 0) b → smallest f lo a ≡ found (cond b p j)
        go (pass z) = smallest_found f lo a p (record {
          within = s.within;
          filled = λ x. s.filled (sym same ∙ x);
          least = λ c i h. by c (ℕ_discrete j c) (λ d. absurd (h (ap f (sym d) ∙ z))) (λ d. omega (arith, d, same, s.least c i (λ x. h (d ∙ x))));
          lowest = λ c i h. by c (ℕ_discrete j c) (λ d. absurd (h (ap f (sym d) ∙ z))) (λ d. omega (arith, d, same, s.lowest c i (λ x. h (d ∙ x))));
        })
        go (fail m) = smallest_found f lo a j (record {
          within = adds_is.active;
          filled = m;
          least = λ c i h. by c (ℕ_discrete j c) (λ d. omega (arith, ap f d)) (λ d. omega (arith, d, less, s.least c i (λ x. h (d ∙ x))));
          lowest = λ c i h. by c (ℕ_discrete j c) (λ d. absurd (omega (arith, i.high)))
              (λ d. omega (arith, d, less, s.least c (omega (arith, adds_is.active.high)) (λ x. h (d ∙ x))));
        })
