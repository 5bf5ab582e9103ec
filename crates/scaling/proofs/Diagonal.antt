-- 1 written on the diagonal of a list that holds n by n entries, row after row.
use mathlib.Core.Path.{◌≡◌, sym, ◌∙◌}
use mathlib.Core.Logic.{◌≢◌}
use mathlib.Core.List.{List}
use Prim.Native.Nat.{ℕ, ◌+◌, ◌*◌, ◌≤◌, ◌<◌}
use native.Mathlib.Omega.{arith}
use native.Mathlib.Decide.{ℕ_discrete}
use borrow.Author.Count.{below_more}
use lib.Arith.{digits_lt}
use lib.ListN.{length, set, length-set}
use lib.Seq.{get_or-set_same, get_or-set_other}
use lib.IntN.{ℤ, pos}
use Rattle.whole.specs.Lists.{nth}
use Rattle.whole.specs.Matrix.{δ}
use Rattle.whole.proofs.Lists.{place-row, place_col}
use Rattle.whole.proofs.Sum.{δ-same, δ-diff}
use Rattle.scaling.specs.Problem.{HoldsIdentity}

-- the first i entries of the diagonal are 1, and all others as they were
pub record Diagonal (n i : ℕ) (a a₀ : List ℤ) : Type 0 where
  pub ones : (r : ℕ) → r < i → nth a (r * n + r) ≡ pos 1
  pub others : (p : ℕ) → ((k : ℕ) → k < i → p ≢ k * n + k) → nth a p ≡ nth a₀ p
  pub same : length a ≡ length a₀

pub diagonal-more : (n i : ℕ) {a a₀ : List ℤ} → Diagonal n i a a₀ → i < n → n * n ≤ length a₀ → Diagonal n (i + 1) (set a (i * n + i) (pos 1)) a₀
diagonal-more n i {a} d l fits = record {
  ones = below_more _ _
      (λ r b. get_or-set_other a (i * n + i) (r * n + r) (pos 1) (pos 0) (λ e. omega (arith, place-row n r r i i (omega arith) l e)) ∙ d.ones r b)
      (get_or-set_same a (i * n + i) (pos 1) (pos 0) (omega (arith, d.same, digits_lt {q = i} {m = n} {r = i} {c = n} l l)));
  others = λ p h. get_or-set_other a (i * n + i) p (pos 1) (pos 0) (h i (omega arith)) ∙ d.others p (λ k b. h k (omega arith));
  same = rw length-set d.same;
}

pub diagonal-holds : (n : ℕ) {a a₀ : List ℤ} → Diagonal n n a a₀ → HoldsIdentity n a a₀
diagonal-holds n {a} {a₀} d = record {
  entries = λ z i j hi hj. go z i j hi hj (ℕ_discrete i j);
  rest = λ k h. d.others k (λ i l. omega (arith, digits_lt {q = i} {m = n} {r = i} {c = n} l l));
  same = d.same;
}
  where
    go : ((k : ℕ) → nth a₀ k ≡ pos 0) → (i j : ℕ) → i < n → j < n → Dec (i ≡ j) → nth a (i * n + j) ≡ δ i j
    go z i j hi hj (yes e) = rw (← e) (d.ones i hi ∙ sym (δ-same i))
    go z i j hi hj (no f) =
        d.others (i * n + j) (λ k l e. f (place-row n i j k k hj l e ∙ sym (place_col n i j k k hj l e)))
        ∙ z (i * n + j) ∙ sym (δ-diff i j f)
