-- The exchange of two indices i and j, by which two columns (or rows) of a matrix change places.
use mathlib.Core.Path.{◌≡◌, refl, sym, ◌∙◌, ap}
use mathlib.Core.Logic.{◌≢◌}
use mathlib.Core.Bool.{cond}
use Prim.Native.Nat.{ℕ, ◌<◌}
use native.Mathlib.Decide.{ℕ_discrete}
use lib.Dec.{eqb}
use Rattle.whole.specs.Matrix.{δ}
use borrow.Author.Tests.{eq-eqb, ne_eqb}
use Rattle.whole.proofs.Sum.{δ-same, δ-diff}

-- where c goes
unfoldable pub tr : ℕ → ℕ → ℕ → ℕ
tr i j c = cond (eqb i c) j (cond (eqb j c) i c)

-- which of the two c is
pub data Which (i j c : ℕ) : Type 0 where
  first : i ≡ c → Which i j c
  second : i ≢ c → j ≡ c → Which i j c
  neither : i ≢ c → j ≢ c → Which i j c

pub which? : (i j c : ℕ) → Which i j c
which? i j c = go (ℕ_discrete i c) (ℕ_discrete j c)
  where
    go : Dec (i ≡ c) → Dec (j ≡ c) → Which i j c
    go (yes e) y = first e
    go (no d) (yes e) = second d e
    go (no d) (no f) = neither d f

pub tr_first : (i j : ℕ) → tr i j i ≡ j
unfolding tr
tr_first i j = rw (eq-eqb i i refl)

pub tr-second : (i j : ℕ) → tr i j j ≡ i
unfolding tr
tr-second i j = go (ℕ_discrete i j)
  where
    go : Dec (i ≡ j) → cond (eqb i j) j (cond (eqb j j) i j) ≡ i
    go (yes e) = rw (e, eq-eqb j j refl)
    go (no d) = rw (ne_eqb i j d, eq-eqb j j refl)

pub tr-neither : (i j c : ℕ) → i ≢ c → j ≢ c → tr i j c ≡ c
unfolding tr
tr-neither i j c d e = rw (ne_eqb i c d, ne_eqb j c e)

pub tr-tr : (i j c : ℕ) → tr i j (tr i j c) ≡ c
tr-tr i j c = go (which? i j c)
  where
    go : Which i j c → tr i j (tr i j c) ≡ c
    go (first e) = rw (← e, tr_first i j) (tr-second i j)
    go (second d e) = rw (← e, tr-second i j) (tr_first i j)
    go (neither d e) = rw (tr-neither i j c d e) (tr-neither i j c d e)

pub tr-lt : (n i j c : ℕ) → i < n → j < n → c < n → tr i j c < n
tr-lt n i j c hi hj hc = go (which? i j c)
  where
    go : Which i j c → tr i j c < n
    go (first e) = rw (← e, tr_first i j) hj
    go (second d e) = rw (← e, tr-second i j) hi
    go (neither d e) = rw (tr-neither i j c d e) hc

pub δ-tr : (i j r c : ℕ) → δ (tr i j r) c ≡ δ r (tr i j c)
δ-tr i j r c = go (ℕ_discrete (tr i j r) c)
  where
    go : Dec (tr i j r ≡ c) → δ (tr i j r) c ≡ δ r (tr i j c)
    go (yes e) = rw (← e, tr-tr i j r) (δ-same (tr i j r) ∙ sym (δ-same r))
    go (no d) = δ-diff (tr i j r) c d ∙ sym (δ-diff r (tr i j c) (λ e. d (ap (λ k. tr i j k) e ∙ tr-tr i j c)))
