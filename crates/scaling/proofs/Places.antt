-- Places in a flat list: of a table that stands row after row, entry (r, c) of n columns at index c + r * n; which places are apart, and where a turned entry stood.
use mathlib.Core.Path.{◌≡◌, ap, sym, ◌∙◌}
use mathlib.Core.Logic.{◌≢◌}
use mathlib.Core.Bool.{Bool}
use Prim.Native.Nat.{ℕ, ◌+◌, ◌*◌, ◌/◌, ◌%◌, ◌<◌, ◌≤◌}
use native.Mathlib.Nat.{mul-lt-mul_of_pos_right, le_refl, mod-lt, mod-eq_of_lt, div-eq_of_lt, div-add-mod'}
use native.Mathlib.Nat.{add-mul-mod_self_right, add-mul-div_right}
use native.Mathlib.Omega.{arith}
use Rattle.whole.proofs.Tests.{Test, pass, fail, lt?}
use Rattle.whole.proofs.Order.{row_within}
use Rattle.scaling.specs.Strided.{rotate_from}

pub cell : {j n k m : ℕ} → j < n → k < m → j + k * n < m * n
cell {j} {n} {k} {m} hj hk = omega (arith, row_within k n m n hk (le_refl n))

column_of : (j k n : ℕ) → j < n → (j + k * n) % n ≡ j
column_of j k n h = add-mul-mod_self_right j k n ∙ mod-eq_of_lt h

row_of : (j k n : ℕ) → j < n → (j + k * n) / n ≡ k
row_of j k n h = omega (arith, add-mul-div_right j k {z = n} (omega arith), div-eq_of_lt {n = j} {m = n} h)

-- ---- places that are apart
-- no place of a line stands twice
pub once : (at stride k l : ℕ) → 0 < stride → k ≢ l → at + k * stride ≢ at + l * stride
once at stride k l s d e = go (lt? k l)
  where
    go : {b : Bool} → Test (k < l) (l ≤ k) b → ⊥
    go (pass h) = omega (arith, mul-lt-mul_of_pos_right {m = k} {n = l} {k = stride} h s)
    go (fail h) = omega (arith, mul-lt-mul_of_pos_right {m = l} {n = k} {k = stride} (omega arith) s)

-- two lines have no place in common
pub record Disjoint (x y stride count : ℕ) : Type 0 where
  pub each : (k l : ℕ) → k < count → l < count → x + k * stride ≢ y + l * stride

-- lines 0 to n of a flat list, line c from index `at c` on
pub record Layout (n : ℕ) (at : ℕ → ℕ) (stride count : ℕ) : Type 0 where
  pub step : {c : ℕ} → c < n → 0 < stride
  pub apart : {c d : ℕ} → c < n → d < n → c ≢ d → Disjoint (at c) (at d) stride count

-- the columns of a table of n columns and m rows
pub columns : (m n : ℕ) → Layout n (λ c. c) n m
columns m n = record {
  step = λ h. omega arith;
  apart = λ {c} {d} hc hd ne. record { each = λ k l _ _ e. ne (sym (column_of c k n hc) ∙ ap (λ (z : ℕ). z % n) e ∙ column_of d l n hd) };
}

-- the rows of a table of n columns
pub rows : (n : ℕ) → Layout n (λ c. c * n) 1 n
rows n = record {
  step = λ h. omega arith;
  apart = λ {c} {d} hc hd ne. record {
    each = λ k l hk hl e.
        let f : k + c * n ≡ l + d * n = omega arith in
        ne (sym (row_of k c n hk) ∙ ap (λ (z : ℕ). z / n) f ∙ row_of l d n hl);
  };
}

-- ---- turned rows
-- in a table whose rows are turned, column c is what column (c + a) % n was
pub rotate_column : (n a c k : ℕ) → c < n → rotate_from n a (c + k * n) ≡ (c + a) % n + k * n
rotate_column n a c k h = rw (row_of c k n h, column_of c k n h) (omega arith)

-- in a table of n rows that is turned as a whole, by a rows, row c is what row (c + a) % n was
pub rotate_row : (n a c k : ℕ) → c < n → k < n → rotate_from (n * n) (a * n) (c * n + k * 1) ≡ (c + a) % n * n + k * 1
rotate_row n a c k h l =
    let s : c * n + k * 1 < n * n = omega (arith, cell {j = k} {n = n} {k = c} {m = n} l h) in
    let t : (c + a) % n * n + k * 1 < n * n = omega (arith, cell {j = k} {n = n} {k = (c + a) % n} {m = n} l (mod-lt (c + a) (omega arith))) in
    let e : c * n + k * 1 + a * n ≡ (c + a) % n * n + k * 1 + (c + a) / n * (n * n) =
    omega (arith, ap (λ (z : ℕ). z * n) (div-add-mod' (c + a) n)) in
    rw (div-eq_of_lt s, mod-eq_of_lt s, e, add-mul-mod_self_right ((c + a) % n * n + k * 1) ((c + a) / n) (n * n), mod-eq_of_lt t) (omega arith)
