-- The matrix C of a problem within the limits: its size, its entries as the code finds them, that they are small, and C filled in row after row.
use mathlib.Core.Path.{◌≡◌, refl, sym, ◌∙◌}
use mathlib.Core.Logic.{◌≢◌}
use mathlib.Core.Bool.{Bool}
use mathlib.Core.List.{List, ◌++◌}
use Prim.Native.Nat.{ℕ, ◌+◌, ◌-◌, ◌*◌, ◌/◌, ◌%◌, ◌≤◌, ◌<◌}
use native.Mathlib.Omega.{arith}
use native.Mathlib.Nat.{mul-le-mul, mod-lt, div-lt_iff_lt-mul}
use native.Mathlib.Decide.{ℕ_discrete}
use lib.ListN.{length, drop}
use lib.IntN.{ℤ, pos, neg_ℤ, nat_abs}
use Rattle.whole.specs.Lists.{nth, tab}
use Rattle.whole.proofs.Tests.{Test, pass, fail, lt?}
use Rattle.whole.proofs.Order.{abs_neg}
use Rattle.rules.specs.Problem.{Problem, modulus, s, N, C, WellFormed}
use Rattle.theory.proofs.ModulusRows.{modulus_row}
use Rattle.theory.proofs.Sizes.{N-le_24}
use Rattle.theory.proofs.Shape.{modulus_column_at, modulus_column_else, quantity_column_at}
use Rattle.scaling.specs.Strided.{keep}
use Rattle.scaling.specs.Problem.{InC, HoldsC}
use Rattle.scaling.proofs.Values.{kept}
use Rattle.scaling.proofs.Filling.{nth-filled, nth_unfilled, length_front}

-- the entry at place k of C, row after row, with x columns
abbrev pub entry_at : Problem → (x k : ℕ) → ℤ
entry_at P x k = C P (k / x) (k % x)

module _ {P : Problem} (h : WellFormed P) where
  -- ---- sizes
  pub columns-some : 0 < N P
  columns-some = omega (arith, h.n-low)

  pub area : P.m * N P ≤ 192
  area = mul-le-mul h.m-high (N-le_24 P h)

  pub square : N P * N P ≤ 576
  square = mul-le-mul (N-le_24 P h) (N-le_24 P h)

  -- ---- the entries
  modulus-small : (i : ℕ) → nat_abs (neg_ℤ (modulus P i)) ≤ 1000
  modulus-small i = rw (abs_neg (modulus P i)) (h.moduli-high i)

  module _ {i c : ℕ} (l : InC P i c) where
    pub C-modulus : c < s P → modulus_row P c ≡ i → keep (neg_ℤ (modulus P i)) ≡ C P i c
    C-modulus b e =
        kept (neg_ℤ (modulus P i)) (omega (arith, modulus-small i)) ∙ sym (rw e at (modulus_column_at P c b (omega (arith, l.row))))

    pub C_else : c < s P → modulus_row P c ≢ i → pos 0 ≡ C P i c
    C_else b d = sym (modulus_column_else P c i b l.row (omega arith))

    -- x is the count of modulus columns, as the code has it
    module _ {x : ℕ} (e : x ≡ s P) (b : x ≤ c) where
      pub C-quantity : nth P.matrix (i * P.n + (c - x)) ≡ C P i c
      C-quantity =
          let z : s P + (c - x) ≡ c = omega arith in
          sym (rw z at (quantity_column_at P i (c - x) l.row (omega (arith, l.column))))

    pub C-small : nat_abs (C P i c) ≤ 1000
    C-small = go (lt? c (s P)) (ℕ_discrete (modulus_row P c) i)
      where
        go : {b : Bool} → Test (c < s P) (s P ≤ c) b → Dec (modulus_row P c ≡ i) → nat_abs (C P i c) ≤ 1000
        go (pass b) (yes e) = rw (← C-modulus b e, kept (neg_ℤ (modulus P i)) (omega (arith, modulus-small i))) (modulus-small i)
        go (pass b) (no d) = rw (← C_else b d) (omega arith)
        go (fail b) e = rw (← C-quantity refl b) (h.entries (i * P.n + (c - s P)))

  -- ---- C filled in; x is the number of columns, as the code has it
  module _ {x : ℕ} (e : x ≡ N P) where
    pub columns-above : 0 < x
    columns-above = omega (arith, columns-some)

    pub area-above : P.m * x ≤ 192
    area-above = rw e area

    pub place_in : (k : ℕ) → k < P.m * x → InC P (k / x) (k % x)
    place_in k l = record {
      row = (div-lt_iff_lt-mul {k = x} {x = k} {y = P.m} columns-above).1 l;
      column = omega (arith, mod-lt k columns-above);
    }

    pub filled-holds : (t₀ : List ℤ) → length t₀ ≡ 192 → HoldsC P (tab (P.m * x) (entry_at P x) ++ drop (P.m * x) t₀) t₀
    filled-holds t₀ long = rw e (record {
      entries = λ k l. nth-filled t₀ (entry_at P (N P)) (P.m * N P) k (pos 0) l;
      rest = λ k l. nth_unfilled t₀ (entry_at P (N P)) (P.m * N P) k (pos 0) l;
      same = length_front t₀ (entry_at P (N P)) (P.m * N P) (omega (arith, area));
    })
