-- k followed by v: the rows that are listed for k have a modulus, and of v the first n numbers count.
use mathlib.Core.Path.{◌≡◌, sym, ◌∙◌, ap}
use mathlib.Core.Bool.{true, false, not}
use Prim.Native.Nat.{ℕ, ◌+◌, ◌-◌, ◌<◌}
use native.Mathlib.Decide.{dec_lt}
use native.Mathlib.Omega.{arith}
use lib.ListN.{get_or}
use lib.IntN.{ℤ, ◌*ℤ◌}
use lib.Signed.{quot_z}
use Rattle.whole.proofs.Order.{non_zero_size}
use Rattle.whole.proofs.Sum.{sum_cong}
use Rattle.rules.specs.Limits.{is_zero}
use Rattle.rules.specs.Problem.{Problem, entry, modulus, modulus_rows, s, N, WellFormed}
use Rattle.rules.specs.Formulas.{row_times, remainder, weight, is_none, is_free, k_of, k_then_v}
use Rattle.theory.proofs.ModulusRows.{modulus_row-within, modulus-not-zero}
use Rattle.theory.proofs.Search.{first_cong}
use Rattle.theory.proofs.Weights.{k_then_v_first, k_then_v-rest}
use Rattle.formulas.specs.Terms.{Modulus}

-- the row that is listed for k's entry c has a modulus
pub listed-modulus : {P : Problem} → WellFormed P → (c : ℕ) → c < s P → Modulus P (get_or (modulus_rows P) c 0)
listed-modulus {P} F c l = record {
  row = modulus_row-within P F.moduli c l;
  filled = non_zero_size _ (modulus-not-zero P c l);
}

-- two functions that agree on the n quantities weigh the same, and have the same k followed by v
module _ (P : Problem) {u v : ℕ → ℤ} (same : (j : ℕ) → j < P.n → u j ≡ v j) where
  row-alike : (i : ℕ) → row_times P u i ≡ row_times P v i
  unfolding row_times
  row-alike i = sum_cong P.n (λ j. entry P i j *ℤ u j) (λ j. entry P i j *ℤ v j) (λ j l. ap (λ z. entry P i j *ℤ z) (same j l))

  weight-alike : (i : ℕ) → weight P u i ≡ weight P v i
  unfolding weight
  weight-alike i = ap (λ x. elim (is_zero (modulus P i)) as (λ _. ℤ) [ true ↦ x | false ↦ remainder x (modulus P i) ]) (row-alike i)

  pub free-alike : is_free P u ≡ is_free P v
  unfolding is_free
  free-alike = ap is_none (first_cong _ _ 0 P.m (λ i _. ap (λ x. not (is_zero x)) (weight-alike i)))

  pub k_then_v-alike : (c : ℕ) → c < N P → k_then_v P u c ≡ k_then_v P v c
  unfolding k_of
  k_then_v-alike c h = go (dec_lt c (s P))
    where
      go : Dec (c < s P) → k_then_v P u c ≡ k_then_v P v c
      go (yes l) =
          let i : ℕ = get_or (modulus_rows P) c 0 in
          k_then_v_first P u c l ∙ ap (λ x. quot_z x (modulus P i)) (row-alike i) ∙ sym (k_then_v_first P v c l)
      go (no l) =
          let e : c ≡ s P + (c - s P) = omega arith in
          rw e (k_then_v-rest P u (c - s P) ∙ same (c - s P) (omega arith) ∙ sym (k_then_v-rest P v (c - s P)))
