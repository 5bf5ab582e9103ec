-- Weights: what a weight is in a row with a modulus and in one without, and that the test is_free says whether every weight is 0.
use mathlib.Core.Path.{◌≡◌, ◌∙◌, ap}
use mathlib.Core.Logic.{◌≢◌}
use mathlib.Core.Bool.{Bool, true, false, not}
use Prim.Native.Nat.{ℕ, ◌+◌, ◌-◌, ◌<◌}
use native.Mathlib.Omega.{arith}
use lib.IntN.{ℤ, pos}
use lib.Signed.{rem_z}
use Rattle.whole.proofs.Tests.{Test, pass, fail, lt?, is_true, is_false, negated, passed, failed}
use Rattle.rules.specs.Limits.{is_zero}
use Rattle.rules.specs.Problem.{Problem, modulus, s}
use Rattle.rules.specs.Formulas.{row_times, remainder, weight, Free, is_free, k_of, k_then_v}
use Rattle.theory.proofs.Limits.{is_zero?}
use Rattle.theory.proofs.Search.{In, Nowhere, none?}

module _ (P : Problem) (v : ℕ → ℤ) where
  pub weight_without : (i : ℕ) → modulus P i ≡ pos 0 → weight P v i ≡ row_times P v i
  unfolding weight
  weight_without i e = rw (is_true (is_zero? (modulus P i)) (λ d. d e), weight)

  pub weight_with : (i : ℕ) → modulus P i ≢ pos 0 → weight P v i ≡ rem_z (row_times P v i) (modulus P i)
  unfolding weight remainder
  weight_with i d = rw (is_false (is_zero? (modulus P i)) d, weight)

  -- ---- the test
  pub is_free? : Test (Free P v) (¬ Free P v) (is_free P v)
  unfolding is_free
  is_free? = go (none? bad 0 P.m)
    where
      bad : ℕ → Bool
      bad i = not (is_zero (weight P v i))

      bad? : (i : ℕ) → Test (weight P v i ≢ pos 0) (weight P v i ≡ pos 0) (not (is_zero (weight P v i)))
      bad? i = negated (is_zero? (weight P v i))

      go : {b : Bool} → Test (Nowhere bad 0 P.m) ((i : ℕ) × In 0 P.m i × (bad i ≡ true)) b → Test (Free P v) (¬ Free P v) b
      go (pass n) = pass (record { weights = λ i a. failed (bad? i) (n i (omega arith)) })
      go (fail (i, a, e)) = fail (λ f. passed (bad? i) e (f.weights i a.high))

  pub is_free_yes : Free P v → is_free P v ≡ true
  is_free_yes f = is_true is_free? (λ d. d f)

  pub is_free_no : ¬ Free P v → is_free P v ≡ false
  is_free_no d = is_false is_free? d

  pub free_of_is_free : is_free P v ≡ true → Free P v
  free_of_is_free e = passed is_free? e

  -- ---- k followed by v
  pub k_then_v_first : (c : ℕ) → c < s P → k_then_v P v c ≡ k_of P v c
  unfolding k_then_v
  k_then_v_first c h = rw (is_true (lt? c (s P)) (λ g. omega arith), k_then_v)

  pub k_then_v-rest : (j : ℕ) → k_then_v P v (s P + j) ≡ v j
  unfolding k_then_v
  k_then_v-rest j =
      let e : s P + j - s P ≡ j = omega arith in
      let past = is_false (lt? (s P + j) (s P)) (λ g. omega arith) in
      ap (λ (b : Bool). elim b [ true ↦ k_of P v (s P + j) | false ↦ v (s P + j - s P) ]) past ∙ ap v e
