-- The translation is exact: the groups to the translated exponents give a free monomial back, and no other whole exponents do; a monomial that is
-- not free is given by no whole exponents at all.
use mathlib.Core.Path.{◌≡◌, sym, ◌∙◌, ap, ap₂}
use mathlib.Core.List.{List}
use Prim.Native.Nat.{ℕ, ◌+◌, ◌*◌, ◌<◌}
use native.Mathlib.Omega.{arith}
use lib.ListN.{length}
use lib.IntN.{ℤ, pos, neg_ℤ, ◌+ℤ◌, ◌*ℤ◌, +ℤ_idr, *ℤ-zero}
use lib.Signed.{quot_z, rem_z}
use Rattle.whole.specs.Sum.{sum}
use Rattle.whole.proofs.Lists.{lists-same}
use Rattle.whole.proofs.Division.{quot_exact, multiple_rem}
use Rattle.whole.proofs.Solver.{◌⊕◌, ◌⊗◌, ⊝◌, con, ◌≟◌, ring₂, ring₃}
use Rattle.whole.proofs.Sum.{sum_cong, sum-out}
use Rattle.rules.specs.Problem.{Problem, entry, modulus, s, N, C}
use Rattle.rules.specs.Stages.{Run, run, U}
use Rattle.rules.specs.Formulas.{row_times, weight, Free, k_of, k_then_v, d, translated, group, Formula, terms, term}
use Rattle.rules.specs.Calls.{translated_exponents}
use Rattle.theory.proofs.KeyLemma.{one_combination}
use Rattle.theory.proofs.Kernel.{Kills, combination_killed, killed_is}
use Rattle.theory.proofs.ModulusRows.{modulus_row, modulus-not-zero, by_rows}
use Rattle.theory.proofs.Product.{quantity_part, times-modulus_row, times_other_row}
use Rattle.theory.proofs.RightLists.{RightRun}
use Rattle.theory.proofs.Groups.{groups-hermite}
use Rattle.theory.proofs.Weights.{weight_without, weight_with, k_then_v_first, k_then_v-rest}
use Rattle.theory.proofs.Grid.{table, length-grid, table-grid}

-- ---- a free v is the quantity part of a vector that C kills, and the other way round
module _ (P : Problem) (v : ℕ → ℤ) where
  module _ (x : ℕ → ℤ) (part : (j : ℕ) → j < P.n → x (s P + j) ≡ v j) where
    quantity_part_is : (i : ℕ) → quantity_part P x i ≡ row_times P v i
    unfolding row_times
    quantity_part_is i =
        sum_cong P.n (λ j. entry P i j *ℤ x (s P + j)) (λ j. entry P i j *ℤ v j) (λ j b. ap (λ z. entry P i j *ℤ z) (part j b))

    -- C·x in a row with a modulus, and in one without
    product_with : (c : ℕ) → c < s P → modulus_row P c < P.m
        → sum (N P) (λ k. C P (modulus_row P c) k *ℤ x k) ≡ neg_ℤ (modulus P (modulus_row P c)) *ℤ x c +ℤ row_times P v (modulus_row P c)
    product_with c h a =
        let i = modulus_row P c in
        times-modulus_row P x c h a ∙ ap (λ z. neg_ℤ (modulus P i) *ℤ x c +ℤ z) (quantity_part_is i)

    product_without : (i : ℕ) → i < P.m → modulus P i ≡ pos 0 → sum (N P) (λ c. C P i c *ℤ x c) ≡ weight P v i
    product_without i a e = times_other_row P x i a e ∙ quantity_part_is i ∙ sym (weight_without P v i e)

    free_of_killed : Kills P.m (N P) (C P) x → Free P v
    free_of_killed z = record { weights = by_rows P (λ i. weight P v i ≡ pos 0) (λ i a e. sym (product_without i a e) ∙ z i a) with_modulus }
      where
        with_modulus : (c : ℕ) → c < s P → modulus_row P c < P.m → weight P v (modulus_row P c) ≡ pos 0
        with_modulus c h a =
            let i = modulus_row P c in
            let p = modulus P i in
            let t = row_times P v i in
            let e : t ≡ x c *ℤ p =
            ring₃ p (x c) t (λ p y t. t ≟ y ⊗ p ⊕ (⊝ p ⊗ y ⊕ t)) tt
            ∙ ap (λ y. x c *ℤ p +ℤ y) (sym (product_with c h a) ∙ z i a)
            ∙ +ℤ_idr (x c *ℤ p) in
            weight_with P v i (modulus-not-zero P c h) ∙ ap (λ y. rem_z y p) e ∙ multiple_rem (x c) p

  pub kernel_of_free : Free P v → Kills P.m (N P) (C P) (k_then_v P v)
  unfolding k_of
  kernel_of_free f =
      by_rows P (λ i. sum (N P) (λ c. C P i c *ℤ k_then_v P v c) ≡ pos 0) (λ i a e. product_without (k_then_v P v) rest i a e ∙ f.weights i a) with_modulus
    where
      rest : (j : ℕ) → j < P.n → k_then_v P v (s P + j) ≡ v j
      rest j b = k_then_v-rest P v j

      with_modulus : (c : ℕ) → c < s P → modulus_row P c < P.m → sum (N P) (λ k. C P (modulus_row P c) k *ℤ k_then_v P v k) ≡ pos 0
      with_modulus c h b =
          let k = modulus_row P c in
          let p = modulus P k in
          let t = row_times P v k in
          let exact : t ≡ quot_z t p *ℤ p = quot_exact t p (sym (weight_with P v k (modulus-not-zero P c h)) ∙ f.weights k b) in
          product_with (k_then_v P v) rest c h b
          ∙ ap₂ (λ y z. neg_ℤ p *ℤ y +ℤ z) (k_then_v_first P v c h) exact
          ∙ ring₂ p (quot_z t p) (λ p q. ⊝ p ⊗ q ⊕ q ⊗ p ≟ con (pos 0)) tt

-- the all-zero exponents are free in every problem
pub zero_is-free : (P : Problem) (v : ℕ → ℤ) → ((j : ℕ) → j < P.n → v j ≡ pos 0) → Free P v
zero_is-free P v z = free_of_killed P v (λ c. pos 0) (λ j b. sym (z j b)) (λ i a. sum-out (N P) (λ c. C P i c *ℤ pos 0) (λ c b. *ℤ-zero (C P i c)))

-- ---- the groups to whole exponents
-- the exponent of quantity j in the product of the groups to the exponents e
abbrev pub of_groups : Problem → Run → (e : ℕ → ℤ) → (j : ℕ) → ℤ
of_groups P u e j = sum (d P u) (λ g. group P u g j *ℤ e g)

module _ (P : Problem) (u : Run) (R : RightRun P u) (v : ℕ → ℤ) where
  pub translated-back : Free P v → (j : ℕ) → j < P.n → of_groups P u (translated P u v) j ≡ v j
  unfolding group translated
  translated-back f j b = sym (killed_is R (k_then_v P v) (kernel_of_free P v f) (s P + j) (omega arith)) ∙ k_then_v-rest P v j

  pub translated-only : length P.moduli ≡ P.m → Free P v → (e : ℕ → ℤ) → ((j : ℕ) → j < P.n → of_groups P u e j ≡ v j)
      → (g : ℕ) → g < d P u → e g ≡ translated P u v g
  unfolding group
  translated-only len f e same = one_combination (groups-hermite P len R) e (translated P u v) (λ j b. same j b ∙ sym (translated-back f j b))

  pub free-of_groups : (e : ℕ → ℤ) → ((j : ℕ) → j < P.n → of_groups P u e j ≡ v j) → Free P v
  unfolding group
  free-of_groups e same = free_of_killed P v (λ c. sum (d P u) (λ g. U u c (u.rank + g) *ℤ e g)) same (combination_killed R e)

  -- R8.7
  pub free_without_groups : d P u ≡ 0 → Free P v → (j : ℕ) → j < P.n → v j ≡ pos 0
  free_without_groups z f j b =
      sym (translated-back f j b)
      ∙ sum-out (d P u) (λ g. group P u g j *ℤ translated P u v g) (λ g a. absurd (omega arith))

-- ---- formulas: d exponents are listed for each term
module _ (P : Problem) (R : RightRun P (run P)) (f : Formula) where
  listed_is : (t g : ℕ) → t < terms f → g < d P (run P) → table (d P (run P)) (translated_exponents P f) t g ≡ translated P (run P) (term P f t) g
  unfolding translated_exponents
  listed_is = table-grid (terms f) (d P (run P)) (λ t g. translated P (run P) (term P f t) g)

  -- term t of the translated formula, in the groups, is term t of the formula
  pub formula-translated-back : (t : ℕ) → t < terms f → Free P (term P f t)
      → (j : ℕ) → j < P.n → of_groups P (run P) (table (d P (run P)) (translated_exponents P f) t) j ≡ term P f t j
  formula-translated-back t h free j b =
      let u = run P in
      let v = term P f t in
      sum_cong (d P u) (λ g. group P u g j *ℤ table (d P u) (translated_exponents P f) t g) (λ g. group P u g j *ℤ translated P u v g)
      (λ g a. ap (λ z. group P u g j *ℤ z) (listed_is t g h a))
      ∙ translated-back P u R v free j b

  -- and no other list of whole exponents gives the formula back
  pub formula-translated-only : length P.moduli ≡ P.m → (es : List ℤ) → length es ≡ terms f * d P (run P)
      → ((t j : ℕ) → t < terms f → j < P.n → of_groups P (run P) (table (d P (run P)) es t) j ≡ term P f t j) → es ≡ translated_exponents P f
  unfolding translated_exponents
  formula-translated-only len es e same =
      lists-same (terms f) (d P (run P)) es (translated_exponents P f) (pos 0) e
      (length-grid (terms f) (d P (run P)) (λ t g. translated P (run P) (term P f t) g)) one
    where
      one : (t g : ℕ) → t < terms f → g < d P (run P) → table (d P (run P)) es t g ≡ table (d P (run P)) (translated_exponents P f) t g
      one t g a b =
          let u = run P in
          let v = term P f t in
          let x = table (d P u) es t in
          let back : (j : ℕ) → j < P.n → of_groups P u x j ≡ v j = λ j c. same t j a c in
          translated-only P u R v len (free-of_groups P u R v x back) x back g b ∙ sym (listed_is t g a b)
