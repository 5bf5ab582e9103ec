-- A term of a formula, with W and the rank of the problem's run: its exponents in the groups.
use mathlib.Core.Path.{◌≡◌, sym, ◌∙◌, ap, ap₂}
use mathlib.Core.List.{List}
use Prim.Native.Nat.{ℕ, zero, suc, ◌+◌, ◌-◌, ◌*◌, ◌<◌, ◌≤◌}
use native.Mathlib.Nat.{mul-le-mul}
use native.Mathlib.Omega.{arith}
use lib.ListN.{length, take, drop}
use lib.IntN.{ℤ, pos, nat_abs, ◌*ℤ◌}
use Rattle.whole.specs.Lists.{nth, tab}
use Rattle.whole.proofs.Lists.{length-tab, nth-tab}
use Rattle.whole.proofs.Sum.{sum_cong}
use Rattle.rules.specs.Problem.{Problem, N, WellFormed}
use Rattle.rules.specs.Stages.{run, W}
use Rattle.rules.specs.Formulas.{k_then_v, translated}
use Rattle.theory.proofs.Sizes.{LimitedExponents, N-le_24, k_then_v_size}
use Rattle.formulas.specs.Terms.{Factors, dot_of}
use Rattle.formulas.specs.FormulaPromises.{Solved}
use Rattle.formulas.proofs.Weighing.{length-part, dot-row}

-- row i of at most 24, of 24 numbers at most, stands in 576
pub row_in : (i n : ℕ) → i < n → n ≤ 24 → (i + 1) * n ≤ 576
row_in i n h l = let a : suc i * n ≤ 24 * 24 = mul-le-mul {n₂ = 24} (omega arith) l in omega arith

tab-small : (n b : ℕ) (f : ℕ → ℤ) → ((i : ℕ) → i < n → nat_abs (f i) ≤ b) → (c : ℕ) → nat_abs (nth (tab n f) c) ≤ b
tab-small zero b f h c = omega arith
tab-small (suc n) b f h zero = h 0 (omega arith)
tab-small (suc n) b f h (suc c) = tab-small n b (λ i. f (suc i)) (λ i l. h (suc i) (omega arith)) c

-- row i of W times k followed by v
module _ {P : Problem} (F : WellFormed P) {w e : List ℤ} {r n : ℕ} (S : Solved P w r) (n-is : n ≡ N P) (v : ℕ → ℤ) (small : LimitedExponents P v)
    (e-is : e ≡ tab (N P) (k_then_v P v)) (i : ℕ) (upto : i < n) where
  one : (i + 1) * n - i * n ≡ n
  one = omega arith

  inside : i * n + n ≤ length w
  inside = omega (arith, row_in i n upto (rw n-is (N-le_24 P F)), S.length)

  pub factors : Factors (take ((i + 1) * n - i * n) (drop (i * n) w)) e
  factors = rw (one, e-is) (record {
    few = rw (length-part w (i * n) n inside, n-is) (N-le_24 P F);
    same = length-tab (N P) (k_then_v P v) ∙ sym (length-part w (i * n) n inside ∙ n-is);
    small = tab-small (N P) 160_000_000 (k_then_v P v) (k_then_v_size P F v small);
  })

  pub exponent_is : r ≤ i → dot_of (take ((i + 1) * n - i * n) (drop (i * n) w)) e ≡ translated P (run P) v (i - r)
  unfolding translated
  exponent_is from =
      let row : (run P).rank + (i - r) ≡ i = omega (arith, S.rank) in
      let within : i < N P = omega (arith, n-is) in
      rw (one, row) (dot-row w e (i * n) n inside
      ∙ rw n-is (sum_cong (N P) (λ c. nth w (i * N P + c) *ℤ nth e c) (λ c. W (run P) i c *ℤ k_then_v P v c)
      (λ c l. ap₂ ◌*ℤ◌ (S.entries i c within l) (ap (λ x. nth x c) e-is ∙ nth-tab (N P) (k_then_v P v) c (pos 0) l))))
