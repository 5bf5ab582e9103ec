-- A row of a well-formed problem times a monomial: the sum that the code adds up, its size and that of the weight.
use mathlib.Core.Path.{◌≡◌, refl, sym, ap, ◌∙◌}
use mathlib.Core.Logic.{◌≢◌}
use mathlib.Core.List.{List}
use mathlib.Core.Bool.{Bool, not}
use Prim.Native.Nat.{ℕ, suc, ◌+◌, ◌-◌, ◌*◌, ◌<◌, ◌≤◌}
use native.Mathlib.Nat.{mul-le-mul}
use native.Mathlib.Omega.{arith}
use lib.Dec.{eqb}
use lib.ListN.{length, take, drop, length-drop}
use lib.Seq.{length-take-le, get_or-drop}
use Rattle.std.proofs.lemmas.List.{get_or-take}
use lib.IntN.{ℤ, pos, nat_abs, ◌*ℤ◌}
use mir.Syntax.{w64}
use mir.Val.{SFits, of_z}
use Rattle.whole.specs.Lists.{nth}
use Rattle.whole.specs.Sum.{sum}
use Rattle.whole.proofs.Sum.{sum_cong}
use Rattle.whole.proofs.Tests.{Test, pass, fail}
use Rattle.whole.proofs.Division.{rem-le}
use Rattle.rules.specs.Limits.{is_zero}
use Rattle.rules.specs.Problem.{Problem, modulus, WellFormed}
use Rattle.rules.specs.Formulas.{row_times, weight}
use Rattle.theory.proofs.Weights.{weight_without, weight_with}
use Rattle.theory.proofs.Limits.{is_zero?}
use Rattle.theory.proofs.Sizes as sizes
use Rattle.checks.proofs.Values.{zero_bits}
use Rattle.formulas.specs.Terms.{Monomial, dot_of, most_row_times, Weight}

-- count numbers of a list, from an index on
pub length-part : (xs : List ℤ) (at count : ℕ) → at + count ≤ length xs → length (take count (drop at xs)) ≡ count
length-part xs at count h = length-take-le count (drop at xs) (omega (arith, length-drop at xs))

pub nth-part : (xs : List ℤ) (at count j : ℕ) → j < count → nth (take count (drop at xs)) j ≡ nth xs (at + j)
nth-part xs at count j l = get_or-take count (drop at xs) j (pos 0) l ∙ get_or-drop at xs j (pos 0)

-- the sum of a row's products
pub dot-row : (xs es : List ℤ) (at n : ℕ) → at + n ≤ length xs → dot_of (take n (drop at xs)) es ≡ sum n (λ j. nth xs (at + j) *ℤ nth es j)
dot-row xs es at n h =
    ap (λ k. sum k (λ j. nth (take n (drop at xs)) j *ℤ nth es j)) (length-part xs at n h)
    ∙ sum_cong n (λ j. nth (take n (drop at xs)) j *ℤ nth es j) (λ j. nth xs (at + j) *ℤ nth es j) (λ j l. ap (λ z. z *ℤ nth es j) (nth-part xs at n j l))

module _ {P : Problem} (F : WellFormed P) {es : List ℤ} (E : Monomial P.n es) (i : ℕ) where
  pub row_is : i < P.m → dot_of (take ((i + 1) * P.n - i * P.n) (drop (i * P.n) P.matrix)) es ≡ row_times P (nth es) i
  unfolding row_times
  row_is within =
      let e : (i + 1) * P.n - i * P.n ≡ P.n = omega arith in
      let l : suc i * P.n ≤ P.m * P.n = mul-le-mul within (omega arith) in
      rw e (dot-row P.matrix es (i * P.n) P.n (omega (arith, F.matrix)))

  pub row_size : nat_abs (row_times P (nth es) i) ≤ most_row_times
  row_size = sizes.row_size P F (nth es) (λ j _. E.small j) i

  pub weight_size : nat_abs (weight P (nth es) i) ≤ most_row_times
  weight_size = go (is_zero? (modulus P i))
    where
      go : {b : Bool} → Test (modulus P i ≡ pos 0) (modulus P i ≢ pos 0) b → nat_abs (weight P (nth es) i) ≤ most_row_times
      go (pass e) = rw (weight_without P (nth es) i e) row_size
      go (fail d) = rw (weight_with P (nth es) i d) (omega (arith, row_size, rem-le (row_times P (nth es) i) (modulus P i)))

  pub is_weight : (r : ℤ) → r ≡ weight P (nth es) i → Weight P (nth es) i r
  is_weight r e = record { is = e; small = rw e weight_size }

-- row i has a weight that is not 0
abbrev pub weighs : Problem → (ℕ → ℤ) → ℕ → Bool
weighs P v i = not (is_zero (weight P v i))

-- the bits of a weight are 0 where the weight is
pub tested : {P : Problem} {v : ℕ → ℤ} {i : ℕ} {r : ℤ} {b : Bool} → Weight P v i r → SFits w64 r → eqb (of_z w64 r) 0 ≡ b → weighs P v i ≡ not b
tested {r = r} W fits e = ap (λ x. not (is_zero x)) (sym W.is) ∙ ap not (sym (zero_bits w64 refl r fits) ∙ e)
