-- The rows with a modulus: modulus column c stands for row (modulus_row P c); the rows rise with c, and are exactly those whose modulus is not 0.
use mathlib.Core.Path.{◌≡◌, subst}
use mathlib.Core.Logic.{◌≢◌}
use mathlib.Core.Bool.{Bool, true, false}
use mathlib.Core.List.{List, [], ◌∷◌}
use Prim.Native.Nat.{ℕ, zero, suc, ◌+◌, ◌-◌, ◌≤◌, ◌<◌}
use native.Mathlib.Omega.{arith}
use native.Mathlib.Decide.{dec_lt}
use lib.ListN.{length, get_or, get_or-eq_default}
use lib.IntN.{ℤ, pos, ℤ_discrete}
use Rattle.whole.specs.Lists.{nth}
use Rattle.whole.proofs.Tests.{Test, pass, fail}
use Rattle.rules.specs.Problem.{Problem, modulus, modulus_rows_from, modulus_rows, s}
use Rattle.theory.proofs.Limits.{is_zero?}

-- rows lists, rising, the indices of the numbers of ps that are not 0, where the first number has index i
record NonZeroRows (i : ℕ) (ps : List ℤ) (rows : List ℕ) : Type 0 where
  count : length rows ≤ length ps
  from : (c : ℕ) → c < length rows → i ≤ get_or rows c 0
  to : (c : ℕ) → c < length rows → get_or rows c 0 < i + length ps
  non_zero : (c : ℕ) → c < length rows → nth ps (get_or rows c 0 - i) ≢ pos 0
  rising : (c e : ℕ) → c < e → e < length rows → get_or rows c 0 < get_or rows e 0
  all : (k : ℕ) → k < length ps → nth ps k ≢ pos 0 → (c : ℕ) × (c < length rows) × (get_or rows c 0 ≡ i + k)

pass_over : {i : ℕ} {p : ℤ} {ps : List ℤ} {rows : List ℕ} → p ≡ pos 0 → NonZeroRows (suc i) ps rows → NonZeroRows i (p ∷ ps) rows
pass_over {i} {p} {ps} {rows} z r = record {
  count = omega (arith, r.count);
  from = λ c h. omega (arith, r.from c h);
  to = λ c h. omega (arith, r.to c h);
  non_zero = λ c h. rw (step c h) (r.non_zero c h);
  rising = r.rising;
  all = every;
}
  where
    step : (c : ℕ) → c < length rows → get_or rows c 0 - i ≡ suc (get_or rows c 0 - suc i)
    step c h = omega (arith, r.from c h)

    every : (k : ℕ) → k < suc (length ps) → nth (p ∷ ps) k ≢ pos 0 → (c : ℕ) × (c < length rows) × (get_or rows c 0 ≡ i + k)
    every zero h d = absurd (d z)
    every (suc k) h d =
        let a = r.all k (omega arith) d in
        (a.0, a.1, omega (arith, a.2))

take_in : {i : ℕ} {p : ℤ} {ps : List ℤ} {rows : List ℕ} → p ≢ pos 0 → NonZeroRows (suc i) ps rows → NonZeroRows i (p ∷ ps) (i ∷ rows)
take_in {i} {p} {ps} {rows} d r = record {
  count = omega (arith, r.count);
  from = low;
  to = high;
  non_zero = non_zero_lem;
  rising = rise;
  all = every;
}
  where
    low : (c : ℕ) → c < suc (length rows) → i ≤ get_or (i ∷ rows) c 0
    low zero h = omega arith
    low (suc c) h = omega (arith, r.from c (omega arith))

    high : (c : ℕ) → c < suc (length rows) → get_or (i ∷ rows) c 0 < i + suc (length ps)
    high zero h = omega arith
    high (suc c) h = omega (arith, r.to c (omega arith))

    non_zero_lem : (c : ℕ) → c < suc (length rows) → nth (p ∷ ps) (get_or (i ∷ rows) c 0 - i) ≢ pos 0
    non_zero_lem zero h =
        let e : i - i ≡ 0 = omega arith in
        rw e d
    non_zero_lem (suc c) h =
        let e : get_or rows c 0 - i ≡ suc (get_or rows c 0 - suc i) = omega (arith, r.from c (omega arith)) in
        rw e (r.non_zero c (omega arith))

    rise : (c e : ℕ) → c < e → e < suc (length rows) → get_or (i ∷ rows) c 0 < get_or (i ∷ rows) e 0
    rise c zero g h = absurd (omega arith)
    rise zero (suc e) g h = r.from e (omega arith)
    rise (suc c) (suc e) g h = r.rising c e (omega arith) (omega arith)

    every : (k : ℕ) → k < suc (length ps) → nth (p ∷ ps) k ≢ pos 0 → (c : ℕ) × (c < suc (length rows)) × (get_or (i ∷ rows) c 0 ≡ i + k)
    every zero h g = (0, omega arith, omega arith)
    every (suc k) h g =
        let a = r.all k (omega arith) g in
        (suc a.0, omega (arith, a.1), omega (arith, a.2))

non_zero-rows : (i : ℕ) (ps : List ℤ) → NonZeroRows i ps (modulus_rows_from i ps)
unfolding modulus_rows_from
non_zero-rows i [] = record {
  count = omega arith;
  from = λ c h. absurd (omega arith);
  to = λ c h. absurd (omega arith);
  non_zero = λ c h. absurd (omega arith);
  rising = λ c e g h. absurd (omega arith);
  all = λ k h. absurd (omega arith);
}
non_zero-rows i (p ∷ ps) = go (is_zero? p) (non_zero-rows (suc i) ps)
  where
    go : {b : Bool} → Test (p ≡ pos 0) (p ≢ pos 0) b → NonZeroRows (suc i) ps (modulus_rows_from (suc i) ps)
        → NonZeroRows i (p ∷ ps) (elim b [ true ↦ modulus_rows_from (suc i) ps | false ↦ i ∷ modulus_rows_from (suc i) ps ])
    go (pass e) r = pass_over e r
    go (fail d) r = take_in d r

-- the row of modulus column c
abbrev pub modulus_row : Problem → ℕ → ℕ
modulus_row P c = get_or (modulus_rows P) c 0

module _ (P : Problem) where
  listed : NonZeroRows 0 P.moduli (modulus_rows P)
  listed = non_zero-rows 0 P.moduli

  pub modulus-not-zero : (c : ℕ) → c < s P → modulus P (modulus_row P c) ≢ pos 0
  modulus-not-zero c h =
      let e : modulus_row P c - 0 ≡ modulus_row P c = omega arith in
      rw e at (listed.non_zero c h)

  pub modulus_rows-rise : (c e : ℕ) → c < e → e < s P → modulus_row P c < modulus_row P e
  modulus_rows-rise = listed.rising

  pub modulus_rows-apart : (c e : ℕ) → c < s P → e < s P → c ≢ e → modulus_row P c ≢ modulus_row P e
  modulus_rows-apart c e a b d = go (dec_lt c e)
    where
      go : Dec (c < e) → modulus_row P c ≢ modulus_row P e
      go (yes l) = omega (arith, modulus_rows-rise c e l b)
      go (no l) = omega (arith, modulus_rows-rise e c (omega arith) a)

  -- a row with a modulus is the row of a modulus column
  pub modulus_row_found : (i : ℕ) → modulus P i ≢ pos 0 → (c : ℕ) × (c < s P) × (modulus_row P c ≡ i)
  modulus_row_found i d = go (dec_lt i (length P.moduli))
    where
      go : Dec (i < length P.moduli) → (c : ℕ) × (c < s P) × (modulus_row P c ≡ i)
      go (no h) = absurd (d (get_or-eq_default P.moduli (pos 0) (omega arith)))
      go (yes h) =
          let a = listed.all i h d in
          (a.0, a.1, omega (arith, a.2))

  pub modulus_row-within : length P.moduli ≡ P.m → (c : ℕ) → c < s P → modulus_row P c < P.m
  modulus_row-within e c h = omega (arith, listed.to c h)

  pub s-le-m : length P.moduli ≡ P.m → s P ≤ P.m
  s-le-m e = omega (arith, listed.count)

  -- what holds in the rows without a modulus, and in the row of each modulus column, holds in every row
  pub by_rows : (Q : ℕ → Type 0) → ((i : ℕ) → i < P.m → modulus P i ≡ pos 0 → Q i) → ((c : ℕ) → c < s P → modulus_row P c < P.m → Q (modulus_row P c))
      → (i : ℕ) → i < P.m → Q i
  by_rows Q without with i a = go (ℤ_discrete (modulus P i) (pos 0))
    where
      go : Dec (modulus P i ≡ pos 0) → Q i
      go (yes e) = without i a e
      go (no d) =
          let r = modulus_row_found i d in
          subst Q r.2 (with r.0 r.1 (omega (arith, r.2)))
