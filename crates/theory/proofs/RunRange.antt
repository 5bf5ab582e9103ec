-- The run of a problem: the lengths of its lines, and that without the flag every entry of T, V and W is within M.
use mathlib.Core.Path.{◌≡◌, refl, subst}
use mathlib.Core.Logic.{◌≢◌}
use mathlib.Core.Bool.{Bool, true, false}
use mathlib.Core.List.{List, [], ◌∷◌, ◌++◌, map}
use Prim.Native.Nat.{ℕ, zero, suc, ◌+◌, ◌-◌, ◌*◌, ◌≤◌, ◌<◌}
use native.Mathlib.Omega.{arith}
use lib.Dec.{eqb}
use lib.ListN.{length, get_or, replicate, get_or-append, length-append}
use lib.IntN.{ℤ, pos, neg_ℤ, nat_abs}
use Rattle.whole.specs.Lists.{tab}
use Rattle.whole.proofs.Tests.{Test, pass, fail, lt?, eq?}
use Rattle.whole.proofs.Order.{abs_neg}
use Rattle.whole.proofs.Lists.{length-tab, nth-tab, nth-rest}
use Rattle.rules.specs.Limits.{M}
use Rattle.rules.specs.Problem.{Problem, WellFormed, entry, modulus, N, modulus_rows, modulus_column, modulus_columns, quantity_columns, columns}
use Rattle.rules.specs.Steps.{Table, get, get_w, any_beyond, unit, start}
use Rattle.rules.specs.Stages.{run}
use Rattle.theory.proofs.Start.{start_count, start_line}
use Rattle.theory.proofs.Run.{run_steps}
use Rattle.theory.proofs.Shape.{length-columns}
use Rattle.theory.proofs.Range.{none-beyond, NearState, steps_fine, fine-get, fine-get_w}

-- ---- what holds of every modulus column and of every quantity column holds of every column of C
module _ (Q : List ℤ → Type 0) (P : Problem)
    (mods : (i : ℕ) → Q (modulus_column P i))
    (quantities : (j : ℕ) → j < P.n → Q (tab P.m (λ i. entry P i j))) where
  modulus-columns : (rows : List ℕ) (c : ℕ) → c < length (map (modulus_column P) rows) → Q (get_or (map (modulus_column P) rows) c [])
  modulus-columns [] c l = absurd (omega arith)
  modulus-columns (i ∷ is) zero l = mods i
  modulus-columns (i ∷ is) (suc c) l = modulus-columns is c (omega arith)

  pub every-column : (c : ℕ) → c < length (columns P) → Q (get_or (columns P) c [])
  unfolding columns
  every-column c l = go (lt? c (length (modulus_columns P)))
    where
      go : {b : Bool} → Test (c < length (modulus_columns P)) (length (modulus_columns P) ≤ c) b → Q (get_or (modulus_columns P ++ quantity_columns P) c [])
      go (pass k) = rw (get_or-append (modulus_columns P) (quantity_columns P) [] c k) (modulus-columns (modulus_rows P) c k)
      go (fail k) =
          let j : ℕ = c - length (modulus_columns P) in
          let l₂ : j < P.n = omega (arith, length-append (modulus_columns P) (quantity_columns P), length-tab P.n (λ j. tab P.m (λ i. entry P i j))) in
          rw (nth-rest (modulus_columns P) (quantity_columns P) c [] k, nth-tab P.n (λ j. tab P.m (λ i. entry P i j)) j [] l₂) (quantities j l₂)

-- ---- the start is within M, if the problem is
pub record Moderate (P : Problem) : Type 0 where
  pub entries : (i j : ℕ) → i < P.m → j < P.n → nat_abs (entry P i j) ≤ M
  pub moduli : (i : ℕ) → i < P.m → nat_abs (modulus P i) ≤ M

pub well_formed_moderate : (P : Problem) → WellFormed P → Moderate P
well_formed_moderate P g = record {
  entries = λ i j _ _. omega (arith, g.entries (i * P.n + j));
  moduli = λ i _. omega (arith, g.moduli-high i);
}

none-beyond_tab : (m : ℕ) (f : ℕ → ℤ) → ((i : ℕ) → i < m → nat_abs (f i) ≤ M) → any_beyond (tab m f) ≡ false
none-beyond_tab m f h = none-beyond (tab m f) (λ i l. let k : i < m = omega (arith, length-tab m f) in rw (nth-tab m f i (pos 0) k) (h i k))

none-beyond-zeros : (n : ℕ) → any_beyond (replicate n (pos 0)) ≡ false
none-beyond-zeros zero = refl
none-beyond-zeros (suc n) = none-beyond-zeros n

none-beyond-unit : (n i : ℕ) → any_beyond (unit n i) ≡ false
none-beyond-unit zero i = refl
none-beyond-unit (suc n) zero = none-beyond-zeros n
none-beyond-unit (suc n) (suc i) = none-beyond-unit n i

start_fine : (cols : List (List ℤ)) → ((c : ℕ) → c < length cols → any_beyond (get_or cols c []) ≡ false) → NearState (length cols) (start cols)
start_fine cols h = record {
  lines = start_count cols;
  near = λ _ c l. rw (start_line cols c l) (record { t = h c l; v = none-beyond-unit (length cols) c; w = none-beyond-unit (length cols) c });
}

pub problem-fine : (P : Problem) → Moderate P → NearState (N P) (start (columns P))
problem-fine P h = subst (λ (n : ℕ). NearState n (start (columns P))) (length-columns P) (start_fine (columns P) small)
  where
    mods : (i : ℕ) → any_beyond (modulus_column P i) ≡ false
    mods i = none-beyond_tab P.m (λ r. elim (eqb i r) [ true ↦ neg_ℤ (modulus P i) | false ↦ pos 0 ]) (λ r l. go r l (eq? i r))
      where
        go : {b : Bool} (r : ℕ) → r < P.m → Test (i ≡ r) (i ≢ r) b → nat_abs (elim b as (λ _. ℤ) [ true ↦ neg_ℤ (modulus P i) | false ↦ pos 0 ]) ≤ M
        go r l (pass e) = rw (abs_neg (modulus P i)) (h.moduli i (omega arith))
        go r l (fail d) = omega arith

    small : (c : ℕ) → c < length (columns P) → any_beyond (get_or (columns P) c []) ≡ false
    small = every-column (λ c. any_beyond c ≡ false) P mods (λ j l. none-beyond_tab P.m (λ i. entry P i j) (λ i k. h.entries i j k l))

pub run-fine : (P : Problem) → Moderate P → NearState (N P) (run P).state
run-fine P h = steps_fine (run_steps P) (problem-fine P h)

-- ---- so without the flag every entry of T, V and W is within M
pub run-entries : (P : Problem) → Moderate P → (run P).state.over ≡ false → (tb : Table) (i j : ℕ) → nat_abs (get tb (run P).state i j) ≤ M
run-entries P h e = fine-get (N P) (run P).state (run-fine P h) e

pub run_entries_w : (P : Problem) → Moderate P → (run P).state.over ≡ false → (i j : ℕ) → nat_abs (get_w (run P).state i j) ≤ M
run_entries_w P h e = fine-get_w (N P) (run P).state (run-fine P h) e
