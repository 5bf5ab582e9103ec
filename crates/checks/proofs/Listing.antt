-- The rows with a modulus, listed one modulus after the other.
use Rattle.std.proofs.Common.{◌≡◌, ℕ, suc, ◌+◌, ◌<◌, ℤ, List, [], ◌∷◌, ◌++◌, Bool, true, false, length, take, replicate, get_or, set, ◌≤◌, refl, sym, ap, ◌∙◌, arith}
use lib.IntN.{pos}
use lib.Seq.{take-suc, length-take-le}
use Rattle.std.proofs.lemmas.List.{take_more_set, length-set, get_or-set_other}
use native.Mathlib.Nat.{add-zero, zero-add}
use Rattle.whole.specs.Lists.{nth}
use Rattle.whole.proofs.Lists.{nth-replicate}
use Rattle.rules.specs.Limits.{is_zero}
use Rattle.rules.specs.Problem.{modulus_rows_from, s}
use Rattle.checks.specs.declared.lent.ModulusRows.{ModulusRows}
use Rattle.checks.specs.declared.lent.Checked.{Checked}
use Rattle.checks.specs.Checks.{problem_of}
use Rattle.checks.specs.Moduli.{listed}

-- ---- one modulus more at the end
rows-passed : (k : ℕ) (ps : List ℤ) (p : ℤ) → is_zero p ≡ true → modulus_rows_from k (ps ++ p ∷ []) ≡ modulus_rows_from k ps
unfolding modulus_rows_from
rows-passed k [] p e = ap (λ (b : Bool). elim b as (λ _. List ℕ) [ true ↦ [] | false ↦ k ∷ [] ]) e
rows-passed k (x ∷ xs) p e = ap (λ (l : List ℕ). elim (is_zero x) as (λ _. List ℕ) [ true ↦ l | false ↦ k ∷ l ]) (rows-passed (suc k) xs p e)

rows-listed : (k : ℕ) (ps : List ℤ) (p : ℤ) → is_zero p ≡ false → modulus_rows_from k (ps ++ p ∷ []) ≡ modulus_rows_from k ps ++ (k + length ps) ∷ []
unfolding modulus_rows_from
rows-listed k [] p e = ap (λ (b : Bool). elim b as (λ _. List ℕ) [ true ↦ [] | false ↦ k ∷ [] ]) e ∙ rw (add-zero k)
rows-listed k (x ∷ xs) p e = go (is_zero x) (rows-listed (suc k) xs p e)
  where
    go : (b : Bool) → modulus_rows_from (suc k) (xs ++ p ∷ []) ≡ modulus_rows_from (suc k) xs ++ (suc k + length xs) ∷ []
        → elim b as (λ _. List ℕ) [ true ↦ modulus_rows_from (suc k) (xs ++ p ∷ []) | false ↦ k ∷ modulus_rows_from (suc k) (xs ++ p ∷ []) ]
        ≡ elim b as (λ _. List ℕ) [ true ↦ modulus_rows_from (suc k) xs | false ↦ k ∷ modulus_rows_from (suc k) xs ] ++ (k + suc (length xs)) ∷ []
    go true h = let z : k + suc (length xs) ≡ suc k + length xs = omega arith in rw z h
    go false h = let z : k + suc (length xs) ≡ suc k + length xs = omega arith in rw z (ap (λ (l : List ℕ). k ∷ l) h)

-- ---- the rows among the first i
abbrev pub rows_to : (moduli : List ℤ) (i : ℕ) → List ℕ
rows_to moduli i = modulus_rows_from 0 (take i moduli)

module _ (moduli : List ℤ) (i : ℕ) (h : i < length moduli) where
  pub listed-passed : is_zero (nth moduli i) ≡ true → rows_to moduli (suc i) ≡ rows_to moduli i
  listed-passed e = rw (take-suc moduli i (pos 0) h) (rows-passed 0 (take i moduli) (nth moduli i) e)

  pub listed_with : is_zero (nth moduli i) ≡ false → rows_to moduli (suc i) ≡ rows_to moduli i ++ i ∷ []
  listed_with e = rw (take-suc moduli i (pos 0) h) (rows-listed 0 (take i moduli) (nth moduli i) e
      ∙ ap (λ (k : ℕ). rows_to moduli i ++ k ∷ []) (zero-add (length (take i moduli)) ∙ length-take-le i moduli (omega arith)))

pub none-listed : (moduli : List ℤ) → [] ≡ rows_to moduli 0
unfolding modulus_rows_from
none-listed moduli = refl

-- ---- the array, once the first i moduli have been looked at
pub record Listed (moduli : List ℤ) (i : ℕ) (q : ModulusRows) : Type 0 where
  pub few : q.s ≤ i
  pub long : length q.rows ≡ 8
  pub rows : listed q ≡ rows_to moduli i
  pub rest : (c : ℕ) → q.s ≤ c → get_or q.rows c 0 ≡ 0

pub listed-none : (moduli : List ℤ) → Listed moduli 0 (record { rows = replicate 8 0; s = 0 })
listed-none moduli = record { few = omega arith; long = refl; rows = none-listed moduli; rest = λ c _. nth-replicate 8 0 c }

module _ {moduli : List ℤ} {i : ℕ} {q : ModulusRows} (l : Listed moduli i q) (h : i < length moduli) where
  pub row_passed : is_zero (nth moduli i) ≡ true → Listed moduli (suc i) q
  row_passed e = record { few = omega (arith, l.few); long = l.long; rows = l.rows ∙ sym (listed-passed moduli i h e); rest = l.rest }

  pub row_listed : is_zero (nth moduli i) ≡ false → i < 8 → Listed moduli (suc i) (record { rows = set q.rows q.s i; s = q.s + 1 })
  row_listed e b = record {
    few = omega (arith, l.few);
    long = length-set q.rows q.s i ∙ l.long;
    rows = take_more_set q.rows q.s i (omega (arith, l.few, l.long)) ∙ ap (λ xs. xs ++ i ∷ []) l.rows ∙ sym (listed_with moduli i h e);
    rest = λ c k. get_or-set_other q.rows q.s c i 0 (omega arith) ∙ l.rest c (omega arith);
  }

-- ---- a problem that has passed
pub rows_counted : (p : Checked) → p.rows.s ≡ s (problem_of p)
rows_counted p = sym (length-take-le p.rows.s p.rows.rows (omega (arith, p.rows_told.few, p.rows_told.long))) ∙ ap length p.rows_listed
