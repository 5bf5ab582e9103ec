-- Verdicts whose first three checks are 1, 2 and 3: when two of them agree, and what one that takes says. Assumes nothing.
use Rattle.std.proofs.Common.{◌≡◌, refl, sym, Bool, true, false, List, ◌∷◌}
use Rattle.rules.specs.Calls.{Check, taken, verdict, unless, inputs_check, outputs_check}
use Rattle.theory.proofs.Accepted.{all_pass, unless-none}

-- two tests that follow from one another
pub bool_same : (a b : Bool) → (a ≡ true → b ≡ true) → (b ≡ true → a ≡ true) → a ≡ b
bool_same true b f g = sym (f refl)
bool_same false true f g = g refl
bool_same false false f g = refl

-- 1, 2 and 3, and more checks after them
abbrev pub checks : (sizes inputs outputs : Bool) → List Check → List Check
checks sizes inputs outputs more = record { number = 1; fault = unless sizes } ∷ inputs_check inputs ∷ outputs_check outputs ∷ more

pub verdicts_agree : (s i j o : Bool) (xs ys : List Check) → (s ≡ true → i ≡ j) → (s ≡ true → i ≡ true → xs ≡ ys)
    → verdict (checks s i o xs) ≡ verdict (checks s j o ys)
verdicts_agree false i j o xs ys f g = refl
verdicts_agree true i j o xs ys f g = rw (← f refl) (go i g)
  where
    go : (i : Bool) → (true ≡ true → i ≡ true → xs ≡ ys) → verdict (checks true i o xs) ≡ verdict (checks true i o ys)
    go false g = refl
    go true g = rw (g refl refl)

pub first_passed : (s i o : Bool) (more : List Check) → verdict (checks s i o more) ≡ taken → (s ≡ true) × (i ≡ true) × (o ≡ true)
first_passed s i o more e =
    let a = all_pass (checks s i o more) e in
    (unless-none s a.0, unless-none i a.1.0, unless-none o a.1.1.0)
