-- Checks 11, 24, 12 and 13, one after the other: what each makes of the answer once those before it are passed.
use mathlib.Core.Path.{◌≡◌, refl, sym, ap, ◌∙◌}
use mathlib.Core.Bool.{Bool, true, false, not}
use mathlib.Core.List.{List, [], ◌∷◌}
use Prim.Native.Nat.{ℕ, ◌≤◌, ◌<◌}
use borrow.Author.Tests.{lt-ltb, le-ltb}
use lib.IntN.{ℤ, pos}
use lib.ListN.{length}
use lib.Ieee.{Float}
use lib.Ieee.Positive.{positive}
use Rattle.std.specs.Prelude.{Option, Some, None, position}
use Rattle.std.specs.Float.{nan}
use Rattle.std.specs.List.{list_all}
use Rattle.whole.specs.Lists.{nth}
use Rattle.rules.specs.Limits.{power_in_range}
use Rattle.rules.specs.Search.{none, found, first}
use Rattle.rules.specs.Formulas.{is_none}
use Rattle.rules.specs.Calls.{Check, Verdict, taken, refused, verdict, unless_at}
use Rattle.rules.specs.Gauges.{read, group_value, is_out, nought, Gauged, value, refusal, gauged_by}
use Rattle.rules.specs.Gauges.{readings_check, group_check, powers_check, running_check}
use Rattle.theory.proofs.Search.{first_cong}
use Rattle.theory.proofs.Operations.{value_same}
use Rattle.theory.proofs.LastValue.{last_tells}
use Rattle.checks.specs.Checks.{finding}
use Rattle.gauges.specs.declared.groups.Groups.{Groups}
use Rattle.gauges.specs.Gauging.{column, evaluate_of, Exponents, value_by}
use Rattle.checks.proofs.Found.{first_position}
use Rattle.gauges.proofs.Searched.{all_passes}
use Rattle.gauges.proofs.Folded.{value_is}

passes : (c : Check) (cs : List Check) → c.fault ≡ none → verdict (c ∷ cs) ≡ verdict cs
passes c cs e = rw e

stops : (c : Check) (cs : List Check) (place : ℕ) → c.fault ≡ found place → verdict (c ∷ cs) ≡ refused c.number place
stops c cs place e = rw e

module _ (G : Groups) (g : ℕ) (xs : List Float) (as_many : length xs ≡ G.n) where
  abbrev n : ℕ
  n = G.n

  abbrev d : ℕ
  d = G.count

  abbrev v : ℕ → ℤ
  v = column G.v.now G.first G.cols g

  abbrev x : ℕ → Float
  x = read xs

  abbrev from13 : List Check
  from13 = running_check n v x g ∷ []

  abbrev from12 : List Check
  from12 = powers_check n v g ∷ from13

  abbrev from24 : List Check
  from24 = group_check d g ∷ from12

  abbrev answer : Gauged
  answer = evaluate_of n d v x g

  sought : {r : Option ℕ} → r ≡ position (λ x. not (positive x)) xs → (readings_check n x).fault ≡ finding r
  sought e =
      ap (first (λ j. not (positive (x j))) 0) (sym as_many) ∙ first_position (λ x. not (positive x)) nan xs ∙ ap finding (sym e)

  pub bad-reading : (k : ℕ) → Some k ≡ position (λ x. not (positive x)) xs → answer ≡ refusal 11 k (x k)
  bad-reading k e = ap (gauged_by n v x) (stops (readings_check n x) from24 k (sought e))

  module _ (good : None ≡ position (λ x. not (positive x)) xs) where
    past11 : {w : Verdict} → verdict from24 ≡ w → answer ≡ gauged_by n v x w
    past11 e = ap (gauged_by n v x) (passes (readings_check n x) from24 (sought good) ∙ e)

    pub no_group : d ≤ g → answer ≡ refusal 24 g nought
    no_group h = past11 (stops (group_check d g) from12 g (ap (unless_at g) (le-ltb g d h)))

    module _ (there : g < d) (es : List ℤ) (E : Exponents n v es) where
      past24 : {w : Verdict} → verdict from12 ≡ w → answer ≡ gauged_by n v x w
      past24 e = past11 (passes (group_check d g) from12 (ap (unless_at g) (lt-ltb g d there)) ∙ e)

      powers : (b : Bool) → list_all power_in_range es ≡ b → (powers_check n v g).fault ≡ unless_at g b
      powers b e =
          ap (λ f. unless_at g (is_none f)) (
          first_cong (λ j. not (power_in_range (v j))) (λ j. not (power_in_range (nth es j))) 0 n (λ j i. ap (λ z. not (power_in_range z)) (sym (E.each j i.high)))
          ∙ ap (first (λ j. not (power_in_range (nth es j))) 0) (sym E.count)
          )
          ∙ ap (unless_at g) (sym (all_passes power_in_range (pos 0) es) ∙ e)

      pub large_power : false ≡ list_all power_in_range es → answer ≡ refusal 12 g nought
      large_power e = past24 (stops (powers_check n v g) from13 g (powers false (sym e)))

      module _ (small : true ≡ list_all power_in_range es) (r : Float) (last : r ≡ value_by xs es) where
        past12 : {w : Verdict} → verdict from13 ≡ w → answer ≡ gauged_by n v x w
        past12 e = past24 (passes (powers_check n v g) from13 (powers true (sym small)) ∙ e)

        value_found : r ≡ group_value n v x
        value_found =
            last ∙ value_is xs es (as_many ∙ sym E.count) ∙ ap (λ k. group_value k (nth es) x) as_many
            ∙ value_same n (nth es) v x x E.each (λ j _. refl)

        -- the last value tells whether any running value is out
        told13 : (b : Bool) → b ≡ is_out r → (running_check n v x g).fault ≡ unless_at g (not b)
        told13 b e = ap (λ t. unless_at g (not t)) (last_tells n v x ∙ ap is_out (sym value_found) ∙ sym e)

        pub out_of_range : true ≡ is_out r → answer ≡ refusal 13 g nought
        out_of_range e = past12 (stops (running_check n v x g) [] g (told13 true e))

        pub in_range : false ≡ is_out r → answer ≡ value r
        in_range e = past12 {w = taken} (passes (running_check n v x g) [] (told13 false e)) ∙ ap value (sym value_found)
