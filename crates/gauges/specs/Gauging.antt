-- How the code holds readings, exponents and answers.
use Rattle.std.specs.Prelude.{◌≡◌, List, ℕ, ◌+◌, ◌*◌, ◌<◌, ◌≤◌, length, ℤ, Float, fold, Result, Ok, Err}
use Rattle.std.specs.List.{zip}
use Rattle.std.specs.Float.{binary64}
use Rattle.std.specs.Float.Ieee.{of_bits}
use Rattle.whole.specs.Lists.{nth}
use Rattle.scaling.specs.Strided.{Within}
use Rattle.rules.specs.Search.{first}
use Rattle.rules.specs.Calls.{verdict}
use Rattle.checks.specs.Refusals.{number_of, place_of}
use Rattle.rules.specs.Gauges as rules
use Rattle.rules.specs.Gauges.{units, after, operate, own_checks, nought, value, refusal, gauged_by}
use Rattle.gauges.specs.declared.Readings as readings
use Rattle.gauges.specs.declared.Gauged as declared
use Rattle.gauges.specs.declared.Gauged.TheVariants.{Value, Refused}
use Rattle.gauges.specs.declared.Fault.{Fault}
use Rattle.gauges.specs.declared.Fault.TheVariants.{Problem, Reading, NoGroup, Exponent, Range}

-- ---- the readings
abbrev pub set_of : readings.Readings → rules.Readings
set_of r = record { values = r.values; count = r.count }

-- ---- the exponents
-- n numbers of a list: at, at + stride, ..
abbrev pub entries : List ℤ → (at stride : ℕ) → ℕ → ℤ
entries es at stride j = nth es (at + j * stride)

-- the exponents of group g: those from first + g on
abbrev pub column : List ℤ → (first stride g : ℕ) → ℕ → ℤ
column es first stride g = entries es (first + g) stride

pub record Table (n groups : ℕ) (es : List ℤ) (first stride : ℕ) : Type 0 where
  pub begins : first + groups ≤ length es
  pub columns : (g : ℕ) → g < groups → Within es (first + g) stride n

-- ---- what the four own checks and the operations come to, of group g among d, with its exponents and the readings
abbrev pub evaluate_of : (n d : ℕ) (exponents : ℕ → ℤ) (readings : ℕ → Float) (group : ℕ) → rules.Gauged
evaluate_of n d v x g = gauged_by n v x (verdict (own_checks n d v x g))

-- ---- what readings come to with as many exponents, both in lists, from 1.0 on as the code has it
abbrev pub value_by : (readings : List Float) (exponents : List ℤ) → Float
value_by xs es = fold (λ r p. after (operate (λ j. p.0)) r (units 0 p.1)) (of_bits binary64 0x3ff0_0000_0000_0000) (zip xs es)

-- ---- n exponents, one for each quantity
pub record Exponents (n : ℕ) (exponents : ℕ → ℤ) (es : List ℤ) : Type 0 where
  pub count : length es ≡ n
  pub each : (j : ℕ) → j < n → nth es j ≡ exponents j

-- ---- what each case of the answer says
abbrev pub told : declared.Gauged → rules.Gauged
told (Value x) = value x
told (Refused number place x) = refusal number place x

abbrev pub refusal_of : Fault → rules.Gauged
refusal_of (Problem r) = refusal (number_of r) (place_of r) nought
refusal_of (Reading place x) = refusal 11 place x
refusal_of (NoGroup g) = refusal 24 g nought
refusal_of (Exponent g) = refusal 12 g nought
refusal_of (Range g) = refusal 13 g nought

abbrev pub told_of : Result Float Fault → rules.Gauged
told_of (Ok x) = value x
told_of (Err f) = refusal_of f
