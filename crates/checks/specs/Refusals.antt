-- The number and the place of each refusal (section 4 of the rules), and what an answer of the code says of a verdict.
use Rattle.std.specs.Prelude.{ℕ, List, ◌++◌, codes, Result, Ok, Err}
use Rattle.std.specs.Fmt.{decimal}
use Rattle.rules.specs.Calls.{Verdict, taken, refused}
use Rattle.checks.specs.declared.Refusal.{Refusal}
use Rattle.checks.specs.declared.Refusal.TheVariants.{Sizes, Lengths, Outputs, Modulus, Entry, Exponent, Overflow, NotFree, LargeExponent, BadLine}

abbrev pub number_of : Refusal → ℕ
number_of Sizes = 1
number_of Lengths = 2
number_of Outputs = 3
number_of (Modulus i) = 4
number_of (Entry i) = 5
number_of (Exponent i) = 6
number_of Overflow = 7
number_of (NotFree i) = 8
number_of (LargeExponent i) = 9
number_of (BadLine i) = 10

abbrev pub place_of : Refusal → ℕ
place_of Sizes = 0
place_of Lengths = 0
place_of Outputs = 0
place_of (Modulus i) = i
place_of (Entry i) = i
place_of (Exponent i) = i
place_of Overflow = 0
place_of (NotFree i) = i
place_of (LargeExponent i) = i
place_of (BadLine i) = i

abbrev pub refusal : Refusal → Verdict
refusal r = refused (number_of r) (place_of r)

-- the verdict that an answer tells
abbrev pub told : {A : Type 0} → Result A Refusal → Verdict
told (Ok x) = taken
told (Err r) = refusal r

-- what is printed of a refusal
abbrev pub words : Refusal → List ℕ
words r = codes "refused " ++ decimal (number_of r) ++ codes " at " ++ decimal (place_of r)
