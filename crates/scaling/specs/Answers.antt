-- A build's answer as C reads it.
use Rattle.std.specs.Prelude.{Result, Ok, Err}
use Rattle.checks.specs.Refusals.{number_of, place_of}
use Rattle.checks.specs.declared.Refusal.{Refusal}
use Rattle.scaling.specs.declared.Built.{Built}
use Rattle.scaling.specs.declared.BuildAnswer.{BuildAnswer}

-- the number 0 with what the build came to, or a refusal's number and place with zeros
abbrev pub answer_of : Result Built Refusal → BuildAnswer
answer_of (Ok b) = record { number = 0; place = 0; rank = b.rank; moduli = b.moduli; steps = b.steps }
answer_of (Err e) = record { number = number_of e; place = place_of e; rank = 0; moduli = 0; steps = 0 }
