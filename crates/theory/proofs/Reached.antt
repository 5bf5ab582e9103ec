-- The bounds of Depth are reached: rows of 24 columns in which (A) is repeated 66 and 68 times.
use mathlib.Core.Path.{◌≡◌, refl}
use mathlib.Core.Bool.{false}
use mathlib.Core.List.{List, [], ◌∷◌, map}
use Prim.Native.Nat.{ℕ, ◌+◌}
use lib.ListN.{replicate}
use lib.IntN.{pos}
use Rattle.rules.specs.Limits.{M}
use Rattle.rules.specs.Search.{total, smallest, first}
use Rattle.rules.specs.Steps.{State, on_t, get, step, add_step}
use Rattle.rules.specs.Stages.{size, next, repeat_a, eliminate}
use Rattle.theory.proofs.Fibonacci.{fib}

-- one row, with these entries
abbrev pub one_row : List ℕ → State
one_row xs = record { lines = map (λ x. record { t = pos x ∷ []; v = []; w = [] }) xs; steps = 0; over = false }

-- all within M
pub takes_66 : (eliminate on_t 0 24 0 (one_row (fib 46 ∷ fib 45 ∷ replicate 22 M))).steps ≡ 66
unfolding eliminate repeat_a next total smallest first size get add_step step fib
takes_66 = refl

-- only the smallest
pub takes_68 : (eliminate on_t 0 24 0 (one_row ((M + fib 46) ∷ fib 47 ∷ replicate 22 M))).steps ≡ 68
unfolding eliminate repeat_a next total smallest first size get add_step step fib
takes_68 = refl
