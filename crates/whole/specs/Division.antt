-- The floored quotient: the largest whole number that is no larger than a divided by b.
-- (The quotient cut toward zero and its remainder are the language's own, quot_z and rem_z of lib.Signed.)
use Rattle.std.specs.Prelude.{zero, suc, ◌/◌, ℤ, pos, negsuc}

-- by the signs of a and b; negsuc a is -(a + 1)
abbrev pub floor_z : ℤ → ℤ → ℤ
floor_z (pos a) (pos b) = pos (a / b)
floor_z (negsuc a) (pos b) = negsuc (a / b)
floor_z (pos zero) (negsuc b) = pos zero
floor_z (pos (suc a)) (negsuc b) = negsuc (a / suc b)
floor_z (negsuc a) (negsuc b) = pos (suc a / suc b)
