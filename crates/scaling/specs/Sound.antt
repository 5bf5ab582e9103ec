-- What is true of every work state. No file that names the state is imported here, since the state itself names this one.
use Rattle.std.specs.Prelude.{◌≡◌, Bool, false, List, ℕ, ◌≤◌, length, ℤ, nat_abs}
use Rattle.whole.specs.Lists.{nth}
use Rattle.rules.specs.Limits.{M, room_h, room_v}

-- every entry is within M
pub record Small (xs : List ℤ) : Type 0 where
  pub at : (i : ℕ) → nat_abs (nth xs i) ≤ M

-- the sizes m and n, the lengths of the arrays, and where no value was beyond M that none stands in them
pub record Sound (m n : ℕ) (t v w : List ℤ) (over : Bool) : Type 0 where
  pub rows : m ≤ 8
  pub cols : n ≤ 24
  pub t_long : length t ≡ room_h
  pub v_long : length v ≡ room_v
  pub w_long : length w ≡ room_v
  pub t_small : over ≡ false → Small t
  pub v_small : over ≡ false → Small v
  pub w_small : over ≡ false → Small w
