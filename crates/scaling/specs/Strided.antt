-- The loops on a flat list, as functions of the turns done: what the list is then, and whether a value was beyond M.
use Rattle.std.specs.Prelude.{◌≡◌, Bool, false, cond, ◌||◌, List, ℕ, zero, suc, ◌+◌, ◌*◌, ◌/◌, ◌%◌, ◌<◌, length, set, ℤ, pos, neg_ℤ, ◌+ℤ◌, ◌*ℤ◌}
use Rattle.whole.specs.Lists.{nth}
use Rattle.rules.specs.Limits.{beyond}

-- each place at + k * stride, k below count, is an index of xs
pub record Within (xs : List ℤ) (at stride count : ℕ) : Type 0 where
  pub each : (k : ℕ) → k < count → at + k * stride < length xs

-- what is stored for z
abbrev pub keep : ℤ → ℤ
keep z = cond (beyond z) (pos 0) z

-- the value of a turn of an addition, of the list as it is then
abbrev pub sum_at : ℤ → (to from : ℕ) → List ℤ → ℤ
sum_at q to from xs = nth xs to +ℤ q *ℤ nth xs from

unfoldable pub add_f : List ℤ → (to from stride : ℕ) → ℤ → (turns : ℕ) → List ℤ
add_f xs to from stride q zero = xs
add_f xs to from stride q (suc k) =
    set (add_f xs to from stride q k) (to + k * stride) (keep (sum_at q (to + k * stride) (from + k * stride) (add_f xs to from stride q k)))

unfoldable pub add_o : List ℤ → (to from stride : ℕ) → ℤ → (turns : ℕ) → Bool
add_o xs to from stride q zero = false
add_o xs to from stride q (suc k) = beyond (sum_at q (to + k * stride) (from + k * stride) (add_f xs to from stride q k)) || add_o xs to from stride q k

-- the list was entry and is exit after the turns of an addition, or one of them met a value beyond M; whether one did
pub record Added (entry exit : List ℤ) (to from stride : ℕ) (q : ℤ) (turns : ℕ) (over : Bool) : Type 0 where
  pub flag : over ≡ add_o entry to from stride q turns
  pub list : over ≡ false → exit ≡ add_f entry to from stride q turns

unfoldable pub swap_f : List ℤ → (one two stride : ℕ) → (turns : ℕ) → List ℤ
swap_f xs x y stride zero = xs
swap_f xs x y stride (suc k) =
    set (set (swap_f xs x y stride k) (x + k * stride) (nth (swap_f xs x y stride k) (y + k * stride))) (y + k * stride) (nth (swap_f xs x y stride k) (x + k * stride))

unfoldable pub neg_f : List ℤ → (at stride : ℕ) → (turns : ℕ) → List ℤ
neg_f xs at stride zero = xs
neg_f xs at stride (suc k) = set (neg_f xs at stride k) (at + k * stride) (keep (neg_ℤ (nth (neg_f xs at stride k) (at + k * stride))))

-- where entry k of a turned list stood before: in its row, `by` places on
abbrev pub rotate_from : (width by k : ℕ) → ℕ
rotate_from width by k = k / width * width + (k % width + by) % width

unfoldable pub rotate_f : (xs old : List ℤ) → (width by : ℕ) → (turns : ℕ) → List ℤ
rotate_f xs old width by zero = xs
rotate_f xs old width by (suc k) = set (rotate_f xs old width by k) k (nth old (rotate_from width by k))
