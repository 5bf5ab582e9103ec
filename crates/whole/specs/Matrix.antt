-- Matrices of whole numbers, as functions of row and column, both counted from 0.
use Rattle.std.specs.Prelude.{Bool, true, false, ℕ, eqb, ℤ, pos, ◌*ℤ◌}
use Rattle.whole.specs.Sum.{sum}

abbrev pub Matrix : Type 0
Matrix = ℕ → ℕ → ℤ

-- A · B, where A has n columns and B has n rows
unfoldable pub mul : ℕ → Matrix → Matrix → Matrix
mul n A B r c = sum n (λ k. A r k *ℤ B k c)

-- 1 where the test holds, else 0
abbrev pub bit : Bool → ℤ
bit true = pos 1
bit false = pos 0

-- the identity
abbrev pub δ : Matrix
δ r c = bit (eqb r c)
