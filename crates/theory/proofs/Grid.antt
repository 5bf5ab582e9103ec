-- The grid of a matrix, row after row, and such a list read as a matrix of n columns.
use mathlib.Core.Path.{◌≡◌, ◌∙◌, ap}
use mathlib.Core.List.{List}
use Prim.Native.Nat.{ℕ, ◌+◌, ◌*◌, ◌≤◌, ◌<◌}
use native.Mathlib.Omega.{arith}
use native.Mathlib.Nat.{mul-le-mul}
use lib.Arith.{digits_lt}
use lib.ListN.{length, drop, get_or-append}
use lib.IntN.{ℤ, pos}
use Rattle.whole.specs.Lists.{nth, tab, join}
use Rattle.whole.specs.Matrix.{Matrix}
use Rattle.whole.proofs.Lists.{tab-cong, length-tab, nth-tab, length-join, join-at, lists-same}
use Rattle.rules.specs.Calls.{grid, filled}

abbrev pub table : (n : ℕ) → List ℤ → Matrix
table n xs i j = nth xs (i * n + j)

pub grid_cong : (m n : ℕ) (A B : Matrix) → ((i j : ℕ) → i < m → j < n → A i j ≡ B i j) → grid m n A ≡ grid m n B
grid_cong m n A B h =
    ap join (tab-cong m (λ i. tab n (λ j. A i j)) (λ i. tab n (λ j. B i j)) (λ i a. tab-cong n (λ j. A i j) (λ j. B i j) (λ j b. h i j a b)))

pub length-grid : (m n : ℕ) (A : Matrix) → length (grid m n A) ≡ m * n
length-grid m n A = length-join n m (λ i. tab n (λ j. A i j)) (λ i a. length-tab n (λ j. A i j))

pub grid_size : {m n a b : ℕ} → m ≤ a → n ≤ b → (A : Matrix) → length (grid m n A) ≤ a * b
grid_size {m} {n} h g A = omega (arith, length-grid m n A, mul-le-mul h g)

pub table-grid : (m n : ℕ) (A : Matrix) (i j : ℕ) → i < m → j < n → table n (grid m n A) i j ≡ A i j
table-grid m n A i j a b =
    join-at n m (λ i. tab n (λ j. A i j)) (pos 0) (λ i a. length-tab n (λ j. A i j)) i j a b
    ∙ nth-tab n (λ j. A i j) j (pos 0) b

pub grid_of_table : (m n : ℕ) (xs : List ℤ) → length xs ≡ m * n → grid m n (table n xs) ≡ xs
grid_of_table m n xs e =
    lists-same m n (grid m n (table n xs)) xs (pos 0) (length-grid m n (table n xs)) e (λ i j a b. table-grid m n (table n xs) i j a b)

-- a lent list that begins with a grid, behind which it is as it was
pub table_filled : (m n : ℕ) (A : Matrix) (lent : List ℤ) (i j : ℕ) → i < m → j < n → table n (filled (grid m n A) lent) i j ≡ A i j
table_filled m n A lent i j a b =
    get_or-append (grid m n A) (drop (length (grid m n A)) lent) (pos 0) (i * n + j) (omega (arith, length-grid m n A, digits_lt a b))
    ∙ table-grid m n A i j a b
