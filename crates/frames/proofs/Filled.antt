-- How long the lines of a solution are.
-- Assumes nothing.
use mathlib.Core.Path.{◌≡◌}
use mathlib.Core.List.{List, ◌++◌}
use Prim.Native.Nat.{ℕ, ◌+◌, ◌*◌, ◌≤◌}
use native.Mathlib.Nat.{mul-le-mul, mul-add, mul_left_comm}
use native.Mathlib.Omega.{arith}
use lib.ListN.{length, take, length-append}
use lib.Seq.{length-take-le}
use lib.IntN.{ℤ}
use Rattle.rules.specs.Bytes.{byte, four_bytes}
use Rattle.rules.specs.Frames.{term_lines}
use Rattle.scaling.specs.declared.Built.{Built}
use Rattle.frames.specs.declared.input.Input.{Input}
use Rattle.frames.specs.Output.{Room, columns, sizes_text, rows_text, solution_text}
use Rattle.frames.proofs.Printed.{frame-length, rows-length, table-text, terms-length}

module _ {x : Input} {b : Built} {d : ℕ} {h v w kept translated : List ℤ}
    (room : Room x b d h v w kept translated) where
  -- of the rows at the front of a table with so many columns
  rows-size : (kind count most : ℕ) (zs : List ℤ) → count ≤ most → count * columns x b ≤ length zs
      → length (rows_text kind (columns x b) (take (count * columns x b) zs)) ≤ most * 195
  rows-size kind count most zs k l =
      let e = length-take-le (count * columns x b) zs l in
      let r = rows-length kind count (columns x b) (take (count * columns x b) zs) (omega arith) in
      let size : 3 + 8 * columns x b ≤ 195 = omega (arith, room.few-columns) in
      rw (table-text kind count (columns x b) (take (count * columns x b) zs) (omega (arith, x.sized.some-columns)) e)
      (omega (arith, mul-le-mul {n₂ = most} {m₂ = 195} k size))

  terms-size : (let count = length x.coefficients.items in
      length (term_lines d (take count kept) (take (count * d) translated))) ≤ 8896
  terms-size =
      let count : ℕ = length x.coefficients.items in
      let k = length-take-le count kept room.kept-room in
      let l = length-take-le (count * d) translated room.translated-room in
      let e = terms-length d (take count kept) (take (count * d) translated) (rw (k, l) (omega arith)) in
      let s : count * (11 + 8 * d) ≡ count * 11 + 8 * (count * d) = rw (mul-add, mul_left_comm count 8 d) in
      rw (e, k) (omega (arith, x.sized.few-terms, room.few-exponents))

  sizes-length : length (sizes_text x.m x.n b) ≤ 19
  unfolding sizes_text
  sizes-length =
      let line : List ℕ = byte 0x81 ++ byte x.m ++ byte x.n ++ byte b.moduli ++ byte b.rank ++ four_bytes b.steps in
      omega (arith, frame-length line)

  pub solution-fits : length (solution_text x b d h v w kept translated) ≤ 20480
  unfolding solution_text
  solution-fits =
      simp length-append (omega (
        arith,
        sizes-length,
        rows-size 0x82 x.m 8 h x.sized.few-rows room.h-room,
        rows-size 0x83 (columns x b) 24 v room.few-columns room.v-room,
        rows-size 0x84 (columns x b) 24 w room.few-columns room.w-room,
        terms-size,
      ))
