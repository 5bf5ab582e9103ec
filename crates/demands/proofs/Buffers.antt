-- Lent buffers (R2.10): what a filled buffer holds at its front, and what it keeps behind that.
use mathlib.Core.Path.{◌≡◌, ◌∙◌}
use mathlib.Core.List.{List}
use Prim.Native.Nat.{ℕ, ◌≤◌}
use native.Mathlib.Omega.{arith}
use lib.ListN.{length, drop, length-append, length-drop}
use lib.Seq.{drop_at}
use Rattle.rules.specs.Calls.{filled}

-- ---- what a call leaves of a lent buffer behind the first count entries
pub record KeepsRest {A : Type 0} (count : ℕ) (lent after : List A) : Type 0 where
  pub rest : drop count after ≡ drop count lent
  pub same_length : length after ≡ length lent

pub filled_keeps : {A : Type 0} (count : ℕ) (contents lent : List A) → length contents ≡ count → count ≤ length lent
    → KeepsRest count lent (filled contents lent)
filled_keeps count contents lent e h = record {
  rest = drop_at contents (drop (length contents) lent) count e ∙ rw e;
  same_length = omega (arith, length-append contents (drop (length contents) lent), length-drop (length contents) lent);
}
