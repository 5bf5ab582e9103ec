-- A text that is printed part by part.
-- Assumes nothing.
use mathlib.Core.Path.{◌≡◌, sym, ap, ◌∙◌}
use mathlib.Core.List.{List, [], ◌++◌, append_assoc, append-nil}
use Prim.Native.Nat.{ℕ, ◌+◌, ◌≤◌}
use native.Mathlib.Omega.{arith}
use lib.ListN.{length, length-append}

-- what is printed, and what is to come, are what was there at the start and the whole text
pub record Printing (start whole out rest : List ℕ) : Type 0 where
  pub so_far : out ++ rest ≡ start ++ whole

-- what comes next, and what after it
pub record Next (rest next after : List ℕ) : Type 0 where
  pub is : rest ≡ next ++ after

module _ {start whole out rest next after : List ℕ} (p : Printing start whole out rest) (n : Next rest next after) where
  pub next-fits : length start + length whole ≤ 20480 → length out + length next ≤ 20480
  next-fits h =
      let a = length-append start whole in
      omega (arith, ap length p.so_far, ap length n.is, length-append out rest, length-append next after)

  pub next-printed : {new : List ℕ} → new ≡ out ++ next → Printing start whole new after
  next-printed {new} f = record {
    so_far = rw (f, append_assoc, ← n.is) p.so_far;
  }

pub all-printed : {start whole out rest : List ℕ} → Printing start whole out rest → rest ≡ [] → out ≡ start ++ whole
all-printed {start} {whole} {out} {rest} p e = sym (append-nil out) ∙ ap (λ (t : List ℕ). out ++ t) (sym e) ∙ p.so_far
