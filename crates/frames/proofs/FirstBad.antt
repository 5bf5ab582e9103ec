-- One step of the definitions' search for the first line that is bad or missing.
-- Assumes nothing.
use mathlib.Core.Path.{◌≡◌, refl}
use mathlib.Core.Bool.{Bool, true, false}
use mathlib.Core.List.{List, [], ◌∷◌}
use Prim.Native.Nat.{ℕ, zero, suc, ◌+◌, ◌*◌, ◌<◌}
use native.Mathlib.Omega.{arith}
use lib.Dec.{eqb}
use lib.ListN.{length}
use Rattle.rules.specs.Search.{found}
use Rattle.rules.specs.Frames.{newline, TextLine, whole, torn, before, lines_of, is_row, is_term, first_bad}
use Rattle.frames.specs.Line.{first_is}

module _ (n terms place : ℕ) where
  -- ---- matrix lines
  pub row-passes : (rows : ℕ) {ls next : List TextLine} {l : TextLine} → ls ≡ l ∷ next → is_row n l ≡ true
      → first_bad n (suc rows) terms place ls ≡ first_bad n rows terms (suc place) next
  unfolding first_bad
  row-passes rows e h = rw (e, first_bad, h)

  pub row-stops : (rows : ℕ) (ls : List TextLine) → first_is 2 (3 + 2 * n) ls ≡ false
      → first_bad n (suc rows) terms place ls ≡ found place
  unfolding first_bad first_is
  row-stops rows [] h = refl
  row-stops rows (l ∷ ls) h = rw (h, first_bad)

  -- ---- term lines
  pub term-passes : {ls next : List TextLine} {l : TextLine} → ls ≡ l ∷ next → is_term n l ≡ true
      → first_bad n zero (suc terms) place ls ≡ first_bad n zero terms (suc place) next
  unfolding first_bad
  term-passes e h = rw (e, first_bad, h)

-- a text that is not empty has a line
data Some : List TextLine → Type 0 where
  some : {l : TextLine} {ls : List TextLine} → Some (l ∷ ls)

lines-some : (t : List ℕ) → 0 < length t → Some (lines_of t)
unfolding lines_of
lines-some [] h = absurd (omega arith)
lines-some (b ∷ t) h = go (eqb b newline)
  where
    after : (ls : List TextLine) → Some (before b ls)
    after [] = some
    after (whole t ∷ ls) = some
    after (torn t ∷ ls) = some

    go : (e : Bool) → Some (elim e [ true ↦ whole [] ∷ lines_of t | false ↦ before b (lines_of t) ])
    go true = some
    go false = after (lines_of t)

pub term-stops : (n terms place : ℕ) (t : List ℕ) → 0 < length t → first_is 3 (5 + 2 * n) (lines_of t) ≡ false
    → first_bad n zero (suc terms) place (lines_of t) ≡ found place
unfolding first_bad first_is
term-stops n terms place t h g = go (lines-some t h) g
  where
    go : {ls : List TextLine} → Some ls → first_is 3 (5 + 2 * n) ls ≡ false
        → first_bad n zero (suc terms) place ls ≡ found place
    go some h = rw (h, first_bad)

-- no term line may follow
pub full-stops : (n place : ℕ) (t : List ℕ) → 0 < length t → first_bad n zero zero place (lines_of t) ≡ found place
unfolding first_bad
full-stops n place t h = go (lines-some t h)
  where
    go : {ls : List TextLine} → Some ls → first_bad n zero zero place ls ≡ found place
    go some = refl
