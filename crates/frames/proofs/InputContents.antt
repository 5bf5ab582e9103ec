-- What a line's numbers are, read from its bytes; and those of several lines, with one line more.
-- Assumes nothing.
use mathlib.Core.Path.{◌≡◌, sym, ap, ap₂, ◌∙◌}
use mathlib.Core.List.{List, [], ◌∷◌, ◌++◌, map, map-append, append-nil, append_assoc}
use Prim.Native.Nat.{ℕ, ◌+◌, ◌-◌, ◌*◌, ◌/◌}
use native.Mathlib.Omega.{arith}
use lib.ListN.{length, get_or, take, drop, length-drop}
use lib.Seq.{get_or-drop}
use Rattle.std.proofs.lemmas.List.{take_rest}
use lib.IntN.{ℤ}
use Rattle.whole.specs.Lists.{join}
use Rattle.rules.specs.Bytes.{short, long, shorts}
use Rattle.rules.specs.Frames.{TextLine, frame_of, row_modulus, row_entries, term_coefficient, term_exponents}
use Rattle.theory.proofs.Bytes.{length-shorts}

-- ---- a line's numbers
module _ (l : TextLine) (bytes : List ℕ) (e : bytes ≡ frame_of l) where
  pub modulus_is : short (get_or bytes 1 0 ∷ get_or bytes 2 0 ∷ []) ≡ row_modulus l
  unfolding row_modulus short
  modulus_is = rw e (simp get_or-drop)

  pub coefficient_is : long (get_or bytes 1 0 ∷ get_or bytes 2 0 ∷ get_or bytes 3 0 ∷ get_or bytes 4 0 ∷ []) ≡ term_coefficient l
  unfolding term_coefficient long
  coefficient_is = rw e (simp get_or-drop)

  -- the n numbers after the first bytes
  after : (n first : ℕ) → length bytes ≡ first + 2 * n
      → shorts (length (take (length bytes - first) (drop first bytes)) / 2) (take (length bytes - first) (drop first bytes)) ≡ shorts n (drop first (frame_of l))
  after n first k =
      let h : length (drop first bytes) / 2 ≡ n = omega (arith, length-drop first bytes) in
      rw (take_rest bytes first, h, e)

  pub entries_are : (n : ℕ) → length bytes ≡ 3 + 2 * n
      → shorts (length (take (length bytes - 3) (drop 3 bytes)) / 2) (take (length bytes - 3) (drop 3 bytes)) ≡ row_entries n l
  unfolding row_entries
  entries_are n k = after n 3 k

  pub exponents_are : (n : ℕ) → length bytes ≡ 5 + 2 * n
      → shorts (length (take (length bytes - 5) (drop 5 bytes)) / 2) (take (length bytes - 5) (drop 5 bytes)) ≡ term_exponents n l
  unfolding term_exponents
  exponents_are n k = after n 5 k

pub length-entries : (n : ℕ) (l : TextLine) → length (row_entries n l) ≡ n
unfolding row_entries
length-entries n l = length-shorts n (drop 3 (frame_of l))

pub length-exponents : (n : ℕ) (l : TextLine) → length (term_exponents n l) ≡ n
unfolding term_exponents
length-exponents n l = length-shorts n (drop 5 (frame_of l))

-- ---- one line more
pub number_more : (f : TextLine → ℤ) (ls : List TextLine) (l : TextLine) {a b : List ℤ} (z : ℤ) → b ≡ a ++ z ∷ []
    → a ≡ map f ls → z ≡ f l → b ≡ map f (ls ++ l ∷ [])
number_more f ls l z e h g = e ∙ ap₂ (λ (a : List ℤ) (z : ℤ). a ++ z ∷ []) h g ∙ sym (map-append f ls (l ∷ []))

join_more : (f : TextLine → List ℤ) (ls : List TextLine) (l : TextLine)
    → join (map f (ls ++ l ∷ [])) ≡ join (map f ls) ++ f l
join_more f [] l = append-nil (f l)
join_more f (k ∷ ls) l = ap (λ (r : List ℤ). f k ++ r) (join_more f ls l) ∙ sym (append_assoc (f k) (join (map f ls)) (f l))

pub numbers_more : (f : TextLine → List ℤ) (ls : List TextLine) (l : TextLine) {a b : List ℤ} (zs : List ℤ)
    → b ≡ a ++ zs → a ≡ join (map f ls) → zs ≡ f l → b ≡ join (map f (ls ++ l ∷ []))
numbers_more f ls l zs e h g = e ∙ ap₂ ◌++◌ h g ∙ sym (join_more f ls l)
