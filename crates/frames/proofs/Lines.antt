-- The first of a text's lines, as the code tests it and as the definitions have it.
-- Assumes nothing.
use mathlib.Core.Path.{◌≡◌, refl, sym, ap, ◌∙◌}
use mathlib.Core.Bool.{Bool, true, false, ◌&&◌, and-false, and_assoc, false≢true}
use mathlib.Core.List.{List, [], ◌∷◌}
use Prim.Native.Nat.{ℕ, zero, suc, ◌+◌, ◌-◌, ◌*◌, ◌/◌, ◌<◌, ◌≤◌}
use native.Mathlib.Numerals.{add-one}
use native.Mathlib.Omega.{arith}
use borrow.Author.Tests.{ne_eqb, eq-eqb, eqb-true, leb-true, leb-false}
use lib.Dec.{leb, eqb, eqb-zero-suc, eqb-suc-zero, eqb-suc-suc}
use lib.ListN.{length, get_or, take, drop, get_or-eq_default, length-drop}
use lib.Seq.{length-take-le}
use Rattle.std.proofs.lemmas.List.{take_rest}
use Rattle.whole.proofs.Tests.{and_both}
use Rattle.rules.specs.Bytes.{byte_at}
use Rattle.rules.specs.Frames.{newline, digit, all_digits, unhex, TextLine, whole, torn, before, lines_of, is_frame, frame_of}
use Rattle.frames.specs.declared.line.Line.{Line}
use Rattle.frames.specs.Line.{first_is, IsFirst}
use Rattle.frames.proofs.Digits.{is_digit}
use Rattle.frames.proofs.Numbers.{length-unhex}

-- ---- so many digits and nothing else
-- a text starts with them and a newline
unfoldable pub starts_line : (digits : ℕ) → List ℕ → Bool
starts_line j t = all_digits (take j t) && eqb (byte_at t j) newline

-- the newline after the digits is a byte of the text
pub starts_room : (j : ℕ) (t : List ℕ) → starts_line j t ≡ true → j < length t
unfolding starts_line
starts_room j t h = go (leb (length t) j) refl
  where
    e : get_or t j 0 ≡ 10
    e = eqb-true _ 10 (and_both (all_digits (take j t)) _ h).1

    go : (b : Bool) → leb (length t) j ≡ b → j < length t
    go true q = let z : get_or t j 0 ≡ 0 = get_or-eq_default t 0 (leb-true _ _ q) in absurd (omega (arith, e))
    go false q = leb-false _ _ q

-- the first line has them
unfoldable first_has : (digits : ℕ) → List TextLine → Bool
first_has j [] = false
first_has j (torn t ∷ ls) = false
first_has j (whole t ∷ ls) = eqb (length t) j && all_digits t

before-zero : (b : ℕ) (ls : List TextLine) → first_has zero (before b ls) ≡ false
unfolding first_has
before-zero b [] = refl
before-zero b (whole t ∷ ls) = rw eqb-suc-zero
before-zero b (torn t ∷ ls) = refl

before-suc : (b j : ℕ) (ls : List TextLine) → first_has (suc j) (before b ls) ≡ is_digit b && first_has j ls
unfolding first_has
before-suc b j [] = sym (and-false (is_digit b))
before-suc b j (torn t ∷ ls) = sym (and-false (is_digit b))
before-suc b j (whole t ∷ ls) = rw eqb-suc-suc (swap (eqb (length t) j) (is_digit b) (all_digits t))
  where
    swap : (x y z : Bool) → x && (y && z) ≡ y && (x && z)
    swap true y z = refl
    swap false true z = refl
    swap false false z = refl

-- the first line has j digits and nothing else exactly when j digits and a newline come first
first_has_lem : (j : ℕ) (t : List ℕ) → first_has j (lines_of t) ≡ starts_line j t
unfolding lines_of starts_line first_has digit
first_has_lem zero [] = refl
first_has_lem (suc j) [] = refl
first_has_lem zero (b ∷ t) = go (eqb b newline)
  where
    go : (e : Bool) → first_has zero (elim e [ true ↦ whole [] ∷ lines_of t | false ↦ before b (lines_of t) ]) ≡ e
    go true = refl
    go false = before-zero b (lines_of t)
first_has_lem (suc j) (b ∷ t) = go (first_has_lem j t) (eqb b newline) refl
  where
    go : first_has j (lines_of t) ≡ starts_line j t → (e : Bool) → eqb b newline ≡ e
        → first_has (suc j) (elim e [ true ↦ whole [] ∷ lines_of t | false ↦ before b (lines_of t) ]) ≡ is_digit b && all_digits (take j t) && eqb (get_or t j 0) newline
    go i true h = let e : b ≡ 10 = eqb-true b 10 h in rw (e, eqb-zero-suc)
    go i false h = before-suc b j (lines_of t) ∙ ap (λ (x : Bool). is_digit b && x) i ∙ sym (and_assoc (is_digit b) _ _)

-- .. and then it is those digits, and the other lines are those of what follows
pub first_line : (j : ℕ) (t : List ℕ) → starts_line j t ≡ true
    → lines_of t ≡ whole (take j t) ∷ lines_of (drop (suc j) t)
unfolding lines_of starts_line digit
first_line zero [] h = absurd (false≢true h)
first_line (suc j) [] h = absurd (false≢true h)
first_line zero (b ∷ t) h = go (eqb b newline) h
  where
    go : (e : Bool) → e ≡ true
        → elim e [ true ↦ whole [] ∷ lines_of t | false ↦ before b (lines_of t) ] ≡ whole [] ∷ lines_of t
    go true e = refl
    go false e = absurd (false≢true e)
first_line (suc j) (b ∷ t) h = go (first_line j t rest) (eqb b newline) refl
  where
    digit_first : is_digit b ≡ true
    digit_first = (and_both (is_digit b) _ (and_both (is_digit b && all_digits (take j t)) _ h).0).0

    rest : starts_line j t ≡ true
    rest = (and_both (is_digit b) _ (sym (and_assoc (is_digit b) (all_digits (take j t)) (eqb (get_or t j 0) newline)) ∙ h)).1

    go : lines_of t ≡ whole (take j t) ∷ lines_of (drop (suc j) t) → (e : Bool) → eqb b newline ≡ e
        → elim e [ true ↦ whole [] ∷ lines_of t | false ↦ before b (lines_of t) ] ≡ whole (b ∷ take j t) ∷ lines_of (drop (suc j) t)
    go i true e = let f : b ≡ 10 = eqb-true b 10 e in absurd (false≢true (rw f at digit_first))
    go i false e = ap (before b) i

-- ---- a line of so many bytes, the first of which is kind
module _ (kind count : ℕ) (t : List ℕ) where
  -- it has twice as many digits
  starts : first_is kind count (lines_of t) ≡ starts_line (2 * count) t && first_is kind count (lines_of t)
  unfolding first_is is_frame first_has
  starts = go (lines_of t) ∙ ap (λ (x : Bool). x && first_is kind count (lines_of t)) (first_has_lem (2 * count) t)
    where
      twice : (x y : Bool) → x && y ≡ x && (x && y)
      twice true y = refl
      twice false y = refl

      go : (ls : List TextLine) → first_is kind count ls ≡ first_has (2 * count) ls && first_is kind count ls
      go [] = refl
      go (torn u ∷ ls) = refl
      go (whole u ∷ ls) = twice (eqb (length u) (2 * count) && all_digits u) _

  pub not_first : starts_line (2 * count) t ≡ false → first_is kind count (lines_of t) ≡ false
  not_first e = rw e at starts

  -- so the text begins with it, and the next line starts after its newline
  pub is_first : first_is kind count (lines_of t) ≡ true → starts_line (2 * count) t ≡ true
  is_first h = (and_both _ (first_is kind count (lines_of t)) (sym starts ∙ h)).0

  -- it is a whole line of the digits
  pub first_by_kind : starts_line (2 * count) t ≡ true
      → first_is kind count (lines_of t) ≡ eqb (byte_at (frame_of (whole (take (2 * count) t))) 0) kind
  unfolding first_is is_frame starts_line
  first_by_kind h =
      let n : length (take (2 * count) t) ≡ 2 * count = length-take-le (2 * count) t (omega (arith, starts_room (2 * count) t h)) in
      rw (first_line (2 * count) t h, eq-eqb _ _ n, (and_both (all_digits (take (2 * count) t)) _ h).0)

  pub good-line : (k : ℕ) → k ≡ suc (2 * count) → first_is kind count (lines_of t) ≡ true
      → (is_frame kind count (whole (take (2 * count) t)) ≡ true) × (lines_of t ≡ whole (take (2 * count) t) ∷ lines_of (drop k t))
  unfolding first_is
  good-line k e h =
      let l = first_line (2 * count) t (is_first h) in
      (ap (first_is kind count) (sym l) ∙ h, rw e l)

  -- what the code finds
  pub off-short : length t ≤ 2 * count → first_is kind count (lines_of t) ≡ false
  unfolding starts_line
  off-short h = not_first (rw (get_or-eq_default t 0 h, and-false))

  pub off-end : (get_or t (2 * count) 0 ≡ 10 → ⊥) → first_is kind count (lines_of t) ≡ false
  unfolding starts_line
  off-end f = not_first (rw (ne_eqb (get_or t (2 * count) 0) 10 f, and-false))

  pub off-digits : all_digits (take (2 * count) t) ≡ false → first_is kind count (lines_of t) ≡ false
  unfolding starts_line
  off-digits e = not_first (rw e)

  -- the digits and the newline are there
  module _ (bytes : List ℕ) (clean : all_digits (take (2 * count) t) ≡ true) (end : get_or t (2 * count) 0 ≡ 10)
      (bytes_are : bytes ≡ unhex (length (take (2 * count) t) / 2) (take (2 * count) t)) where
    on : starts_line (2 * count) t ≡ true
    unfolding starts_line
    on = rw (clean, end)

    by_kind : first_is kind count (lines_of t) ≡ eqb (get_or bytes 0 0) kind
    unfolding frame_of
    by_kind = rw bytes_are (first_by_kind on)

    pub off-kind : (get_or bytes 0 0 ≡ kind → ⊥) → first_is kind count (lines_of t) ≡ false
    off-kind f = by_kind ∙ ne_eqb (get_or bytes 0 0) kind f

    pub on-kind : {x : Line} → get_or bytes 0 0 ≡ kind → x.bytes.items ≡ bytes
        → x.rest.now ≡ take (length t - (2 * count + 1)) (drop (2 * count + 1) t) → IsFirst kind count t x
    unfolding first_is frame_of
    on-kind {x} f e after =
        let r : x.rest.now ≡ drop (suc (2 * count)) t = rw (← (add-one (2 * count))) (after ∙ take_rest t (2 * count + 1)) in
        let room = starts_room (2 * count) t on in
        let n : length (take (2 * count) t) ≡ 2 * count = length-take-le (2 * count) t (omega arith) in
        let h : length (take (2 * count) t) / 2 ≡ count = omega arith in
        let same : lines_of t ≡ whole (take (2 * count) t) ∷ lines_of x.rest.now = rw r (first_line (2 * count) t on) in
        record {
          line = whole (take (2 * count) t);
          lines = same;
          form = sym (ap (first_is kind count) same) ∙ by_kind ∙ eq-eqb _ _ f;
          bytes = e ∙ bytes_are;
          len = ap length (e ∙ bytes_are) ∙ length-unhex _ _ ∙ h;
          shorter = omega (arith, ap length r, length-drop (suc (2 * count)) t);
        }
