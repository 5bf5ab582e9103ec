-- R9.1 to R9.6: when a line of the input is of its form, which line is the first that is bad or missing, and what
-- the lines of a good input say. Each line is told by its number, from 0.
use mathlib.Core.Path.{◌≡◌, refl, subst}
use mathlib.Core.Logic.{◌↔◌}
use mathlib.Core.Bool.{Bool, true, false, cond, ◌&&◌, false≢true}
use mathlib.Core.List.{List, [], ◌∷◌, map}
use Prim.Native.Nat.{ℕ, zero, suc, ◌+◌, ◌-◌, ◌*◌, ◌≤◌, ◌<◌}
use native.Mathlib.Omega.{arith}
use native.Mathlib.Decide.{dec_lt}
use lib.Dec.{leb, ltb, eqb}
use lib.ListN.{length, get_or, take, drop}
use borrow.Author.Tests.{leb-true, le-leb, lt-ltb, eqb-true, eq-eqb}
use Rattle.whole.specs.Lists.{join}
use Rattle.whole.proofs.Tests.{Test, pass, fail, and_both}
use Rattle.rules.specs.Problem.{Problem}
use Rattle.rules.specs.Formulas.{Formula}
use Rattle.rules.specs.Bytes.{byte_at}
use Rattle.rules.specs.Frames.{TextLine, whole, torn, text, digit, all_digits, frame_of, is_frame}
use Rattle.rules.specs.Frames.{row_modulus, row_entries, term_coefficient, term_exponents, Reading, unread, read}
use Rattle.theory.proofs.Accepted.{Sizes}
use Rattle.demands.proofs.Limits.{both}

-- ---- a frame: R9.1
-- 0 to 9 or a to f
pub data IsDigit (b : ℕ) : Type 0 where
  numeral : 48 ≤ b → b ≤ 57 → IsDigit b
  letter : 97 ≤ b → b ≤ 102 → IsDigit b

-- so many bytes, the first of which is the line's kind, and a newline
pub record Framed (its-kind count : ℕ) (l : TextLine) : Type 0 where
  pub ends : l ≡ whole (text l)
  pub size : length (text l) ≡ 2 * count
  pub digits : (i : ℕ) → i < length (text l) → IsDigit (byte_at (text l) i)
  pub kind : byte_at (frame_of l) 0 ≡ its-kind

digit_exactly : (b : ℕ) → (ltb (digit b) 16 ≡ true) ↔ IsDigit b
unfolding digit
digit_exactly b = (to (leb 48 b && leb b 57) (leb 97 b && leb b 102) refl refl, back)
  where
    to : (p q : Bool) → leb 48 b && leb b 57 ≡ p → leb 97 b && leb b 102 ≡ q → ltb (cond p (b - 48) (cond q (b - 87) 16)) 16 ≡ true → IsDigit b
    to true q e f h = let a = and_both (leb 48 b) (leb b 57) e in numeral (leb-true 48 b a.0) (leb-true b 57 a.1)
    to false true e f h = let a = and_both (leb 97 b) (leb b 102) f in letter (leb-true 97 b a.0) (leb-true b 102 a.1)
    to false false e f h = absurd (false≢true h)

    above : 97 ≤ b → (p : Bool) → leb 48 b && leb b 57 ≡ p → p ≡ false
    above h true e = absurd (omega (arith, leb-true b 57 (and_both (leb 48 b) (leb b 57) e).1))
    above h false e = refl

    back : IsDigit b → ltb (digit b) 16 ≡ true
    back (numeral h k) = rw (le-leb 48 b h, le-leb b 57 k) (lt-ltb (b - 48) 16 (omega arith))
    back (letter h k) =
        rw (above h (leb 48 b && leb b 57) refl, le-leb 97 b h, le-leb b 102 k) (lt-ltb (b - 87) 16 (omega arith))

all_digits_exactly : (t : List ℕ) → (all_digits t ≡ true) ↔ ((i : ℕ) → i < length t → IsDigit (byte_at t i))
all_digits_exactly t = (to t, back t)
  where
    to : (t : List ℕ) → all_digits t ≡ true → (i : ℕ) → i < length t → IsDigit (byte_at t i)
    to [] e i h = absurd (omega arith)
    to (b ∷ t) e zero h = (digit_exactly b).0 (and_both (ltb (digit b) 16) (all_digits t) e).0
    to (b ∷ t) e (suc i) h = to t (and_both (ltb (digit b) 16) (all_digits t) e).1 i (omega arith)

    back : (t : List ℕ) → ((i : ℕ) → i < length t → IsDigit (byte_at t i)) → all_digits t ≡ true
    back [] h = refl
    back (b ∷ t) h = both ((digit_exactly b).1 (h 0 (omega arith))) (back t (λ i l. h (suc i) (omega arith)))

torn-not-whole : {t u : List ℕ} → torn t ≡ whole u → ⊥
torn-not-whole e = let z : ◌≡◌ {A = ℕ} 0 1 = cc in omega arith

pub framed_exactly : (its-kind count : ℕ) (l : TextLine) → (is_frame its-kind count l ≡ true) ↔ Framed its-kind count l
unfolding is_frame
framed_exactly its-kind count (torn t) = (λ e. absurd (false≢true e), λ F. absurd (torn-not-whole F.ends))
framed_exactly its-kind count (whole t) = (
  λ e.
      let a = and_both (eqb (length t) (2 * count) && all_digits t) (eqb (byte_at (frame_of (whole t)) 0) its-kind) e in
      let b = and_both (eqb (length t) (2 * count)) (all_digits t) a.0 in
      record {
        ends = refl;
        size = eqb-true (length t) (2 * count) b.0;
        digits = (all_digits_exactly t).0 b.1;
        kind = eqb-true (byte_at (frame_of (whole t)) 0) its-kind a.1;
      },
  λ F.
      both (both (eq-eqb (length t) (2 * count) F.size) ((all_digits_exactly t).1 F.digits))
      (eq-eqb (byte_at (frame_of (whole t)) 0) its-kind F.kind),
)

pub framed? : (its-kind count : ℕ) (l : TextLine) → Test (Framed its-kind count l) (¬ Framed its-kind count l) (is_frame its-kind count l)
framed? its-kind count l = go (is_frame its-kind count l) (framed_exactly its-kind count l)
  where
    go : (b : Bool) → (b ≡ true) ↔ Framed its-kind count l → Test (Framed its-kind count l) (¬ Framed its-kind count l) b
    go true e = pass (e.0 refl)
    go false e = fail (λ F. false≢true (e.1 F))

-- ---- the lines by their numbers
-- past the last newline nothing stands
abbrev pub line_at : List TextLine → ℕ → TextLine
line_at ls p = get_or ls p (torn [])

-- R9.2: what line 0 says
abbrev pub m_said : List TextLine → ℕ
m_said ls = byte_at (frame_of (line_at ls 0)) 1

abbrev pub n_said : List TextLine → ℕ
n_said ls = byte_at (frame_of (line_at ls 0)) 2

-- line 0 tells the sizes; then m rows (R9.3); then at most 64 terms (R9.4); and no line after them is of any form
pub data OfForm (m n p : ℕ) (l : TextLine) : Type 0 where
  of_sizes : p ≡ 0 → Framed 0x01 3 l → OfForm m n p l
  of_row : 1 ≤ p → p ≤ m → Framed 0x02 (1 + 2 + 2 * n) l → OfForm m n p l
  of_term : m < p → p ≤ m + 64 → Framed 0x03 (1 + 4 + 2 * n) l → OfForm m n p l

-- no line after the 64th term is of any form
pub form_number : {m n p : ℕ} {l : TextLine} → OfForm m n p l → p ≤ m + 64
form_number (of_sizes e F) = omega arith
form_number (of_row a b F) = omega arith
form_number (of_term a b F) = b

abbrev pub GoodLine : List TextLine → ℕ → Type 0
GoodLine ls p = (p < length ls) × OfForm (m_said ls) (n_said ls) p (line_at ls p)

-- bad or missing: line 0 and m lines after it have to be there
pub data BadLine (ls : List TextLine) (p : ℕ) : Type 0 where
  missing : length ls ≤ p → p ≤ m_said ls → BadLine ls p
  not_of_form : p < length ls → ¬ OfForm (m_said ls) (n_said ls) p (line_at ls p) → BadLine ls p

-- .. among them a line without its newline, and a 65th term
torn-not_of_form : {m n p : ℕ} {t : List ℕ} → ¬ OfForm m n p (torn t)
torn-not_of_form (of_sizes e F) = torn-not-whole F.ends
torn-not_of_form (of_row a b F) = torn-not-whole F.ends
torn-not_of_form (of_term a b F) = torn-not-whole F.ends

pub torn_is_bad : {ls : List TextLine} {p : ℕ} (t : List ℕ) → p < length ls → line_at ls p ≡ torn t → BadLine ls p
torn_is_bad {ls} {p} t h e = not_of_form h (λ F. torn-not_of_form (subst (OfForm (m_said ls) (n_said ls) p) e F))

pub past_64_is_bad : {ls : List TextLine} {p : ℕ} → p < length ls → m_said ls + 64 < p → BadLine ls p
past_64_is_bad h k = not_of_form h (λ F. omega (arith, form_number F))

-- ---- the three kinds of input
-- R9.6. 10 at line p: it is the first that is bad or missing, and if it is not line 0, the sizes are good
pub record FirstBadLine (ls : List TextLine) (p : ℕ) : Type 0 where
  pub before : (q : ℕ) → q < p → GoodLine ls q
  pub sizes : 1 ≤ p → Sizes (m_said ls) (n_said ls)
  pub bad : BadLine ls p

-- 1: whatever comes after line 0
pub record SizesRefused (ls : List TextLine) : Type 0 where
  pub first : GoodLine ls 0
  pub out : ¬ Sizes (m_said ls) (n_said ls)

pub record WellFormedInput (ls : List TextLine) : Type 0 where
  pub sizes : Sizes (m_said ls) (n_said ls)
  pub rows : m_said ls < length ls
  pub lines : (p : ℕ) → p < length ls → OfForm (m_said ls) (n_said ls) p (line_at ls p)

-- what the lines of the third kind say
abbrev pub problem_said : List TextLine → Problem
problem_said ls = record {
  m = m_said ls;
  n = n_said ls;
  matrix = join (map (row_entries (n_said ls)) (take (m_said ls) (drop 1 ls)));
  moduli = map row_modulus (take (m_said ls) (drop 1 ls));
}

abbrev pub formula_said : List TextLine → Formula
formula_said ls = record {
  coefficients = map term_coefficient (drop (m_said ls) (drop 1 ls));
  exponents = join (map (term_exponents (n_said ls)) (drop (m_said ls) (drop 1 ls)));
}

pub data Read (ls : List TextLine) : Reading → Type 0 where
  line_refused : (p : ℕ) → FirstBadLine ls p → Read ls (unread 10 p)
  sizes-refused : SizesRefused ls → Read ls (unread 1 0)
  all_read : WellFormedInput ls → Read ls (read (problem_said ls) (formula_said ls))

-- ---- no input is of two kinds
pub good-not-bad : {ls : List TextLine} {p : ℕ} → GoodLine ls p → BadLine ls p → ⊥
good-not-bad G (missing h k) = omega (arith, G.0)
good-not-bad G (not_of_form h d) = d G.1

pub one_first_bad : {ls : List TextLine} {p q : ℕ} → FirstBadLine ls p → FirstBadLine ls q → p ≡ q
one_first_bad {ls} {p} {q} B D = go (dec_lt p q) (dec_lt q p)
  where
    go : Dec (p < q) → Dec (q < p) → p ≡ q
    go (yes h) _ = absurd (good-not-bad (D.before p h) B.bad)
    go (no _) (yes h) = absurd (good-not-bad (B.before q h) D.bad)
    go (no a) (no b) = omega arith

pub bad-not-sizes : {ls : List TextLine} {p : ℕ} → FirstBadLine ls p → SizesRefused ls → ⊥
bad-not-sizes {p = zero} B S = good-not-bad S.first B.bad
bad-not-sizes {p = suc p} B S = S.out (B.sizes (omega arith))

pub bad-not-good : {ls : List TextLine} {p : ℕ} → FirstBadLine ls p → WellFormedInput ls → ⊥
bad-not-good {ls} {p} B F = go B.bad
  where
    go : BadLine ls p → ⊥
    go (missing h k) = omega (arith, F.rows)
    go (not_of_form h d) = d (F.lines p h)

pub sizes-not-good : {ls : List TextLine} → SizesRefused ls → WellFormedInput ls → ⊥
sizes-not-good S F = S.out F.sizes
