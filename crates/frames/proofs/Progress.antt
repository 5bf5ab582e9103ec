-- Where the reading stands after some lines, and what the next line does.
-- Assumes nothing.
use mathlib.Core.Path.{◌≡◌, refl, sym, ap, ◌∙◌, subst}
use mathlib.Core.Bool.{true, false, false≢true}
use mathlib.Core.List.{List, [], ◌∷◌, ◌++◌, map, append-nil, append_assoc}
use Prim.Native.Nat.{ℕ, suc, ◌+◌, ◌-◌, ◌*◌, ◌/◌, ◌<◌, ◌≤◌}
use native.Mathlib.Omega.{arith}
use lib.ListN.{length, get_or, take, drop, length-append}
use lib.Seq.{take_at, drop_at}
use lib.IntN.{ℤ}
use Rattle.std.proofs.Common.{Option, None, Some, Result, Ok, Err, IsErr, IsErrAnd, IfErr}
use Rattle.std.specs.Option.{ok_or}
use Rattle.whole.specs.Lists.{join}
use Rattle.rules.specs.Limits.{sizes_in_range}
use Rattle.rules.specs.Bytes.{short, long, shorts}
use Rattle.rules.specs.Frames.{TextLine, lines_of, frame_of, first_bad, Reading, unread, read, row_modulus, row_entries, term_coefficient, term_exponents, contents_of, formed, sized, reading_of}
use Rattle.theory.proofs.Accepted.{sizes-passed}
use Rattle.checks.specs.declared.Refusal.{Refusal}
use Rattle.checks.specs.declared.Refusal.TheVariants.{BadLine}
use Rattle.checks.specs.Refusals.{number_of, place_of}
use Rattle.frames.specs.declared.line.Line.{Line}
use Rattle.frames.specs.declared.input.Input.{Input}
use Rattle.frames.specs.Line.{first_is, IsFirst, TakesFirst}
use Rattle.frames.specs.Input.{InputHolds}
use Rattle.frames.specs.Sized.{Sized}
use Rattle.frames.proofs.FirstBad.{row-passes, row-stops, term-passes, term-stops, full-stops}
use Rattle.frames.proofs.InputContents.{modulus_is, coefficient_is, entries_are, exponents_are, length-entries, length-exponents, number_more, numbers_more}

-- ---- what was taken of a line, and a line that is bad or missing
pub taken : (kind count : ℕ) (t : List ℕ) {o : Option Line} {x : Line} → TakesFirst kind count t o → o ≡ Some x
    → IsFirst kind count t x
taken kind count t h e = rw e at h

pub refuses : (kind count : ℕ) (t : List ℕ) {o : Option Line} {e : Refusal} (r : Result Input Refusal) {k : Reading} (place : ℕ)
    → TakesFirst kind count t o → o ≡ None → Err e ≡ ok_or o (BadLine place) → IsErr r × IsErrAnd r (λ x. x ≡ e)
    → (first_is kind count (lines_of t) ≡ false → k ≡ unread 10 place) → InputHolds r k
refuses kind count t (Ok x) place taken none is err f = absurd (false≢true err.0)
refuses kind count t (Err x) {k} place taken none is err f =
    subst (λ (r : Result Line Refusal). IfErr r (λ e. k ≡ unread (number_of e) (place_of e)))
    (sym (ap Err err.1 ∙ is ∙ ap (λ (o : Option Line). ok_or o (BadLine place)) none)) (f (rw none at taken))

-- ---- the first line
module _ (s : List ℕ) where
  pub first-off : first_is 1 3 (lines_of s) ≡ false → reading_of (lines_of s) ≡ unread 10 0
  unfolding reading_of first_is
  first-off g = stops (lines_of s) g
    where
      stops : (ls : List TextLine) → first_is 1 3 ls ≡ false → reading_of ls ≡ unread 10 0
      stops [] h = refl
      stops (l ∷ ls) h = rw (h, reading_of)

  module _ {x : Line} (first : IsFirst 1 3 s x) where
    pub first-on : reading_of (lines_of s) ≡ sized (get_or x.bytes.items 1 0) (get_or x.bytes.items 2 0) (lines_of x.rest.now)
    unfolding reading_of
    first-on = rw (first.lines, reading_of, first.form, first.bytes)

    pub sizes-off : sizes_in_range (get_or x.bytes.items 1 0) (get_or x.bytes.items 2 0) ≡ false
        → reading_of (lines_of s) ≡ unread 1 0
    unfolding sized
    sizes-off h = first-on ∙ rw (h, sized)

-- ---- after i matrix lines, what follows them being u
pub record RowsRead (s : List ℕ) (m n i : ℕ) (moduli matrix : List ℤ) (u : List ℕ) : Type 0 where
  pub some-rows : 1 ≤ m
  pub few-rows : m ≤ 8
  pub some-columns : 1 ≤ n
  pub few-columns : n ≤ 16
  pub behind : i ≤ m
  pub moduli-length : length moduli ≡ i
  pub matrix-length : length matrix ≡ i * n
  pub rows : List TextLine
  pub count : length rows ≡ i
  pub moduli_are : moduli ≡ map row_modulus rows
  pub matrix_are : matrix ≡ join (map (row_entries n) rows)
  pub left : reading_of (lines_of s) ≡ formed m n (rows ++ lines_of u) (first_bad n (m - i) 64 (1 + i) (lines_of u))

pub rows_none : (s : List ℕ) {x : Line} → IsFirst 1 3 s x
    → sizes_in_range (get_or x.bytes.items 1 0) (get_or x.bytes.items 2 0) ≡ true
    → RowsRead s (get_or x.bytes.items 1 0) (get_or x.bytes.items 2 0) 0 [] [] x.rest.now
unfolding sized
rows_none s {x} first h =
    let m = get_or x.bytes.items 1 0 in
    let z = sizes-passed m (get_or x.bytes.items 2 0) h in
    let all : m - 0 ≡ m = omega arith in
    record {
      some-rows = z.m-low;
      few-rows = z.m-high;
      some-columns = z.n-low;
      few-columns = z.n-high;
      behind = omega arith;
      moduli-length = refl;
      matrix-length = omega arith;
      rows = [];
      count = refl;
      moduli_are = refl;
      matrix_are = refl;
      left = first-on s first ∙ rw (h, sized, all);
    }

module _ {s : List ℕ} {m n i : ℕ} {moduli matrix : List ℤ} {u : List ℕ} (r : RowsRead s m n i moduli matrix u) where
  module _ (more : i < m) where
    one_less : m - i ≡ suc (m - (i + 1))
    one_less = omega arith

    pub row-off : first_is 2 (3 + 2 * n) (lines_of u) ≡ false → reading_of (lines_of s) ≡ unread 10 (1 + i)
    row-off g = r.left ∙ rw (one_less, row-stops n 64 (1 + i) (m - (i + 1)) (lines_of u) g)

    pub row-on : {x : Line} (first : IsFirst 2 (3 + 2 * n) u x) (b : List ℕ) → b ≡ x.bytes.items
        → {moduli' matrix' : List ℤ} (z : ℤ)
        → z ≡ short (get_or b 1 0 ∷ get_or b 2 0 ∷ []) → moduli' ≡ moduli ++ z ∷ []
        → matrix' ≡ matrix ++ shorts (length (take (length b - 3) (drop 3 b)) / 2) (take (length b - 3) (drop 3 b))
        → RowsRead s m n (i + 1) moduli' matrix' x.rest.now
    row-on {x} first b bytes z modulus a entries =
        let e : b ≡ frame_of first.line = bytes ∙ first.bytes in
        let zs : List ℤ = shorts (length (take (length b - 3) (drop 3 b)) / 2) (take (length b - 3) (drop 3 b)) in
        let are : zs ≡ row_entries n first.line = entries_are first.line b e n (ap length bytes ∙ first.len) in
        let k : length zs ≡ n = ap length are ∙ length-entries n first.line in
        let next : suc (1 + i) ≡ 1 + (i + 1) = omega arith in
        record {
          some-rows = r.some-rows;
          few-rows = r.few-rows;
          some-columns = r.some-columns;
          few-columns = r.few-columns;
          behind = omega arith;
          moduli-length = omega (arith, ap length a, length-append moduli (z ∷ []), r.moduli-length);
          matrix-length = omega (arith, ap length entries, length-append matrix zs, k, r.matrix-length);
          rows = r.rows ++ first.line ∷ [];
          count = omega (arith, length-append r.rows (first.line ∷ []), r.count);
          moduli_are = number_more row_modulus r.rows first.line z a r.moduli_are (modulus ∙ modulus_is first.line b e);
          matrix_are = numbers_more (row_entries n) r.rows first.line zs entries r.matrix_are are;
          left = r.left ∙ rw (one_less, row-passes n 64 (1 + i) (m - (i + 1)) first.lines first.form, next, first.lines) (rw append_assoc);
        }

-- ---- after all matrix lines and some term lines
pub record TermsRead (s : List ℕ) (m n : ℕ) (moduli matrix coefficients exponents : List ℤ) (u : List ℕ) : Type 0 where
  pub sized : Sized m n moduli matrix coefficients exponents
  pub rows : List TextLine
  pub terms : List TextLine
  pub rows_count : length rows ≡ m
  pub terms_count : length terms ≡ length coefficients
  pub moduli_are : moduli ≡ map row_modulus rows
  pub matrix_are : matrix ≡ join (map (row_entries n) rows)
  pub coefficients_are : coefficients ≡ map term_coefficient terms
  pub exponents_are : exponents ≡ join (map (term_exponents n) terms)
  pub left : reading_of (lines_of s)
      ≡ formed m n (rows ++ (terms ++ lines_of u)) (first_bad n 0 (64 - length coefficients) (1 + m + length coefficients) (lines_of u))

module _ {s : List ℕ} {m n : ℕ} {moduli matrix coefficients exponents : List ℤ} {u : List ℕ}
    (r : TermsRead s m n moduli matrix coefficients exponents u) where
  module _ (some : 0 < length u) where
    pub full-off : length coefficients ≡ 64 → reading_of (lines_of s) ≡ unread 10 (1 + m + length coefficients)
    full-off h =
        let none : 64 - length coefficients ≡ 0 = omega arith in
        r.left ∙ rw (none, full-stops n (1 + m + length coefficients) u some)

    module _ (few : length coefficients ≡ 64 → ⊥) where
      one_term-less : 64 - length coefficients ≡ suc (64 - (length coefficients + 1))
      one_term-less = omega (arith, r.sized.few-terms)

      pub term-off : first_is 3 (5 + 2 * n) (lines_of u) ≡ false
          → reading_of (lines_of s) ≡ unread 10 (1 + m + length coefficients)
      term-off g = r.left ∙ rw (one_term-less, term-stops n (64 - (length coefficients + 1)) (1 + m + length coefficients) u some g)

      pub term-on : {x : Line} (first : IsFirst 3 (5 + 2 * n) u x) (b : List ℕ) → b ≡ x.bytes.items
          → {coefficients' exponents' : List ℤ} (z : ℤ)
          → z ≡ long (get_or b 1 0 ∷ get_or b 2 0 ∷ get_or b 3 0 ∷ get_or b 4 0 ∷ []) → coefficients' ≡ coefficients ++ z ∷ []
          → exponents' ≡ exponents ++ shorts (length (take (length b - 5) (drop 5 b)) / 2) (take (length b - 5) (drop 5 b))
          → TermsRead s m n moduli matrix coefficients' exponents' x.rest.now
      term-on {x} first b bytes {coefficients'} z coefficient a powers =
          let e : b ≡ frame_of first.line = bytes ∙ first.bytes in
          let zs : List ℤ = shorts (length (take (length b - 5) (drop 5 b)) / 2) (take (length b - 5) (drop 5 b)) in
          let are : zs ≡ term_exponents n first.line = exponents_are first.line b e n (ap length bytes ∙ first.len) in
          let l : length zs ≡ n = ap length are ∙ length-exponents n first.line in
          let more : length coefficients' ≡ length coefficients + 1 = ap length a ∙ length-append coefficients (z ∷ []) in
          let next : suc (1 + m + length coefficients) ≡ 1 + m + (length coefficients + 1) = omega arith in
          let y = r.sized in
          record {
            sized = record {
              some-rows = y.some-rows;
              few-rows = y.few-rows;
              some-columns = y.some-columns;
              few-columns = y.few-columns;
              few-terms = omega (arith, more, y.few-terms);
              moduli-length = y.moduli-length;
              matrix-length = y.matrix-length;
              exponents-length = ap length powers ∙ length-append exponents zs ∙ rw more (omega (arith, l, y.exponents-length));
            };
            rows = r.rows;
            terms = r.terms ++ first.line ∷ [];
            rows_count = r.rows_count;
            terms_count = omega (arith, more, length-append r.terms (first.line ∷ []), r.terms_count);
            moduli_are = r.moduli_are;
            matrix_are = r.matrix_are;
            coefficients_are =
                number_more term_coefficient r.terms first.line z a r.coefficients_are (coefficient ∙ coefficient_is first.line b e);
            exponents_are = numbers_more (term_exponents n) r.terms first.line zs powers r.exponents_are are;
            left =
                let step = term-passes n (64 - (length coefficients + 1)) (1 + m + length coefficients) first.lines first.form in
                r.left ∙ rw (one_term-less, step, next, more, first.lines) (rw append_assoc);
          }

  -- nothing is left
  pub end : length u ≡ 0
      → reading_of (lines_of s)
      ≡ read (record { m = m; n = n; matrix = matrix; moduli = moduli }) (record { coefficients = coefficients; exponents = exponents })
  unfolding lines_of first_bad contents_of
  end h =
      let e : u ≡ [] = empty u h in
      r.left
      ∙ rw (e, append-nil r.terms, take_at r.rows r.terms m r.rows_count, drop_at r.rows r.terms m r.rows_count)
      (rw (r.moduli_are, r.matrix_are, r.coefficients_are, r.exponents_are))
    where
      empty : (t : List ℕ) → length t ≡ 0 → t ≡ []
      empty [] h = refl
      empty (b ∷ t) h = absurd (omega (arith, h))
