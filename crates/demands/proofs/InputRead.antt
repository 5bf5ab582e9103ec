-- Every input is of one of the three kinds that InputLines tells, and the program's reading of it (reading_of of rules/specs/Frames) is by its kind.
use mathlib.Core.Path.{◌≡◌, refl}
use mathlib.Core.Logic.{◌↔◌}
use mathlib.Core.Bool.{Bool, true, false, false≢true}
use mathlib.Core.List.{List, [], ◌∷◌}
use Prim.Native.Nat.{ℕ, zero, suc, ◌+◌, ◌-◌, ◌*◌, ◌≤◌, ◌<◌}
use native.Mathlib.Omega.{arith}
use native.Mathlib.Decide.{dec_lt}
use lib.ListN.{length, drop, drop_of_length-le}
use lib.Seq.{drop-cons}
use Rattle.whole.proofs.Tests.{Test, pass, fail}
use Rattle.rules.specs.Limits.{sizes_in_range, most_terms}
use Rattle.rules.specs.Search.{Found, none, found}
use Rattle.rules.specs.Bytes.{byte_at}
use Rattle.rules.specs.Frames.{TextLine, torn, frame_of, first_bad}
use Rattle.rules.specs.Frames.{unread, contents_of, formed, sized, reading_of}
use Rattle.theory.proofs.Accepted.{Sizes}
use Rattle.demands.proofs.Limits.{sizes_exactly}
use Rattle.demands.proofs.InputLines.{Framed, framed?, line_at, m_said, n_said, OfForm, of_sizes, of_row, of_term, GoodLine, BadLine, missing, not_of_form}
use Rattle.demands.proofs.InputLines.{form_number, Read, line_refused, sizes-refused, all_read}

-- ---- the lines after line 0
-- what is found from line number place on
data Searched (ls : List TextLine) (place : ℕ) : Found → Type 0 where
  none-bad : m_said ls < length ls → ((q : ℕ) → place ≤ q → q < length ls → OfForm (m_said ls) (n_said ls) q (line_at ls q)) → Searched ls place none
  bad_at : (p : ℕ) → ((q : ℕ) → place ≤ q → q < p → GoodLine ls q) → place ≤ p → BadLine ls p → Searched ls place (found p)

from : {Q : ℕ → Type 0} (place : ℕ) → Q place → ((q : ℕ) → suc place ≤ q → Q q) → (q : ℕ) → place ≤ q → Q q
from {Q} place here later q h = go (dec_lt place q)
  where
    go : Dec (place < q) → Q q
    go (yes l) = later q l
    go (no l) = let e : q ≡ place = omega arith in rw e here

one_more : {ls : List TextLine} {place : ℕ} {x : Found} → GoodLine ls place → Searched ls (suc place) x → Searched ls place x
one_more {ls} {place} G (none-bad r f) =
    none-bad r (from {Q = λ q. q < length ls → OfForm (m_said ls) (n_said ls) q (line_at ls q)} place (λ _. G.1) f)
one_more {ls} {place} G (bad_at p f h b) = bad_at p (from {Q = λ q. q < p → GoodLine ls q} place (λ _. G) f) (omega arith) b

bad-here : {ls : List TextLine} {place : ℕ} → BadLine ls place → Searched ls place (found place)
bad-here {ls} {place} b = bad_at place (λ q h l. absurd (omega arith)) (omega arith) b

not-row : {m n p : ℕ} {l : TextLine} → 1 ≤ p → p ≤ m → ¬ Framed 0x02 (1 + 2 + 2 * n) l → ¬ OfForm m n p l
not-row h k d (of_sizes e F) = omega arith
not-row h k d (of_row a b F) = d F
not-row h k d (of_term a b F) = omega arith

not-term : {m n p : ℕ} {l : TextLine} → m < p → ¬ Framed 0x03 (1 + 4 + 2 * n) l → ¬ OfForm m n p l
not-term h d (of_sizes e F) = omega arith
not-term h d (of_row a b F) = omega arith
not-term h d (of_term a b F) = d F

-- by the line that comes next
module _ (ls : List TextLine) (place : ℕ) (some : 1 ≤ place) where
  by_row : (x : Found) → place < length ls → place ≤ m_said ls → Searched ls (suc place) x
      → {b : Bool} → Test (Framed 0x02 (1 + 2 + 2 * n_said ls) (line_at ls place)) (¬ Framed 0x02 (1 + 2 + 2 * n_said ls) (line_at ls place)) b
      → Searched ls place (elim b [ true ↦ x | false ↦ found place ])
  by_row x h k rest (pass F) = one_more (h, of_row some k F) rest
  by_row x h k rest (fail d) = bad-here (not_of_form h (not-row some k d))

  by_term : (x : Found) → place < length ls → m_said ls < place → place ≤ m_said ls + 64 → Searched ls (suc place) x
      → {b : Bool} → Test (Framed 0x03 (1 + 4 + 2 * n_said ls) (line_at ls place)) (¬ Framed 0x03 (1 + 4 + 2 * n_said ls) (line_at ls place)) b
      → Searched ls place (elim b [ true ↦ x | false ↦ found place ])
  by_term x h k j rest (pass F) = one_more (h, of_term k j F) rest
  by_term x h k j rest (fail d) = bad-here (not_of_form h (not-term k d))

  at_end : length ls ≤ place → place ≤ length ls → m_said ls < place → Searched ls place none
  at_end h k l = none-bad (omega arith) (λ q a b. absurd (omega arith))

-- so many matrix lines are to come, and so many term lines may
search : (ls : List TextLine) (rows terms place : ℕ) → 1 ≤ place → place ≤ length ls → rows ≡ suc (m_said ls) - place
    → place + rows + terms ≡ 65 + m_said ls → Searched ls place (first_bad (n_said ls) rows terms place (drop place ls))
unfolding first_bad
search ls (suc rows) terms place some inside r t =
    go (dec_lt place (length ls)) (λ h. search ls rows terms (suc place) (omega arith) h (omega arith) (omega arith))
  where
    go : Dec (place < length ls) → (place < length ls → Searched ls (suc place) (first_bad (n_said ls) rows terms (suc place) (drop (suc place) ls)))
        → Searched ls place (first_bad (n_said ls) (suc rows) terms place (drop place ls))
    go (yes h) rest =
        rw (drop-cons ls place (torn []) h) (by_row ls place some _ h (omega arith) (rest h) (framed? 0x02 (1 + 2 + 2 * n_said ls) (line_at ls place)))
    go (no h) rest =
        let l : length ls ≤ place = omega arith in
        rw (drop_of_length-le ls l) (bad-here (missing l (omega arith)))
search ls zero (suc terms) place some inside r t =
    go (dec_lt place (length ls)) (λ h. search ls zero terms (suc place) (omega arith) h (omega arith) (omega arith))
  where
    go : Dec (place < length ls) → (place < length ls → Searched ls (suc place) (first_bad (n_said ls) zero terms (suc place) (drop (suc place) ls)))
        → Searched ls place (first_bad (n_said ls) zero (suc terms) place (drop place ls))
    go (yes h) rest =
        rw (drop-cons ls place (torn []) h)
        (by_term ls place some _ h (omega arith) (omega arith) (rest h) (framed? 0x03 (1 + 4 + 2 * n_said ls) (line_at ls place)))
    go (no h) rest =
        let l : length ls ≤ place = omega arith in
        rw (drop_of_length-le ls l) (at_end ls place some l inside (omega arith))
search ls zero zero place some inside r t = go (dec_lt place (length ls))
  where
    go : Dec (place < length ls) → Searched ls place (first_bad (n_said ls) zero zero place (drop place ls))
    go (yes h) = rw (drop-cons ls place (torn []) h) (bad-here (not_of_form h (λ F. omega (arith, form_number F))))
    go (no h) =
        let l : length ls ≤ place = omega arith in
        rw (drop_of_length-le ls l) (at_end ls place some l inside (omega arith))

-- ---- the whole input
not-sizes : {m n : ℕ} {l : TextLine} → ¬ Framed 0x01 3 l → ¬ OfForm m n 0 l
not-sizes d (of_sizes e F) = d F
not-sizes d (of_row a b F) = omega arith
not-sizes d (of_term a b F) = omega arith

pub reading_is : (ls : List TextLine) → Read ls (reading_of ls)
unfolding reading_of sized contents_of
reading_is [] = line_refused 0 (record { before = λ q h. absurd (omega arith); sizes = λ h. absurd (omega arith); bad = missing (omega arith) (omega arith) })
reading_is (l ∷ ls) = go (framed? 0x01 3 l)
  where
    all : List TextLine
    all = l ∷ ls

    m : ℕ
    m = byte_at (frame_of l) 1

    n : ℕ
    n = byte_at (frame_of l) 2

    by_lines : GoodLine all 0 → Sizes m n → {x : Found} → Searched all 1 x → Read all (formed m n ls x)
    by_lines G S (none-bad r f) = all_read (record {
      sizes = S;
      rows = r;
      lines = λ p h. from {Q = λ q. q < length all → OfForm m n q (line_at all q)} 0 (λ _. G.1) f p (omega arith) h;
    })
    by_lines G S (bad_at p f h b) = line_refused p (record {
      before = λ q k. from {Q = λ q. q < p → GoodLine all q} 0 (λ _. G) f q (omega arith) k;
      sizes = λ _. S;
      bad = b;
    })

    by_sizes : GoodLine all 0 → (b : Bool) → (b ≡ true) ↔ Sizes m n
        → Read all (elim b [ true ↦ formed m n ls (first_bad n m most_terms 1 ls) | false ↦ unread 1 0 ])
    by_sizes G false e = sizes-refused (record { first = G; out = λ S. false≢true (e.1 S) })
    by_sizes G true e = by_lines G (e.0 refl) (search all m most_terms 1 (omega arith) (omega arith) (omega arith) (omega arith))

    go : {b : Bool} → Test (Framed 0x01 3 l) (¬ Framed 0x01 3 l) b → Read all (elim b [ true ↦ sized m n ls | false ↦ unread 10 0 ])
    go (fail d) = line_refused 0 (record {
      before = λ q h. absurd (omega arith);
      sizes = λ h. absurd (omega arith);
      bad = not_of_form (omega arith) (not-sizes d);
    })
    go (pass F) = by_sizes (omega arith, of_sizes refl F) (sizes_in_range m n) (sizes_exactly m n)
