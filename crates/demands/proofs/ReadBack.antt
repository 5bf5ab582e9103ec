-- What the program prints says the numbers of the definitions, exactly: each line is of its form, and its bytes are read back as those numbers, none cut
-- off. (R9.7 to R9.11.)
use mathlib.Core.Path.{◌≡◌, refl, sym, ◌∙◌, ap, ap₂}
use mathlib.Core.List.{List, [], ◌∷◌, ◌++◌}
use Prim.Native.Nat.{ℕ, zero, suc, ◌+◌, ◌-◌, ◌*◌, ◌/◌, ◌%◌, ◌≤◌, ◌<◌}
use native.Mathlib.Nat.{div-add-mod', mod-eq_of_lt, mul-le-mul}
use native.Mathlib.Omega.{arith}
use lib.ListN.{length, drop, length-append, get_or-append}
use lib.Seq.{get_or-append-add}
use lib.IntN.{ℤ, pos, nat_abs}
use mir.Syntax.{w32}
use mir.Val.{SFits, to_z}
use mir.Facts.{to_z_pos}
use Rattle.whole.specs.Lists.{nth, tab}
use Rattle.whole.specs.Matrix.{Matrix}
use Rattle.whole.proofs.Lists.{length-tab, nth-tab}
use Rattle.rules.specs.Limits.{M}
use Rattle.rules.specs.Problem.{Problem, s, N}
use Rattle.rules.specs.Steps.{on_t, on_v}
use Rattle.rules.specs.Stages.{run, H, U, W}
use Rattle.rules.specs.Formulas.{Formula, terms, term, d, translated}
use Rattle.rules.specs.Calls.{contents_h, contents_v, contents_w, translated_exponents}
use Rattle.rules.specs.Bytes.{byte_at, byte, two_bytes, four_bytes, bytes_of, long}
use Rattle.rules.specs.Frames.{TextLine, whole, torn, lines_of, frame_of, hex, refusal_line, sizes_line, printed}
use Rattle.theory.proofs.RunRange.{well_formed_moderate, run-entries, run_entries_w}
use Rattle.theory.proofs.RunBound.{run_bound}
use Rattle.theory.proofs.Run.{run_right}
use Rattle.theory.proofs.Sizes.{s-le_8, N-le_24}
use Rattle.demands.proofs.Bytes.{AllFit, within-fits, read_four}
use Rattle.demands.proofs.NormalForms.{Accepted}
use Rattle.demands.proofs.Formulas.{Translatable}
use Rattle.demands.proofs.InputLines.{Framed, line_at}
use Rattle.demands.proofs.OutputLines.{AllBytes, is_byte, all_lines, frame_prints, both_print, rows_print, terms_print, frame_back, frame-framed, NumbersLine, numbers-line}

-- ---- a refusal: R9.11
pub record RefusalLine (number place : ℕ) (l : TextLine) : Type 0 where
  pub framed : Framed 0xff 4 l
  pub number_is : byte_at (frame_of l) 1 ≡ number
  pub place_is : 256 * byte_at (frame_of l) 2 + byte_at (frame_of l) 3 ≡ place

pub record OneRefusal (number place : ℕ) (out : List TextLine) : Type 0 where
  pub count : length out ≡ 1
  pub line : RefusalLine number place (line_at out 0)

pub refusal-read-back : (number place : ℕ) → number < 256 → place < 65536 → OneRefusal number place (lines_of (refusal_line number place))
unfolding refusal_line
refusal-read-back number place h k =
    let bs : List ℕ = byte 0xff ++ byte number ++ two_bytes place in
    let e = all_lines (frame_prints bs) in
    let all : AllBytes bs = (omega arith, (is_byte number, (is_byte (place / 256), (is_byte place, tt)))) in
    let b = frame_back bs all in
    let low : number % 256 ≡ number = mod-eq_of_lt h in
    let high : place / 256 % 256 ≡ place / 256 = mod-eq_of_lt (omega arith) in
    rw e (record {
      count = refl;
      line = record {
        framed = frame-framed 0xff (drop 1 bs) all;
        number_is = ap (λ (t : List ℕ). byte_at t 1) b ∙ low;
        place_is = ap (λ (t : List ℕ). 256 * byte_at t 2 + byte_at t 3) b ∙ ap (λ (x : ℕ). 256 * x + place % 256) high ∙ omega (arith, div-add-mod' place 256);
      };
    })

-- no lines say two refusals, so that two refusals never print alike
pub one_refusal-read : {k p k' p' : ℕ} {out : List TextLine} → OneRefusal k p out → OneRefusal k' p' out → (k ≡ k') × (p ≡ p')
one_refusal-read R Q =
    (sym R.line.number_is ∙ Q.line.number_is, sym R.line.place_is ∙ Q.line.place_is)

-- ---- the first line: R9.7
pub record SizesLine (m n its-s r steps : ℕ) (l : TextLine) : Type 0 where
  pub framed : Framed 0x81 9 l
  pub m_is : byte_at (frame_of l) 1 ≡ m
  pub n_is : byte_at (frame_of l) 2 ≡ n
  pub s_is : byte_at (frame_of l) 3 ≡ its-s
  pub r_is : byte_at (frame_of l) 4 ≡ r
  pub steps_are : long (drop 5 (frame_of l)) ≡ pos steps

abbrev sizes_bytes : (m n its-s r steps : ℕ) → List ℕ
sizes_bytes m n its-s r steps = byte 0x81 ++ byte m ++ byte n ++ byte its-s ++ byte r ++ four_bytes steps

sizes-line : (m n its-s r steps : ℕ) → m < 256 → n < 256 → its-s < 256 → r < 256 → steps ≤ M
    → SizesLine m n its-s r steps (whole (hex (sizes_bytes m n its-s r steps)))
unfolding long
sizes-line m n its-s r steps a b c e h =
    let bs : List ℕ = sizes_bytes m n its-s r steps in
    let all : AllBytes bs = (omega arith, (is_byte m, (is_byte n, (is_byte its-s, (is_byte r, (is_byte _, (is_byte _, (is_byte _, (is_byte steps, tt))))))))) in
    let x = frame_back bs all in
    record {
      framed = frame-framed 0x81 (drop 1 bs) all;
      m_is = ap (λ (t : List ℕ). byte_at t 1) x ∙ mod-eq_of_lt a;
      n_is = ap (λ (t : List ℕ). byte_at t 2) x ∙ mod-eq_of_lt b;
      s_is = ap (λ (t : List ℕ). byte_at t 3) x ∙ mod-eq_of_lt c;
      r_is = ap (λ (t : List ℕ). byte_at t 4) x ∙ mod-eq_of_lt e;
      steps_are = ap (λ (t : List ℕ). long (drop 5 t)) x ∙ ap (to_z w32) (read_four steps (omega arith)) ∙ to_z_pos w32 (omega arith);
    }

-- ---- the whole of an answer, line by line; rows and columns count from 0
pub record SolutionLines (P : Problem) (f : Formula) (out : List TextLine) : Type 0 where
  pub count : length out ≡ 1 + P.m + N P + N P + terms f
  pub sizes : SizesLine P.m P.n (s P) (run P).rank (run P).state.steps (line_at out 0)
  -- R9.8
  pub h-rows : (i : ℕ) → i < P.m → NumbersLine 0x82 (tab (N P) (λ j. H (run P) i j)) (line_at out (1 + i))
  pub v-rows : (i : ℕ) → i < N P → NumbersLine 0x83 (tab (N P) (λ j. U (run P) i j)) (line_at out (1 + P.m + i))
  pub w-rows : (i : ℕ) → i < N P → NumbersLine 0x84 (tab (N P) (λ j. W (run P) i j)) (line_at out (1 + P.m + N P + i))
  -- R9.9
  pub its_terms : (t : ℕ) → t < terms f
      → NumbersLine 0x85 (nth f.coefficients t ∷ tab (d P (run P)) (λ g. translated P (run P) (term P f t) g)) (line_at out (1 + P.m + N P + N P + t))

-- count lines behind others
line_in_lem : (before : List TextLine) (count : ℕ) (f : ℕ → TextLine) (k : ℕ) → length before ≡ k → (i : ℕ) → i < count
    → line_at (before ++ tab count f) (k + i) ≡ f i
line_in_lem before count f k l i h = rw (← l) (get_or-append-add before (tab count f) i (torn []) ∙ nth-tab count f i (torn []) h)

-- ---- what is printed fits
tab_fits : (n : ℕ) (f : ℕ → ℤ) → ((i : ℕ) → i < n → nat_abs (f i) ≤ M) → AllFit (tab n f)
tab_fits n f h i l =
    let k : i < n = omega (arith, length-tab n f) in
    within-fits (rw (nth-tab n f i (pos 0) k) (h i k))

more-fit : (z : ℤ) (zs : List ℤ) → SFits w32 z → AllFit zs → AllFit (z ∷ zs)
more-fit z zs a f zero l = a
more-fit z zs a f (suc i) l = f i (omega arith)

module _ (P : Problem) (A : Accepted P) where
  rank-few : (run P).rank ≤ N P
  rank-few = (run_right P).hermite.rank

  steps_few : (run P).state.steps ≤ 25216
  steps_few =
      let F = A.well_formed in
      let n = N-le_24 P F in
      let r = rank-few in
      let a : P.m * (32 * N P + 2) ≤ 8 * 770 = mul-le-mul {n₂ = 8} {m₂ = 770} F.m-high (omega arith) in
      let b : N P * (32 * (N P - (run P).rank) + 2) ≤ 24 * 770 = mul-le-mul {n₂ = 24} {m₂ = 770} n (omega arith) in
      let c : (N P - (run P).rank) * (run P).rank ≤ 24 * 24 = mul-le-mul {n₂ = 24} {m₂ = 24} (omega arith) (omega arith) in
      omega (arith, run_bound P (well_formed_moderate P F) A.in_range)

  module _ (f : Formula) (fit : AllFit f.coefficients) (T : (t : ℕ) → t < terms f → Translatable P (term P f t)) where
    abbrev row : (kind : ℕ) → Matrix → (i : ℕ) → TextLine
    row kind B i = whole (hex (byte kind ++ bytes_of (tab (N P) (λ j. B i j))))

    abbrev term_row : (t : ℕ) → TextLine
    term_row t = whole (hex (byte 0x85 ++ bytes_of (nth f.coefficients t ∷ tab (d P (run P)) (λ g. translated P (run P) (term P f t) g))))

    abbrev through_sizes : List TextLine
    through_sizes = whole (hex (sizes_bytes P.m P.n (s P) (run P).rank (run P).state.steps)) ∷ []

    abbrev through_h : List TextLine
    through_h = through_sizes ++ tab P.m (row 0x82 (H (run P)))

    abbrev through_v : List TextLine
    through_v = through_h ++ tab (N P) (row 0x83 (U (run P)))

    abbrev through_w : List TextLine
    through_w = through_v ++ tab (N P) (row 0x84 (W (run P)))

    lines_are : lines_of (printed P f) ≡ through_w ++ tab (terms f) term_row
    unfolding printed sizes_line contents_h contents_v contents_w translated_exponents
    lines_are =
        all_lines (both_print (both_print (both_print (both_print
        (frame_prints (sizes_bytes P.m P.n (s P) (run P).rank (run P).state.steps))
        (rows_print 0x82 P.m (N P) (H (run P)))) (rows_print 0x83 (N P) (N P) (U (run P)))) (rows_print 0x84 (N P) (N P) (W (run P))))
        (terms_print (d P (run P)) f.coefficients (λ t g. translated P (run P) (term P f t) g)))

    h-length : length through_h ≡ 1 + P.m
    h-length = length-append through_sizes (tab P.m (row 0x82 (H (run P)))) ∙ ap (λ (k : ℕ). 1 + k) (length-tab P.m (row 0x82 (H (run P))))

    v-length : length through_v ≡ 1 + P.m + N P
    v-length = length-append through_h (tab (N P) (row 0x83 (U (run P)))) ∙ ap₂ ◌+◌ h-length (length-tab (N P) (row 0x83 (U (run P))))

    w-length : length through_w ≡ 1 + P.m + N P + N P
    w-length = length-append through_v (tab (N P) (row 0x84 (W (run P)))) ∙ ap₂ ◌+◌ v-length (length-tab (N P) (row 0x84 (W (run P))))

    -- where each line stands
    in_h : (i : ℕ) → i < P.m → line_at (through_w ++ tab (terms f) term_row) (1 + i) ≡ row 0x82 (H (run P)) i
    in_h i h =
        get_or-append through_w (tab (terms f) term_row) (torn []) (1 + i) (omega (arith, w-length))
        ∙ get_or-append through_v (tab (N P) (row 0x84 (W (run P)))) (torn []) (1 + i) (omega (arith, v-length))
        ∙ get_or-append through_h (tab (N P) (row 0x83 (U (run P)))) (torn []) (1 + i) (omega (arith, h-length))
        ∙ line_in_lem through_sizes P.m (row 0x82 (H (run P))) 1 refl i h

    in_v : (i : ℕ) → i < N P → line_at (through_w ++ tab (terms f) term_row) (1 + P.m + i) ≡ row 0x83 (U (run P)) i
    in_v i h =
        get_or-append through_w (tab (terms f) term_row) (torn []) (1 + P.m + i) (omega (arith, w-length))
        ∙ get_or-append through_v (tab (N P) (row 0x84 (W (run P)))) (torn []) (1 + P.m + i) (omega (arith, v-length))
        ∙ line_in_lem through_h (N P) (row 0x83 (U (run P))) (1 + P.m) h-length i h

    in_w : (i : ℕ) → i < N P → line_at (through_w ++ tab (terms f) term_row) (1 + P.m + N P + i) ≡ row 0x84 (W (run P)) i
    in_w i h =
        get_or-append through_w (tab (terms f) term_row) (torn []) (1 + P.m + N P + i) (omega (arith, w-length))
        ∙ line_in_lem through_v (N P) (row 0x84 (W (run P))) (1 + P.m + N P) v-length i h

    -- its numbers are read from a row
    row_reads : (kind : ℕ) → kind < 256 → (B : Matrix) → ((i j : ℕ) → nat_abs (B i j) ≤ M) → (i : ℕ) → NumbersLine kind (tab (N P) (λ j. B i j)) (row kind B i)
    row_reads kind k B small i = numbers-line kind k (tab (N P) (λ j. B i j)) (tab_fits (N P) (λ j. B i j) (λ j _. small i j))

    pub solution_read-back : SolutionLines P f (lines_of (printed P f))
    solution_read-back =
        let F = A.well_formed in
        let small = run-entries P (well_formed_moderate P F) A.in_range in
        let small_w = run_entries_w P (well_formed_moderate P F) A.in_range in
        rw lines_are (record {
          count = length-append through_w (tab (terms f) term_row) ∙ ap₂ ◌+◌ w-length (length-tab (terms f) term_row);
          sizes = sizes-line P.m P.n (s P) (run P).rank (run P).state.steps (omega (arith, F.m-high)) (omega (arith, F.n-high))
              (omega (arith, s-le_8 P F)) (omega (arith, rank-few, N-le_24 P F)) (omega (arith, steps_few));
          h-rows = λ i h. rw (in_h i h) (row_reads 0x82 (omega arith) (H (run P)) (small on_t) i);
          v-rows = λ i h. rw (in_v i h) (row_reads 0x83 (omega arith) (U (run P)) (small on_v) i);
          w-rows = λ i h. rw (in_w i h) (row_reads 0x84 (omega arith) (W (run P)) small_w i);
          its_terms = λ t h.
              let es : List ℤ = tab (d P (run P)) (λ g. translated P (run P) (term P f t) g) in
              rw (line_in_lem through_w (terms f) term_row (1 + P.m + N P + N P) w-length t h)
              (numbers-line 0x85 (omega arith) (nth f.coefficients t ∷ es)
              (more-fit (nth f.coefficients t) es (fit t h) (tab_fits (d P (run P)) (λ g. translated P (run P) (term P f t) g) (λ g k. (T t h).1 g k))));
        })
