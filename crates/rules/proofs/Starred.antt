-- R10.1 to R10.9, the starred problems of the rules, and their whole example (R9.12), byte for byte. Then what the errors that look right (section 12)
-- and the like would change. All of it is computed.
use mathlib.Core.Path.{◌≡◌, refl}
use mathlib.Core.Bool.{true, false, ◌&&◌}
use mathlib.Core.List.{List, [], ◌∷◌, ◌++◌}
use Prim.Native.Nat.{ℕ, zero, suc}
use Prim.Native.Char.{code}
use Prim.Native.String.{String, [] as end, ◌∷◌ as ◌then◌}
use lib.ListN.{length, replicate}
use lib.IntN.{ℤ, pos, negsuc, neg_ℤ}
use Rattle.whole.specs.Lists.{nth, tab}
use Rattle.rules.proofs.Computing.{computing}
use Rattle.rules.specs.Problem.{Problem}
use Rattle.rules.specs.Steps.{State, add_step}
use Rattle.rules.specs.Stages.{row, run}
use Rattle.rules.specs.Formulas.{Formula, d, group}
use Rattle.rules.specs.Calls.{Verdict, taken, refused, build_verdict, translate_verdict, problem_fits, formula_fits, contents_h, contents_v, contents_w, weights, translated_exponents, build_of, weigh_of, translate_of}
use Rattle.rules.specs.Bench.{bench_build_verdict}
use Rattle.rules.specs.Frames.{program}

-- ---- ways of writing
abbrev -1 : ℤ
-1 = negsuc 0

abbrev -2 : ℤ
-2 = negsuc 1

abbrev -3 : ℤ
-3 = negsuc 2

abbrev -4 : ℤ
-4 = negsuc 3

abbrev -5 : ℤ
-5 = negsuc 4

abbrev pub problem : (m n : ℕ) (matrix moduli : List ℤ) → Problem
problem m n matrix moduli = record { m = m; n = n; matrix = matrix; moduli = moduli }

-- a formula of one term
abbrev monomial : ℤ → List ℤ → Formula
monomial c es = record { coefficients = c ∷ []; exponents = es }

-- a single row
abbrev pub alone : List ℤ → (modulus : ℤ) → Problem
alone row p = problem 1 (length row) row (p ∷ [])

-- as the calls judge them, with room enough lent
abbrev judged : Problem → Verdict
judged P = build_verdict P (problem_fits P) true

abbrev judged_formula : Problem → Formula → Verdict
judged_formula P f = translate_verdict P f (problem_fits P && formula_fits P f) true

abbrev rank : Problem → ℕ
rank P = (run P).rank

abbrev steps : Problem → ℕ
steps P = (run P).state.steps

-- the exponents of group g, quantity after quantity
abbrev group_of : Problem → ℕ → List ℤ
group_of P g = tab P.n (group P (run P) g)

-- the bytes of a text
unfoldable pub bytes : String → List ℕ
bytes end = []
bytes (c then t) = code c ∷ bytes t

unfoldable pub times : ℕ → List ℕ → List ℕ
times zero t = []
times (suc count) t = t ++ times count t

-- a lent list of so many nines
abbrev nines : ℕ → List ℤ
nines count = replicate count (pos 9)

-- two lines whose columns of T and V, and rows of W, have one entry each
abbrev pair : (t₀ v₀ w₀ t₁ v₁ w₁ : ℤ) → State
pair t₀ v₀ w₀ t₁ v₁ w₁ = record {
  lines = record { t = t₀ ∷ []; v = v₀ ∷ []; w = w₀ ∷ [] } ∷ record { t = t₁ ∷ []; v = v₁ ∷ []; w = w₁ ∷ [] } ∷ [];
  steps = 0;
  over = false;
}

-- ---- the problems
abbrev problem1 : Problem
problem1 = problem 1 1 (pos 0 ∷ []) (pos 0 ∷ [])

abbrev problem2 : Problem
problem2 = problem 1 1 (-5 ∷ []) (pos 0 ∷ [])

abbrev problem3 : Problem
problem3 = problem 1 1 (pos 0 ∷ []) (pos 1 ∷ [])

abbrev pub problem4 : Problem
problem4 = problem 1 2 (pos 1 ∷ pos 2 ∷ []) (pos 0 ∷ [])

abbrev pub problem5 : Problem
problem5 = problem 1 3 (pos 1 ∷ pos 2 ∷ pos 0 ∷ []) (pos 3 ∷ [])

abbrev problem8 : Problem
problem8 = problem 2 5 (
    pos 6 ∷ pos 0 ∷ -4 ∷ pos 1 ∷ pos 3 ∷
    pos 0 ∷ pos 3 ∷ pos 1 ∷ -4 ∷ pos 3 ∷ []
    ) (pos 0 ∷ pos 0 ∷ [])

abbrev problem9 : Problem
problem9 = problem 3 4 (
    pos 1000 ∷ -1 ∷ pos 0 ∷ pos 0 ∷
    pos 0 ∷ pos 1000 ∷ -1 ∷ pos 0 ∷
    pos 0 ∷ pos 0 ∷ pos 1000 ∷ -1 ∷ []
    ) (pos 0 ∷ pos 0 ∷ pos 0 ∷ [])

abbrev toward_zero : Problem
toward_zero = problem 2 2 (pos 3 ∷ -2 ∷ pos 0 ∷ pos 1 ∷ []) (pos 0 ∷ pos 0 ∷ [])

abbrev pub widest : Problem
widest = alone (pos 917 ∷ neg_ℤ (pos 618) ∷ neg_ℤ (pos 541) ∷ neg_ℤ (pos 185) ∷ []) (pos 0)

-- ---- the list
pub record Starred : Type 0 where
  -- R10.1
  pub accepted1 : judged problem1 ≡ taken
  pub r1 : rank problem1 ≡ 0
  pub H1 : contents_h problem1 ≡ pos 0 ∷ []
  pub V1 : contents_v problem1 ≡ pos 1 ∷ []
  pub steps1 : steps problem1 ≡ 0
  -- R10.2
  pub accepted2 : judged problem2 ≡ taken
  pub r2 : rank problem2 ≡ 1
  pub H2 : contents_h problem2 ≡ pos 5 ∷ []
  pub V2 : contents_v problem2 ≡ -1 ∷ []
  pub W2 : contents_w problem2 ≡ -1 ∷ []
  pub groups2 : d problem2 (run problem2) ≡ 0
  pub steps2 : steps problem2 ≡ 1
  -- R10.3
  pub accepted3 : judged problem3 ≡ taken
  pub H3 : contents_h problem3 ≡ pos 1 ∷ pos 0 ∷ []
  pub V3 : contents_v problem3 ≡ -1 ∷ pos 0 ∷ pos 0 ∷ pos 1 ∷ []
  pub W3 : contents_w problem3 ≡ -1 ∷ pos 0 ∷ pos 0 ∷ pos 1 ∷ []
  pub steps3 : steps problem3 ≡ 2
  -- R10.4, with R9.12
  pub example4 :
      program (bytes "010102\n02000000010002\n0300000005fffc0002\n")
      ≡ bytes "810102000100000002\n820000000100000000\n8300000001fffffffe\n830000000000000001\n840000000100000002\n840000000000000001\n850000000500000002\n"
  pub groups4 : d problem4 (run problem4) ≡ 1
  pub group4 : group_of problem4 0 ≡ -2 ∷ pos 1 ∷ []
  -- R10.5
  pub accepted5 : judged problem5 ≡ taken
  pub H5 : contents_h problem5 ≡ pos 1 ∷ pos 0 ∷ pos 0 ∷ pos 0 ∷ []
  pub V5 :
      contents_v problem5 ≡
      pos 0 ∷ pos 1 ∷ pos 1 ∷ pos 0 ∷
      pos 1 ∷ pos 3 ∷ pos 1 ∷ pos 0 ∷
      pos 0 ∷ pos 0 ∷ pos 1 ∷ pos 0 ∷
      pos 0 ∷ pos 0 ∷ pos 0 ∷ pos 1 ∷ []
  pub W5 :
      contents_w problem5 ≡
      -3 ∷ pos 1 ∷ pos 2 ∷ pos 0 ∷
      pos 1 ∷ pos 0 ∷ -1 ∷ pos 0 ∷
      pos 0 ∷ pos 0 ∷ pos 1 ∷ pos 0 ∷
      pos 0 ∷ pos 0 ∷ pos 0 ∷ pos 1 ∷ []
  -- R10.6, in problem 5
  pub accepted6 : judged_formula problem5 (monomial (pos 1) (pos 2 ∷ pos 2 ∷ pos 1 ∷ [])) ≡ taken
  pub become6 : translated_exponents problem5 (monomial (pos 1) (pos 2 ∷ pos 2 ∷ pos 1 ∷ [])) ≡ pos 0 ∷ pos 2 ∷ pos 1 ∷ []
  -- R10.7, in problem 5
  pub refused7 : judged_formula problem5 (monomial (pos 1) (pos 1 ∷ pos 0 ∷ pos 0 ∷ [])) ≡ refused 8 0
  -- R10.8
  pub accepted8 : judged problem8 ≡ taken
  pub H8 : contents_h problem8 ≡ pos 3 ∷ pos 2 ∷ pos 0 ∷ pos 0 ∷ pos 0 ∷ pos 0 ∷ pos 1 ∷ pos 0 ∷ pos 0 ∷ pos 0 ∷ []
  pub groups8 : d problem8 (run problem8) ≡ 3
  pub group8₀ : group_of problem8 0 ≡ pos 2 ∷ -1 ∷ pos 3 ∷ pos 0 ∷ pos 0 ∷ []
  pub group8₁ : group_of problem8 1 ≡ pos 1 ∷ pos 2 ∷ pos 2 ∷ pos 2 ∷ pos 0 ∷ []
  pub group8₂ : group_of problem8 2 ≡ pos 0 ∷ pos 0 ∷ pos 1 ∷ pos 1 ∷ pos 1 ∷ []
  -- R10.9
  pub accepted9 : judged problem9 ≡ taken
  pub groups9 : d problem9 (run problem9) ≡ 1
  pub group9 : group_of problem9 0 ≡ pos 1 ∷ pos 1000 ∷ pos 1_000_000 ∷ pos 1_000_000_000 ∷ []

pub starred : Starred
unfolding computing bytes
starred = record {
  accepted1 = refl;
  r1 = refl;
  H1 = refl;
  V1 = refl;
  steps1 = refl;
  accepted2 = refl;
  r2 = refl;
  H2 = refl;
  V2 = refl;
  W2 = refl;
  groups2 = refl;
  steps2 = refl;
  accepted3 = refl;
  H3 = refl;
  V3 = refl;
  W3 = refl;
  steps3 = refl;
  example4 = refl;
  groups4 = refl;
  group4 = refl;
  accepted5 = refl;
  H5 = refl;
  V5 = refl;
  W5 = refl;
  accepted6 = refl;
  become6 = refl;
  refused7 = refl;
  accepted8 = refl;
  H8 = refl;
  groups8 = refl;
  group8₀ = refl;
  group8₁ = refl;
  group8₂ = refl;
  accepted9 = refl;
  groups9 = refl;
  group9 = refl;
}

-- ---- what an error that looks right would change
-- Each value was found by hand, or by the second program in peer/, before it was computed here.
pub record Traps : Type 0 where
  -- The steps.
  -- R12.1 and R12.4: cut toward zero the 1 beside the pivot 3 would be -2, and a lower triangular form has a 0 there
  pub floored : contents_h toward_zero ≡ pos 3 ∷ pos 1 ∷ pos 0 ∷ pos 1 ∷ []
  -- R12.5: stage 3 from the highest pivot row on would leave (1, -2, 0) in V's first column, out of range at the pivot 3 (by hand)
  pub upward : contents_v (alone (-3 ∷ -2 ∷ pos 1 ∷ []) (pos 0)) ≡ -1 ∷ -2 ∷ -1 ∷ pos 1 ∷ pos 3 ∷ pos 2 ∷ pos 0 ∷ pos 0 ∷ pos 1 ∷ []
  -- in (A) the quotient is cut: with the floor it would take 4 steps (by hand)
  pub cut : steps (alone (-3 ∷ pos 2 ∷ []) (pos 0)) ≡ 5
  -- in (A) p is the lowest on a tie: with the highest it would take 3 steps (by hand)
  pub lowest : steps (alone (pos 2 ∷ -2 ∷ []) (pos 0)) ≡ 2
  -- in (A) j is the lowest other column: with the highest it would take 7 steps (peer, by hand)
  pub other : steps (alone (-3 ∷ -2 ∷ []) (pos 2)) ≡ 8
  -- stage 2 takes all N rows of V: the first m alone would leave rows (0 1),(-1 -2) (by hand)
  pub all : contents_v (alone (-1 ∷ []) (pos 2)) ≡ -1 ∷ -1 ∷ pos 1 ∷ pos 2 ∷ []
  -- of two modulus columns the top row's comes first: the other way about V would have rows (1 1 2),(1 2 3),(3 4 6) (peer)
  pub top_first : contents_v (problem 2 1 (pos 1 ∷ pos 1 ∷ []) (pos 2 ∷ pos 3 ∷ [])) ≡ pos 1 ∷ pos 2 ∷ pos 3 ∷ pos 1 ∷ pos 1 ∷ pos 2 ∷ pos 3 ∷ pos 4 ∷ pos 6 ∷ []
  -- (B) takes the columns behind the pivot's from the first to the last: from the last to the first no step would pass M (peer)
  pub forward : judged (problem 2 4 (neg_ℤ (pos 7) ∷ -3 ∷ pos 27 ∷ pos 5 ∷ -1 ∷ neg_ℤ (pos 7) ∷ pos 0 ∷ pos 9 ∷ []) (pos 655 ∷ pos 524 ∷ [])) ≡ refused 7 0
  -- stage 3 takes the first r columns from the first to the last: from the last to the first no step would pass M (peer)
  pub forward3 : judged (problem 5 8 (
      pos 0 ∷ -1 ∷ pos 2 ∷ -1 ∷ -1 ∷ -1 ∷ pos 1 ∷ -1 ∷
      -2 ∷ pos 0 ∷ pos 1 ∷ -1 ∷ pos 0 ∷ pos 2 ∷ pos 2 ∷ -2 ∷
      pos 2 ∷ -1 ∷ pos 2 ∷ pos 2 ∷ pos 0 ∷ pos 1 ∷ pos 0 ∷ -1 ∷
      -2 ∷ pos 2 ∷ -2 ∷ pos 1 ∷ pos 2 ∷ pos 2 ∷ -2 ∷ pos 0 ∷
      pos 0 ∷ -1 ∷ -2 ∷ -1 ∷ -2 ∷ -1 ∷ pos 2 ∷ pos 2 ∷ []
      ) (pos 0 ∷ pos 0 ∷ pos 0 ∷ pos 0 ∷ pos 0 ∷ [])) ≡ refused 7 0
  -- with r = 0 nothing is done (peer)
  pub rank0 : rank (alone (pos 0 ∷ pos 0 ∷ []) (pos 0)) ≡ 0
  pub V0 : contents_v (alone (pos 0 ∷ pos 0 ∷ []) (pos 0)) ≡ pos 1 ∷ pos 0 ∷ pos 0 ∷ pos 1 ∷ []
  pub W0 : contents_w (alone (pos 0 ∷ pos 0 ∷ []) (pos 0)) ≡ pos 1 ∷ pos 0 ∷ pos 0 ∷ pos 1 ∷ []
  pub steps0 : steps (alone (pos 0 ∷ pos 0 ∷ []) (pos 0)) ≡ 0
  -- 7 is a matter of the steps and not of H (by hand: the greatest common divisor of the row is 1)
  pub large : judged widest ≡ refused 7 0
  pub large_h : contents_h widest ≡ pos 1 ∷ pos 0 ∷ pos 0 ∷ pos 0 ∷ []
  -- M is taken and M + 1 is not, in T, V and W alike, either way (by hand: column 1 gains q times column 0, row 0 of W loses q times row 1)
  pub T-M : (add_step 0 1 (pos 1) (pair (pos 1) (pos 0) (pos 0) (pos 2_147_483_646) (pos 0) (pos 0))).over ≡ false
  pub T_over : (add_step 0 1 (pos 2) (pair (pos 1) (pos 0) (pos 0) (pos 2_147_483_646) (pos 0) (pos 0))).over ≡ true
  pub V-M : (add_step 0 1 -1 (pair (pos 0) (pos 1) (pos 0) (pos 0) (negsuc 2_147_483_645) (pos 0))).over ≡ false
  pub v_over : (add_step 0 1 -2 (pair (pos 0) (pos 1) (pos 0) (pos 0) (negsuc 2_147_483_645) (pos 0))).over ≡ true
  pub W-M : (add_step 0 1 (pos 1) (pair (pos 0) (pos 0) (negsuc 2_147_483_645) (pos 0) (pos 0) (pos 1))).over ≡ false
  pub W_over : (add_step 0 1 (pos 2) (pair (pos 0) (pos 0) (negsuc 2_147_483_645) (pos 0) (pos 0) (pos 1))).over ≡ true
  -- Weights and formulas.
  -- R8.2, the remainder has the sign of the dividend: the floor's would be 2 (by hand)
  pub signed : weights problem5 (nth (-1 ∷ pos 0 ∷ pos 0 ∷ [])) ≡ -1 ∷ []
  -- a modulus of 1 is a true one: it makes every weight 0, adds a column and counts in s (by hand; peer)
  pub one : weights (alone (pos 5 ∷ []) (pos 1)) (nth (pos 3 ∷ [])) ≡ pos 0 ∷ []
  pub one_column : program (bytes "010101\n0200010001\n03000000090003\n") ≡ bytes "810101010100000003\n820000000100000000\n83ffffffff00000001\n830000000000000001\n84ffffffff00000001\n840000000000000001\n850000000900000003\n"
  -- R8.7: d is 0 (peer)
  pub none_left : program (bytes "010101\n020000fffb\n03000000070000\n") ≡ bytes "810101000100000001\n8200000005\n83ffffffff\n84ffffffff\n8500000007\n"
  pub not_free : program (bytes "010101\n020000fffb\n03000000070001\n") ≡ bytes "ff080000\n"
  -- the second term is refused (peer)
  pub second : program (bytes "010102\n02000000010002\n0300000005fffc0002\n0300000005fffc0001\n") ≡ bytes "ff080001\n"
  -- The checks (peer).
  -- the first size beyond the limits; then the second line is not read
  pub sizes : program (bytes "010811\nx\n") ≡ bytes "ff010000\n"
  pub no_rows : program (bytes "010001\nx\n") ≡ bytes "ff010000\n"
  -- a modulus of -1 before an entry of 1001
  pub modulus : program (bytes "010101\n02ffff03e9\n") ≡ bytes "ff040000\n"
  -- the entry -1001 of the second row and column; -1000 is taken
  pub entry : program (bytes "010202\n02000000000000\n0200000000fc17\n") ≡ bytes "ff050003\n"
  pub entry-taken : program (bytes "010101\n020000fc18\n") ≡ bytes "810101000100000001\n82000003e8\n83ffffffff\n84ffffffff\n"
  -- the exponent -10,001 of the second term; -10,000 is taken
  pub exponent : program (bytes "010101\n0200000000\n0300000001d8f0\n0300000001d8ef\n") ≡ bytes "ff060001\n"
  pub exponent-taken : program (bytes "010101\n0200000000\n0300000001d8f0\n") ≡ bytes "810101000000000000\n8200000000\n8300000001\n8400000001\n8500000001ffffd8f0\n"
  -- the exponent 10,001 in a problem that is refused 7; there a term that is not free
  pub exponent_first : program (bytes "010104\n0200000395fd96fde3ff47\n03000000012711000000000000\n") ≡ bytes "ff060000\n"
  pub build_first : program (bytes "010104\n0200000395fd96fde3ff47\n03000000010001000000000000\n") ≡ bytes "ff070000\n"
  -- The lines (peer).
  -- nothing; line 0 torn off; with a capital; a missing line; a line of the wrong kind; a capital digit; a last line torn off; an empty line
  pub empty : program [] ≡ bytes "ff0a0000\n"
  pub torn0 : program (bytes "010102") ≡ bytes "ff0a0000\n"
  pub capital0 : program (bytes "01010A\n") ≡ bytes "ff0a0000\n"
  pub missing : program (bytes "010102\n") ≡ bytes "ff0a0001\n"
  pub kind : program (bytes "010102\n03000000010002\n") ≡ bytes "ff0a0001\n"
  pub capital : program (bytes "010102\n02000000010002\n0300000005FFFC0002\n") ≡ bytes "ff0a0002\n"
  pub torn : program (bytes "010102\n02000000010002\n0300000005fffc0002") ≡ bytes "ff0a0002\n"
  pub blank : program (bytes "010102\n02000000010002\n\n") ≡ bytes "ff0a0002\n"
  -- 64 terms are taken, and the 65th is line 66
  pub terms64 : program (bytes "010101\n0200000000\n" ++ times 64 (bytes "03000000010002\n")) ≡ bytes "810101000000000000\n8200000000\n8300000001\n8400000001\n" ++ times 64 (bytes "850000000100000002\n")
  pub terms65 : program (bytes "010101\n0200000000\n" ++ times 65 (bytes "03000000010002\n")) ≡ bytes "ff0a0042\n"
  -- The lent lists (by hand).
  -- what comes after the first entries is untouched
  pub filled :
      build_of problem2 (nines 192) (nines 577) (nines 576)
      ≡ record { answer = record { number = 0; place = 0; rank = 1; moduli = 0; steps = 1 }; h = pos 5 ∷ nines 191; v = -1 ∷ nines 576; w = -1 ∷ nines 575 }
  -- an output one too short: each holds what it held
  pub too_short :
      build_of problem2 (nines 191) (nines 576) (nines 576)
      ≡ record { answer = record { number = 3; place = 0; rank = 0; moduli = 0; steps = 0 }; h = nines 191; v = nines 576; w = nines 576 }
  pub weighed : weigh_of problem5 (-1 ∷ pos 0 ∷ pos 0 ∷ []) (nines 8) ≡ record { answer = record { number = 0; place = 0 }; weights = -1 ∷ nines 7 }
  -- two exponents for three quantities
  pub few : weigh_of problem5 (pos 0 ∷ pos 0 ∷ []) (nines 8) ≡ record { answer = record { number = 2; place = 0 }; weights = nines 8 }
  pub kept :
      translate_of problem5 (monomial -4 (pos 2 ∷ pos 2 ∷ pos 1 ∷ [])) (nines 64) (nines 1024)
      ≡ record { answer = record { number = 0; place = 0; d = 3 }; coefficients = -4 ∷ nines 63; exponents = pos 0 ∷ pos 2 ∷ pos 1 ∷ nines 1021 }
  -- lent bytes: an input and an output that end inside a number
  pub whole-bytes : bench_build_verdict 1 1 (255 ∷ 255 ∷ 255 ∷ 251 ∷ []) (replicate 4 0) (replicate 768 0) (replicate 2304 0) (replicate 2304 0) ≡ taken
  pub torn_input : bench_build_verdict 1 1 (255 ∷ 255 ∷ 255 ∷ 251 ∷ 0 ∷ []) (replicate 4 0) (replicate 769 0) (replicate 2304 0) (replicate 2304 0) ≡ refused 2 0
  pub torn_output : bench_build_verdict 1 1 (255 ∷ 255 ∷ 255 ∷ 251 ∷ []) (replicate 4 0) (replicate 769 0) (replicate 2304 0) (replicate 2304 0) ≡ refused 3 0

pub traps : Traps
unfolding computing bytes times
traps = record {
  floored = refl;
  upward = refl;
  cut = refl;
  lowest = refl;
  other = refl;
  all = refl;
  forward3 = refl;
  forward = refl;
  top_first = refl;
  rank0 = refl;
  V0 = refl;
  W0 = refl;
  steps0 = refl;
  large = refl;
  large_h = refl;
  T-M = refl;
  T_over = refl;
  V-M = refl;
  v_over = refl;
  W-M = refl;
  W_over = refl;
  signed = refl;
  one = refl;
  one_column = refl;
  none_left = refl;
  not_free = refl;
  second = refl;
  sizes = refl;
  no_rows = refl;
  modulus = refl;
  entry = refl;
  entry-taken = refl;
  exponent = refl;
  exponent-taken = refl;
  exponent_first = refl;
  build_first = refl;
  empty = refl;
  torn0 = refl;
  capital0 = refl;
  missing = refl;
  kind = refl;
  capital = refl;
  torn = refl;
  blank = refl;
  terms64 = refl;
  terms65 = refl;
  filled = refl;
  too_short = refl;
  weighed = refl;
  few = refl;
  kept = refl;
  whole-bytes = refl;
  torn_input = refl;
  torn_output = refl;
}
