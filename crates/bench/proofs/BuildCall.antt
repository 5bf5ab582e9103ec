-- From the build of the problem that the code hears to the build of the bytes: the verdicts agree, a refusal leaves all as it was, and what a taken
-- call writes. Assumes nothing.
use Rattle.std.proofs.Common.{◌≡◌, refl, sym, ap, ap₂, ◌∙◌, subst, Bool, true, ◌&&◌, List, [], ◌∷◌, ℕ, ◌+◌, ◌*◌, arith, leb, length, ℤ, Result, Ok, Err}
use Rattle.std.proofs.lemmas.Bool.{and_parts}
use Rattle.rules.specs.Bytes.{bytes_of, whole_numbers}
use Rattle.rules.specs.Limits.{sizes_in_range}
use Rattle.rules.specs.Problem.{Problem, N, WellFormed}
use Rattle.rules.specs.Stages.{run, H, U, W}
use Rattle.rules.specs.Calls.{Check, Verdict, taken, refused, build_verdict, build_of, built, built_in, problem_fits}
use Rattle.rules.specs.Calls.{moduli_check, entries_check, range_check, filled, contents_h, contents_v, contents_w}
use Rattle.rules.specs.Bench.{problem_of, has_room, bench_build_verdict, bench_build_of}
use Rattle.theory.proofs.Sizes.{room_for_H, room_for_v, room_for_W}
use Rattle.theory.proofs.Accepted.{sizes-passed, build_accepted}
use Rattle.theory.proofs.Refusals.{build_not_0}
use Rattle.theory.proofs.Grid.{length-grid}
use Rattle.scaling.specs.declared.Built.{Built}
use Rattle.checks.specs.declared.Refusal.{Refusal}
use Rattle.checks.specs.Checks.{given}
use Rattle.scaling.specs.Answers.{answer_of}
use Rattle.scaling.specs.BuildPromise.{Builds}
use Rattle.bench.specs.Words.{Decoded, room_of}
use Rattle.checks.proofs.Refusals.{refusal_not-0}
use Rattle.bench.proofs.Verdicts.{bool_same, verdicts_agree, first_passed}
use Rattle.bench.proofs.Inputs.{problem-heard, problem-read}
use Rattle.bench.proofs.Outputs.{room_same, Written, filled-written}

-- the checks from 4 on
abbrev later : Problem → List Check
later P = moduli_check P ∷ entries_check P ∷ range_check (run P) ∷ []

-- one call: what was heard of the bytes, what was handed on for the outputs, and what scaling::build answered
pub record Called (m n : ℕ) (matrix moduli h v w : List ℕ) (a p x y z : List ℤ) (r : Result Built Refusal) (x₁ y₁ z₁ : List ℤ) : Type 0 where
  pub reads-matrix : Decoded matrix 129 a
  pub reads-moduli : Decoded moduli 9 p
  pub lent-h : length x ≡ room_of h 192
  pub lent-v : length y ≡ room_of v 576
  pub lent-w : length z ≡ room_of w 576
  pub builds : Builds (build_of (given m n a p) x y z) (answer_of r) x₁ y₁ z₁

-- what a taken call has to write, and that with it written the bytes' build is met
pub record Taken (m n : ℕ) (matrix moduli h v w : List ℕ) (b : Built) (x₁ y₁ z₁ : List ℤ) : Type 0 where
  pub written-h : Written 192 x₁ (contents_h (problem_of m n matrix moduli)) (m * (n + b.moduli))
  pub written-v : Written 576 y₁ (contents_v (problem_of m n matrix moduli)) ((n + b.moduli) * (n + b.moduli))
  pub written-w : Written 576 z₁ (contents_w (problem_of m n matrix moduli)) ((n + b.moduli) * (n + b.moduli))
  pub builds : Builds (bench_build_of m n matrix moduli h v w) (answer_of (Ok b))
      (filled (bytes_of (contents_h (problem_of m n matrix moduli))) h)
      (filled (bytes_of (contents_v (problem_of m n matrix moduli))) v)
      (filled (bytes_of (contents_w (problem_of m n matrix moduli))) w)

module _ {m n : ℕ} {matrix moduli h v w : List ℕ} {a p x y z : List ℤ} {r : Result Built Refusal} {x₁ y₁ z₁ : List ℤ}
    (K : Called m n matrix moduli h v w a p x y z r x₁ y₁ z₁) where
  abbrev P' : Problem
  P' = given m n a p

  abbrev P : Problem
  P = problem_of m n matrix moduli

  abbrev inputs : Bool
  inputs = whole_numbers matrix && whole_numbers moduli && problem_fits P

  abbrev outputs' : Bool
  outputs' = leb 192 (length x) && leb 576 (length y) && leb 576 (length z)

  abbrev outputs : Bool
  outputs = has_room 192 h && has_room 576 v && has_room 576 w

  outputs_same : outputs' ≡ outputs
  outputs_same = rw (room_same h 192 x (omega arith) K.lent-h, room_same v 576 y (omega arith) K.lent-v, room_same w 576 z (omega arith) K.lent-w)

  inputs_same : sizes_in_range m n ≡ true → problem_fits P' ≡ inputs
  inputs_same e =
      let l = sizes-passed m n e in
      bool_same (problem_fits P') inputs
      (λ f.
      let t = problem-heard m n K.reads-matrix K.reads-moduli l f in
      rw (t.0, t.1) (subst (λ (Q : Problem). problem_fits Q ≡ true) t.2 f))
      (λ f.
      let t = and_parts (whole_numbers matrix && whole_numbers moduli) (problem_fits P) f in
      let u = and_parts (whole_numbers matrix) (whole_numbers moduli) t.0 in
      subst (λ (Q : Problem). problem_fits Q ≡ true) (sym (problem-read m n K.reads-matrix K.reads-moduli l u.0 u.1 t.1)) t.1)

  problem_same : sizes_in_range m n ≡ true → problem_fits P' ≡ true → P' ≡ P
  problem_same e f = let l = sizes-passed m n e in (problem-heard m n K.reads-matrix K.reads-moduli l f).2

  verdict_same : build_verdict P' (problem_fits P') outputs' ≡ bench_build_verdict m n matrix moduli h v w
  unfolding build_verdict bench_build_verdict
  verdict_same = rw outputs_same (verdicts_agree (sizes_in_range m n) (problem_fits P') inputs outputs (later P') (later P) inputs_same
      (λ e f. ap later (problem_same e f)))

  builds : Builds (built P' x y z (build_verdict P' (problem_fits P') outputs')) (answer_of r) x₁ y₁ z₁
  unfolding build_of
  builds = K.builds

  pub refusal : {e : Refusal} → r ≡ Err e → Builds (bench_build_of m n matrix moduli h v w) (answer_of r) h v w
  unfolding bench_build_of
  refusal {e} d = go (build_verdict P' (problem_fits P') outputs') (rw d at builds) verdict_same
    where
      go : (u : Verdict) → Builds (built P' x y z u) (answer_of (Err e)) x₁ y₁ z₁ → u ≡ bench_build_verdict m n matrix moduli h v w
          → Builds (built_in bytes_of P h v w (bench_build_verdict m n matrix moduli h v w)) (answer_of r) h v w
      go taken B f = absurd (refusal_not-0 e B.number)
      go (refused number place) B f = rw (← f, d) (record {
        number = B.number;
        place = B.place;
        rank = B.rank;
        moduli = B.moduli;
        steps = B.steps;
        h = refl;
        v = refl;
        w = refl;
      })

  verdict-taken : {b : Built} → r ≡ Ok b → build_verdict P' (problem_fits P') outputs' ≡ taken
  unfolding build_verdict
  verdict-taken {b} d = go (build_verdict P' (problem_fits P') outputs') (rw d at builds) refl
    where
      go : (u : Verdict) → Builds (built P' x y z u) (answer_of (Ok b)) x₁ y₁ z₁ → build_verdict P' (problem_fits P') outputs' ≡ u → u ≡ taken
      go taken B e = refl
      go (refused number place) B e =
          absurd (build_not_0 P' (problem_fits P') outputs' number place e (sym B.number))

  taken_writes : {b : Built} → Builds (built P x y z taken) (answer_of (Ok b)) x₁ y₁ z₁ → WellFormed P
      → bench_build_verdict m n matrix moduli h v w ≡ taken → Taken m n matrix moduli h v w b x₁ y₁ z₁
  unfolding bench_build_of contents_h contents_v contents_w
  taken_writes {b} B G e =
      let c : N P ≡ n + b.moduli = ap (λ (k : ℕ). n + k) (sym B.moduli) in
      let square = ap₂ (λ (i j : ℕ). i * j) c c in
      record {
        written-h = filled-written 192 (m * (n + b.moduli)) x₁ (contents_h P) x
            (length-grid m (N P) (H (run P)) ∙ ap (λ (k : ℕ). m * k) c) (room_for_H P G) B.h;
        written-v = filled-written 576 ((n + b.moduli) * (n + b.moduli)) y₁ (contents_v P) y
            (length-grid (N P) (N P) (U (run P)) ∙ square) (room_for_v P G) B.v;
        written-w = filled-written 576 ((n + b.moduli) * (n + b.moduli)) z₁ (contents_w P) z
            (length-grid (N P) (N P) (W (run P)) ∙ square) (room_for_W P G) B.w;
        builds = rw e (record {
          number = B.number;
          place = B.place;
          rank = B.rank;
          moduli = B.moduli;
          steps = B.steps;
          h = refl;
          v = refl;
          w = refl;
        });
      }

  pub success : {b : Built} → r ≡ Ok b → Taken m n matrix moduli h v w b x₁ y₁ z₁
  unfolding build_of build_verdict
  success {b} d =
      let e = verdict-taken d in
      let t = first_passed (sizes_in_range m n) (problem_fits P') outputs' (later P') e in
      let q = problem_same t.0 t.1 in
      let f = subst (λ (Q : Problem). build_verdict Q (problem_fits Q) outputs' ≡ taken) q e in
      let B = subst (λ (u : Verdict). Builds (built P' x y z u) (answer_of (Ok b)) x₁ y₁ z₁) e (rw d at builds) in
      taken_writes (subst (λ (Q : Problem). Builds (built Q x y z taken) (answer_of (Ok b)) x₁ y₁ z₁) q B) (build_accepted P outputs' f).0
      (sym verdict_same ∙ e)
