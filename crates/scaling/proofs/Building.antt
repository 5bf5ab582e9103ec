-- A build that has passed its checks: from what the code's run ends with, the verdict of check 7, the entries of H, V and W, and the answer.
-- What is refused needs no lemma: `Ran` says it.
use mathlib.Core.Path.{◌≡◌, refl, sym, ◌∙◌, ap}
use mathlib.Core.Bool.{false}
use mathlib.Core.List.{List, [], ◌∷◌, ◌++◌}
use Rattle.std.proofs.Common.{Ok}
use Prim.Native.Nat.{ℕ, ◌+◌, ◌*◌, ◌≤◌, ◌<◌}
use native.Mathlib.Nat.{add_comm, mul-le-mul}
use native.Mathlib.Omega.{arith}
use lib.Arith.{digits_lt}
use lib.ListN.{length, take, drop}
use lib.Seq.{length-take-le, get_or-take}
use lib.IntN.{ℤ, pos}
use Rattle.whole.specs.Lists.{nth}
use Rattle.whole.specs.Matrix.{Matrix}
use Rattle.rules.specs.Problem.{Problem, s, N, WellFormed}
use Rattle.rules.specs.Steps.{State, get}
use Rattle.rules.specs.Stages.{run, W}
use Rattle.rules.specs.Calls.{taken, verdict, range_check, grid, contents_h, contents_v, contents_w, filled}
use Rattle.theory.proofs.Run.{run_right}
use Rattle.theory.proofs.Grid.{table, grid_cong, grid_of_table}
use Rattle.scaling.specs.Answers.{answer_of}
use Rattle.scaling.specs.declared.run.Outcome.{Outcome}
use Rattle.scaling.specs.declared.work.Table.{Table}
use Rattle.scaling.specs.declared.work.Table.TheVariants.{T, V}
use Rattle.scaling.specs.WorkState.{state_of, table_for, height_for, entries_for}
use Rattle.scaling.specs.Problem.{Ran}
use Rattle.scaling.specs.BuildPromise.{Builds, build_checked}
use Rattle.scaling.proofs.MatrixC.{area, square}
use Rattle.scaling.proofs.State.{state_over, state-get, state-get_w}

-- the first entries of a list that holds a matrix row after row
grid-taken : (m n : ℕ) (xs : List ℤ) (A : Matrix) → m * n ≤ length xs → ((r c : ℕ) → r < m → c < n → A r c ≡ nth xs (r * n + c))
    → take (m * n) xs ≡ grid m n A
grid-taken m n xs A l h =
    sym (grid_of_table m n (take (m * n) xs) (length-take-le (m * n) xs l))
    ∙ grid_cong m n (table n (take (m * n) xs)) A
    (λ r c a b. get_or-take (m * n) xs (r * n + c) (pos 0) (digits_lt {q = r} {m = m} {r = c} {c = n} a b) ∙ sym (h r c a b))

-- what was copied to the front of a lent list
copied : (n : ℕ) (ys xs : List ℤ) {of contents : List ℤ} → n ≤ length ys → of ≡ take n ys → take n ys ≡ contents → of ++ drop n xs ≡ filled contents xs
copied n ys xs l f e = rw (f, ← e, length-take-le n ys l)

module _ {P : Problem} {r : Outcome} (g : WellFormed P) (d : Ran P (Ok r)) where
  pub rank-few : r.rank ≤ N P
  rank-few = omega (arith, d.1, (run_right P).hermite.rank)

  run_is : state_of r.work ≡ (run P).state
  run_is = d.0.same

  -- ---- check 7
  taken_is : verdict (range_check (run P) ∷ []) ≡ taken
  taken_is =
      let e : (run P).state.over ≡ false = sym (ap (λ (u : State). u.over) run_is) ∙ state_over r.work ∙ d.0.clear in
      rw e

  -- ---- the entries
  entry_is : (which : Table) (i c : ℕ) → i < height_for which r.work → c < N P → get (table_for which) (run P).state i c ≡ nth (entries_for which r.work) (i * N P + c)
  entry_is which i c a b =
      let k : c + i * r.work.cols ≡ i * N P + c = ap (λ (n : ℕ). c + i * n) d.0.cols ∙ add_comm c (i * N P) in
      rw (← run_is) (state-get r.work which i c a (omega (arith, d.0.cols)) ∙ ap (nth (entries_for which r.work)) k)

  entry_of_W : (i c : ℕ) → i < N P → c < N P → W (run P) i c ≡ nth r.work.w (i * N P + c)
  entry_of_W i c a b =
      let k : c + i * r.work.cols ≡ i * N P + c = ap (λ (n : ℕ). c + i * n) d.0.cols ∙ add_comm c (i * N P) in
      rw (← run_is) (state-get_w r.work i c (omega (arith, d.0.cols)) (omega (arith, d.0.cols)) ∙ ap (nth r.work.w) k)

  -- ---- the contents
  pub area_few : r.work.m * r.work.cols ≤ 192
  area_few = mul-le-mul r.work.sound.rows r.work.sound.cols

  pub square_few : r.work.cols * r.work.cols ≤ 576
  square_few = mul-le-mul r.work.sound.cols r.work.sound.cols

  H-taken : take (r.work.m * r.work.cols) r.work.t ≡ contents_h P
  unfolding contents_h
  H-taken = rw (d.0.rows, d.0.cols) (grid-taken P.m (N P) r.work.t _ (omega (arith, area g, r.work.sound.t_long)) (λ i c a. entry_is T i c (omega (arith, d.0.rows))))

  U-taken : take (r.work.cols * r.work.cols) r.work.v ≡ contents_v P
  unfolding contents_v
  U-taken = rw d.0.cols (grid-taken (N P) (N P) r.work.v _ (omega (arith, square g, r.work.sound.v_long)) (λ i c a. entry_is V i c (omega (arith, d.0.cols))))

  W-taken : take (r.work.cols * r.work.cols) r.work.w ≡ contents_w P
  unfolding contents_w
  W-taken = rw d.0.cols (grid-taken (N P) (N P) r.work.w _ (omega (arith, square g, r.work.sound.w_long)) entry_of_W)

  steps_are : r.work.steps ≡ (run P).state.steps
  unfolding state_of
  steps_are = ap (λ (u : State). u.steps) run_is

  -- of and y are what was copied out, and the count of moduli, as the code has them
  pub builds-taken : (h v w : List ℤ) {of_h of_v of_w : List ℤ} {y : ℕ}
      → of_h ≡ take (r.work.m * r.work.cols) r.work.t → of_v ≡ take (r.work.cols * r.work.cols) r.work.v
      → of_w ≡ take (r.work.cols * r.work.cols) r.work.w → y ≡ s P
      → Builds (build_checked P h v w) (answer_of (Ok (record { rank = r.rank; moduli = y; steps = r.work.steps })))
      (of_h ++ drop (r.work.m * r.work.cols) h) (of_v ++ drop (r.work.cols * r.work.cols) v) (of_w ++ drop (r.work.cols * r.work.cols) w)
  builds-taken h v w eh ev ew count =
      rw taken_is (record {
        number = refl;
        place = refl;
        rank = d.1;
        moduli = count;
        steps = steps_are;
        h = copied _ _ h (omega (arith, area_few, r.work.sound.t_long)) eh H-taken;
        v = copied _ _ v (omega (arith, square_few, r.work.sound.v_long)) ev U-taken;
        w = copied _ _ w (omega (arith, square_few, r.work.sound.w_long)) ew W-taken;
      })
