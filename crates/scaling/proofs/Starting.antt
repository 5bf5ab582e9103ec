-- The code's start is the definition's: a state whose T holds C and whose V and W are the identity.
use mathlib.Core.Path.{◌≡◌, refl, sym, ◌∙◌, ap, ap₂}
use mathlib.Core.Bool.{Bool, false}
use mathlib.Core.List.{List, [], ◌∷◌}
use Prim.Native.Nat.{ℕ, zero, suc, ◌+◌, ◌*◌, ◌/◌, ◌%◌, ◌≤◌, ◌<◌}
use native.Mathlib.Omega.{arith}
use native.Mathlib.Nat.{suc-mul, div-add-mod', mod-lt, div-lt_iff_lt-mul}
use native.Mathlib.Decide.{ℕ_discrete}
use lib.Arith.{digits_lt, digits_div, digits_mod}
use lib.ListN.{length, get_or}
use lib.IntN.{ℤ, pos, nat_abs}
use Rattle.whole.specs.Lists.{nth}
use Rattle.whole.specs.Matrix.{δ}
use Rattle.whole.proofs.Tests.{Test, pass, fail, lt?}
use Rattle.whole.proofs.Sum.{δ-same, δ-diff, δ-sym}
use Rattle.rules.specs.Limits.{M, room_h, room_v}
use Rattle.rules.specs.Problem.{Problem, N, C, columns, WellFormed}
use Rattle.rules.specs.Steps.{line, unit, start}
use Rattle.theory.proofs.Start.{start_count, start_line, nth-unit, length-unit}
use Rattle.theory.proofs.Shape.{length-columns, column-length}
use Rattle.theory.proofs.Sizes.{N-le_24}
use Rattle.scaling.specs.declared.work.Work.{Work}
use Rattle.scaling.specs.Sound.{Small, Sound}
use Rattle.scaling.specs.WorkState.{pick, line_of}
use Rattle.scaling.specs.Problem.{HoldsC, HoldsIdentity, Starts}
use Rattle.scaling.proofs.MatrixC.{columns-some, C-small, place_in}
use Rattle.scaling.proofs.State.{state_is}

-- all of its entries are 0
abbrev Zeros : List ℤ → Type 0
Zeros xs = (k : ℕ) → nth xs k ≡ pos 0

-- the entries of a list with a stride
pick_is : (xs : List ℤ) (at stride k : ℕ) (ys : List ℤ) → length ys ≡ k → ((i : ℕ) → i < k → nth xs (at + i * stride) ≡ nth ys i)
    → pick xs at stride k ≡ ys
unfolding pick
pick_is xs at stride zero [] e h = refl
pick_is xs at stride zero (y ∷ ys) e h = absurd (omega arith)
pick_is xs at stride (suc k) [] e h = absurd (omega arith)
pick_is xs at stride (suc k) (y ∷ ys) e h =
    let z : at ≡ at + 0 * stride = omega arith in
    ap₂ ◌∷◌ (ap (nth xs) z ∙ h 0 (omega arith))
    (pick_is xs (at + stride) stride k ys (omega arith) (λ i b. ap (nth xs) (omega (arith, suc-mul i stride)) ∙ h (suc i) (omega arith)))

-- ---- the identity
δ-small : (r c : ℕ) → nat_abs (δ r c) ≤ M
δ-small r c = go (ℕ_discrete r c)
  where
    go : Dec (r ≡ c) → nat_abs (δ r c) ≤ M
    go (yes e) = rw (← e, δ-same r) (omega arith)
    go (no d) = rw (δ-diff r c d) (omega arith)

module _ {n : ℕ} {a a₀ : List ℤ} (h : HoldsIdentity n a a₀) (z : Zeros a₀) where
  identity-column : (i : ℕ) → i < n → pick a i n n ≡ unit n i
  identity-column i l = pick_is a i n n (unit n i) (length-unit n i) (λ r b.
      let e : i + r * n ≡ r * n + i = omega arith in
      ap (nth a) e ∙ h.entries z r i b l ∙ δ-sym r i ∙ sym (nth-unit n i r l))

  identity-row : (i : ℕ) → i < n → pick a (i * n) 1 n ≡ unit n i
  identity-row i l = pick_is a (i * n) 1 n (unit n i) (length-unit n i) (λ c b.
      let e : i * n + c * 1 ≡ i * n + c = omega arith in
      ap (nth a) e ∙ h.entries z i c l b ∙ sym (nth-unit n i c l))

  identity-small : 0 < n → Small a
  identity-small p = record { at = λ k. go k (lt? k (n * n)) }
    where
      go : {b : Bool} (k : ℕ) → Test (k < n * n) (n * n ≤ k) b → nat_abs (nth a k) ≤ M
      go k (pass l) =
          let b : k / n < n = (div-lt_iff_lt-mul {k = n} {x = k} {y = n} p).1 l in
          rw (← div-add-mod' k n, h.entries z (k / n) (k % n) b (mod-lt k p)) (δ-small (k / n) (k % n))
      go k (fail l) = rw (h.rest k l, z k) (omega arith)

-- ---- C
module _ {P : Problem} {t t₀ : List ℤ} (g : WellFormed P) (h : HoldsC P t t₀) (z : Zeros t₀) where
  C-column : (c : ℕ) → c < N P → pick t c (N P) P.m ≡ get_or (columns P) c []
  unfolding C
  C-column c l = pick_is t c (N P) P.m (get_or (columns P) c []) (column-length P c l) (λ r b.
      let e : c + r * N P ≡ r * N P + c = omega arith in
      ap (nth t) e ∙ h.entries (r * N P + c) (digits_lt {q = r} {m = P.m} {r = c} {c = N P} b l)
      ∙ rw (digits_div r l, digits_mod r l))

  C-holds-small : Small t
  C-holds-small = record { at = λ k. go k (lt? k (P.m * N P)) }
    where
      go : {b : Bool} (k : ℕ) → Test (k < P.m * N P) (P.m * N P ≤ k) b → nat_abs (nth t k) ≤ M
      go k (pass l) = rw (h.entries k l) (omega (arith, C-small g (place_in g refl k l)))
      go k (fail l) = rw (h.rest k l, z k) (omega arith)

  -- ---- the state
  -- x is the number of columns, as the code has it
  module _ {x : ℕ} {v v₀ : List ℤ} (e : x ≡ N P) (held : HoldsIdentity x v v₀) (y : Zeros v₀) where
    identity : HoldsIdentity (N P) v v₀
    identity = rw e at held

    line_is : (c : ℕ) → c < N P → line_of P.m (N P) t v v c ≡ line (start (columns P)) c
    unfolding line_of
    line_is c l = rw (
      start_line (columns P) c (omega (arith, length-columns P)),
      length-columns P,
      C-column c l,
      identity-column identity y c l,
      identity-row identity y c l,
    )

    pub start-sound : length t ≡ room_h → length v ≡ room_v → Sound P.m x t v v false
    start-sound f l = record {
      rows = g.m-high;
      cols = rw e (N-le_24 P g);
      t_long = f;
      v_long = l;
      w_long = l;
      t_small = λ _. C-holds-small;
      v_small = λ _. identity-small identity y (columns-some g);
      w_small = λ _. identity-small identity y (columns-some g);
    }

    -- the state that is made of them
    pub start_same : {r : Work} → r.m ≡ P.m → r.cols ≡ x → r.t ≡ t → r.v ≡ v → r.w ≡ v → r.steps ≡ 0 → r.over ≡ false → Starts P r
    start_same {r} rows cols is-t is-v is-w steps over = record {
      rows = rows;
      cols = cols ∙ e;
      clear = over;
      same = state_is r (start (columns P)) (start_count (columns P) ∙ length-columns P ∙ sym (cols ∙ e))
          (λ c l. (λ k. line_of (rows k) ((cols ∙ e) k) (is-t k) (is-v k) (is-w k) c) ∙ line_is c (omega (arith, e))) steps over;
    }
