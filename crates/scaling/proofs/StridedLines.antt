-- The lines of a flat list before and after a loop, as lists; and the flag of an addition.
use mathlib.Core.Path.{◌≡◌, refl, ap, ap₂, sym, ◌∙◌}
use mathlib.Core.Logic.{◌≢◌}
use mathlib.Core.Bool.{Bool, true, false, ◌||◌}
use mathlib.Core.List.{List, ◌∷◌, map}
use Prim.Native.Nat.{ℕ, zero, suc, ◌+◌, ◌*◌, ◌%◌, ◌<◌, ◌≤◌}
use native.Mathlib.Nat.{suc-mul}
use native.Mathlib.Omega.{arith}
use lib.ListN.{length}
use lib.IntN.{ℤ, pos, neg_ℤ, ◌+ℤ◌, ◌*ℤ◌}
use Rattle.whole.specs.Lists.{nth, tab}
use Rattle.whole.proofs.Lists.{tab-cong, nth-tab}
use Rattle.whole.proofs.Order.{abs_neg}
use Rattle.whole.proofs.Exchange.{tr, Which, first, second, neither, which?, tr_first, tr-second, tr-neither}
use Rattle.rules.specs.Limits.{beyond}
use Rattle.rules.specs.Steps.{plus, any_beyond}
use Rattle.theory.proofs.Range.{beyond-none}
use Rattle.scaling.specs.Strided.{Within, keep, sum_at, add_f, add_o, swap_f, neg_f, rotate_f}
use Rattle.scaling.specs.Sound.{Small}
use Rattle.scaling.specs.WorkState.{pick}
use Rattle.checks.proofs.Values.{not_beyond}
use Rattle.scaling.proofs.Values.{kept}
use Rattle.scaling.proofs.Places.{Layout, cell, rotate_column, rotate_row}
use Rattle.scaling.proofs.StridedContents.{add_f-kept, add_f-reads, add_f-made, neg_f-kept, neg_f-made, swap_f-kept, swap_f_first, swap_f-second, rotate_f-made}

-- ---- lists made from a function of the index
map_tab : (h : ℤ → ℤ) (k : ℕ) (f : ℕ → ℤ) → map h (tab k f) ≡ tab k (λ i. h (f i))
map_tab h zero f = refl
map_tab h (suc k) f = ap (◌∷◌ (h (f 0))) (map_tab h k (λ i. f (suc i)))

plus_tab : (q : ℤ) (k : ℕ) (f g : ℕ → ℤ) → plus q (tab k f) (tab k g) ≡ tab k (λ i. f i +ℤ q *ℤ g i)
plus_tab q zero f g = refl
plus_tab q (suc k) f g = ap (◌∷◌ (f 0 +ℤ q *ℤ g 0)) (plus_tab q k (λ i. f (suc i)) (λ i. g (suc i)))

-- ---- whether a value is beyond M
-- with one value more, at the end
any_beyond_last : (k : ℕ) (f : ℕ → ℤ) → any_beyond (tab (suc k) f) ≡ beyond (f k) || any_beyond (tab k f)
any_beyond_last zero f = refl
any_beyond_last (suc k) f = ap (λ (b : Bool). beyond (f 0) || b) (any_beyond_last k (λ i. f (suc i)))
    ∙ swapped (beyond (f 0)) (beyond (f (suc k))) (any_beyond (tab k (λ i. f (suc i))))
  where
    swapped : (a b c : Bool) → a || (b || c) ≡ b || (a || c)
    swapped true true c = refl
    swapped true false c = refl
    swapped false b c = refl

-- ---- lines
pick_tab : (xs : List ℤ) (at stride k : ℕ) → pick xs at stride k ≡ tab k (λ i. nth xs (at + i * stride))
unfolding pick
pick_tab xs at stride zero = refl
pick_tab xs at stride (suc k) =
    let e : at ≡ at + 0 * stride = omega arith in
    ap₂ ◌∷◌ (ap (nth xs) e) (pick_tab xs (at + stride) stride k
    ∙ tab-cong k (λ i. nth xs (at + stride + i * stride)) (λ i. nth xs (at + suc i * stride)) (λ i l. ap (nth xs) (omega (arith, suc-mul i stride))))

pub pick-nth : (xs : List ℤ) (at stride k i : ℕ) → i < k → nth (pick xs at stride k) i ≡ nth xs (at + i * stride)
pick-nth xs at stride k i h = rw (pick_tab xs at stride k) (nth-tab k (λ i. nth xs (at + i * stride)) i (pos 0) h)

pub pick_small : (xs : List ℤ) (at stride k : ℕ) → Small xs → any_beyond (pick xs at stride k) ≡ false
unfolding pick
pick_small xs at stride zero h = refl
pick_small xs at stride (suc k) h = rw (not_beyond (nth xs at) (h.at at)) (pick_small xs (at + stride) stride k h)

pick_same : (ys xs : List ℤ) (a b stride k : ℕ) → ((i : ℕ) → i < k → nth ys (a + i * stride) ≡ nth xs (b + i * stride)) → pick ys a stride k ≡ pick xs b stride k
pick_same ys xs a b stride k h = pick_tab ys a stride k ∙ tab-cong k (λ i. nth ys (a + i * stride)) (λ i. nth xs (b + i * stride)) h ∙ sym (pick_tab xs b stride k)

-- one line was written, with x
pub record Written (n i : ℕ) (x : List ℤ) (old new : ℕ → List ℤ) : Type 0 where
  pub here : new i ≡ x
  pub off : (c : ℕ) → c < n → c ≢ i → new c ≡ old c

module _ {n : ℕ} {at : ℕ → ℕ} {stride count : ℕ} (lay : Layout n at stride count) (xs : List ℤ) where
  abbrev lines : List ℤ → ℕ → List ℤ
  lines ys c = pick ys (at c) stride count

  -- ---- swaps
  module _ (i j : ℕ) (hi : i < n) (hj : j < n) (d : i ≢ j) (wi : Within xs (at i) stride count) (wj : Within xs (at j) stride count) where
    pub swap-lines : (c : ℕ) → c < n → lines (swap_f xs (at i) (at j) stride count) c ≡ lines xs (tr i j c)
    swap-lines c h = go (which? i j c)
      where
        ys : List ℤ
        ys = swap_f xs (at i) (at j) stride count

        go : Which i j c → lines ys c ≡ lines xs (tr i j c)
        go (first e) = rw (← e, tr_first i j)
            (pick_same ys xs (at i) (at j) stride count (swap_f_first xs (at i) (at j) stride count (lay.step hi) (lay.apart hi hj d) wi wj))
        go (second _ e) = rw (← e, tr-second i j)
            (pick_same ys xs (at j) (at i) stride count (swap_f-second xs (at i) (at j) stride count (lay.step hi) (lay.apart hi hj d) wi wj))
        go (neither x y) = rw (tr-neither i j c x y) (pick_same ys xs (at c) (at c) stride count (λ k l. swap_f-kept xs (at i) (at j) stride (at c + k * stride) count
            (λ o b. ((lay.apart h hi (omega arith)).each k o l b, (lay.apart h hj (omega arith)).each k o l b))))

  -- ---- negations
  module _ (i : ℕ) (hi : i < n) (w : Within xs (at i) stride count) (s : Small xs) where
    pub negate-lines : Written n i (map neg_ℤ (lines xs i)) (lines xs) (lines (neg_f xs (at i) stride count))
    negate-lines = record {
      here = pick_tab ys (at i) stride count
          ∙ tab-cong count (λ k. nth ys (at i + k * stride)) (λ k. neg_ℤ (nth xs (at i + k * stride)))
          (λ k l. neg_f-made xs (at i) stride count (lay.step hi) w k l ∙ small k)
          ∙ sym (map_tab neg_ℤ count (λ k. nth xs (at i + k * stride))) ∙ ap (map neg_ℤ) (sym (pick_tab xs (at i) stride count));
      off = λ c h d. pick_same ys xs (at c) (at c) stride count (λ k l. neg_f-kept xs (at i) stride (at c + k * stride) count (λ o b. (lay.apart h hi d).each k o l b));
    }
      where
        ys : List ℤ
        ys = neg_f xs (at i) stride count

        small : (k : ℕ) → keep (neg_ℤ (nth xs (at i + k * stride))) ≡ neg_ℤ (nth xs (at i + k * stride))
        small k = kept (neg_ℤ (nth xs (at i + k * stride))) (omega (arith, abs_neg (nth xs (at i + k * stride)), s.at (at i + k * stride)))

  -- ---- additions
  module _ (i j : ℕ) (q : ℤ) (hi : i < n) (hj : j < n) (d : j ≢ i) where
    abbrev sum : ℕ → ℤ
    sum k = sum_at q (at j + k * stride) (at i + k * stride) xs

    sums : plus q (lines xs j) (lines xs i) ≡ tab count sum
    sums = ap₂ (plus q) (pick_tab xs (at j) stride count) (pick_tab xs (at i) stride count)
        ∙ plus_tab q count (λ k. nth xs (at j + k * stride)) (λ k. nth xs (at i + k * stride))

    flag-upto : (c : ℕ) → c ≤ count → add_o xs (at j) (at i) stride q c ≡ any_beyond (tab c sum)
    unfolding add_o
    flag-upto zero h = refl
    flag-upto (suc c) h = ap₂ ◌||◌ (ap beyond (add_f-reads xs (at j) (at i) stride q count (lay.step hi) (lay.apart hj hi d) c h)) (flag-upto c (omega arith))
        ∙ sym (any_beyond_last c sum)

    pub add-flag : add_o xs (at j) (at i) stride q count ≡ any_beyond (plus q (lines xs j) (lines xs i))
    add-flag = flag-upto count (omega arith) ∙ ap any_beyond (sym sums)

    pub add-lines : Within xs (at j) stride count → add_o xs (at j) (at i) stride q count ≡ false
        → Written n j (plus q (lines xs j) (lines xs i)) (lines xs) (lines (add_f xs (at j) (at i) stride q count))
    add-lines w e = record {
      here = pick_tab ys (at j) stride count ∙ tab-cong count (λ k. nth ys (at j + k * stride)) sum (λ k l.
          add_f-made xs (at j) (at i) stride q count (lay.step hi) (lay.apart hj hi d) k l w
          ∙ kept (sum k) (rw (nth-tab count sum k (pos 0) l) at (beyond-none (tab count sum) (sym (flag-upto count (omega arith)) ∙ e) k))) ∙ sym sums;
      off = λ c h x. pick_same ys xs (at c) (at c) stride count
          (λ k l. add_f-kept xs (at j) (at i) stride q (at c + k * stride) count (λ o b. (lay.apart h hj x).each k o l b));
    }
      where
        ys : List ℤ
        ys = add_f xs (at j) (at i) stride q count

-- ---- turned rows
pub rotate_columns : (xs old : List ℤ) (m n a : ℕ) → m * n ≤ length xs → (c : ℕ) → c < n → pick (rotate_f xs old n a (m * n)) c n m ≡ pick old ((c + a) % n) n m
rotate_columns xs old m n a l c h = pick_same (rotate_f xs old n a (m * n)) old c ((c + a) % n) n m
    (λ k g. rotate_f-made xs old n a (m * n) (c + k * n) l (cell h g) ∙ ap (nth old) (rotate_column n a c k h))

pub rotate_rows : (xs old : List ℤ) (n a : ℕ) → n * n ≤ length xs → (c : ℕ) → c < n
    → pick (rotate_f xs old (n * n) (a * n) (1 * (n * n))) (c * n) 1 n ≡ pick old ((c + a) % n * n) 1 n
rotate_rows xs old n a l c h = pick_same (rotate_f xs old (n * n) (a * n) (1 * (n * n))) old (c * n) ((c + a) % n * n) 1 n
    (λ k g. rotate_f-made xs old (n * n) (a * n) (1 * (n * n)) (c * n + k * 1) (omega arith) (omega (arith, cell {j = k} {n = n} {k = c} {m = n} g h))
    ∙ ap (nth old) (rotate_row n a c k h g))
