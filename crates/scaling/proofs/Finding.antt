-- The searches of std as the code calls them, said as the definition's: `find` over a range, and the same from its end down.
use Rattle.std.proofs.Common.{◌≡◌, refl, ap, sym, ◌∙◌, subst, Bool, true, false, not, eqb, ltb, cond, List, [], ◌∷◌, ℕ, ◌+◌, ◌-◌, ◌*◌, ◌≤◌, ◌<◌, arith, ℤ, pos, nat_abs, take, drop, Bor, Option, Some, None, IfSome, MatchOption}
use Rattle.std.proofs.lemmas.List.{get_or-take, get_or-drop}
use denote.Param.Members.{Mut}
use Rattle.std.specs.Bool.{⊤}
use Rattle.std.specs.Fn.{CalledAt}
use Rattle.std.specs.Iterator.{Yields, YieldsThen, CallableAtEachTurn}
use Rattle.std.specs.Iterator.Adapters.{rev_steps}
use Rattle.std.specs.List.{FoldsTo}
use Rattle.std.specs.declared.iter.Rev.{Rev}
use Rattle.std.specs.declared.ops.Range.{Range}
use Rattle.whole.specs.Lists.{nth}
use Rattle.whole.proofs.Order.{below_suc}
use Rattle.whole.proofs.Tests.{Test, pass, fail, lt?, eq?, passed, negated, true-not-false}
use Rattle.rules.specs.Search.{Found, none, found, first, or_smaller}
use Rattle.rules.specs.Stages.{is_other}
use Rattle.checks.specs.Checks.{finding}
use Rattle.checks.proofs.Found.{first-none, first-found}
use Rattle.theory.proofs.Search.{is_other_lem, LastIs, no_last, is_last, last_is}
use Rattle.scaling.specs.Scan.{sizes, FilledAt, Filled, AnOther, Other, AllInRange, Unreduced, Lowest, in_range, better_of}

-- what `find` over lo to hi tells of its answer r
abbrev pub FirstOf : (test : ℕ → Bool) (lo hi : ℕ) → Option ℕ → Type 0
FirstOf test lo hi r = MatchOption r ((k : ℕ) → lo ≤ k → k < hi → test k ≡ false)
    (λ j. (lo ≤ j) × (j < hi) × (test j ≡ true) × ((k : ℕ) → lo ≤ k → k < j → test k ≡ false))

first_of : (test : ℕ → Bool) (lo hi : ℕ) (r : Option ℕ) → FirstOf test lo hi r → finding r ≡ first test lo hi
first_of test lo hi None h = sym (first-none test lo hi (λ k i. h k i.low i.high))
first_of test lo hi (Some j) h = sym (first-found test lo hi j (record { low = h.0; high = h.1 }) h.2 (λ k i. h.3 k i.low i.high))

pub filled_of : (row : List ℤ) (lo hi : ℕ) (r : Option ℕ) → FirstOf (λ j. not (eqb (sizes row j) 0)) lo hi r → Filled row lo hi r
filled_of row lo hi r h = record { is = first_of (λ j. not (eqb (sizes row j) 0)) lo hi r h; inside = at r h }
  where
    at : (r : Option ℕ) → FirstOf (λ j. not (eqb (sizes row j) 0)) lo hi r → IfSome r (FilledAt row lo hi)
    at None h = tt
    at (Some j) h = record { low = h.0; high = h.1; filled = omega (arith, passed (negated (eq? (sizes row j) 0)) h.2) }

pub other_of : (row : List ℤ) (p lo hi : ℕ) (r : Option ℕ) → FirstOf (is_other (sizes row) p) lo hi r → Other row p lo hi r
other_of row p lo hi r h = record { is = first_of (is_other (sizes row) p) lo hi r h; inside = at r h }
  where
    at : (r : Option ℕ) → FirstOf (is_other (sizes row) p) lo hi r → IfSome r (AnOther row p lo hi)
    at None h = tt
    at (Some j) h =
        let t = passed (is_other_lem (sizes row) p j) h.2 in
        record { low = h.0; high = h.1; apart = t.0; filled = omega (arith, t.1) }

pub unreduced_of : (row : List ℤ) (b lo hi : ℕ) (r : Option ℕ)
    → MatchOption r (AllInRange row b lo hi) (λ c. (lo ≤ c) × (c < hi) × (in_range row b c ≡ false) × AllInRange row b lo c) → Unreduced row b lo hi r
unreduced_of row b lo hi None h = record { all = h }
unreduced_of row b lo hi (Some c) h = record { all = record { low = h.0; high = h.1; out = h.2; lower = h.3 } }

-- ---- a range from its end down
abbrev back : Range ℕ → Option ℕ → Range ℕ → Type 0
back s r t = (t.start ≡ s.start) × MatchOption r ((s.end - s.start ≡ 0) × (t.end ≡ s.end)) (λ x. (0 < s.end - s.start) × (x ≡ t.end) × (s.end ≡ t.end + 1))

abbrev down : Rev (Range ℕ) → Option ℕ → Rev (Range ℕ) → Type 0
down = rev_steps back

-- the closure is f after each call, and each number that has come had No
came : {F : Type 0} (R : F → ℕ → F → Type 0) (No : ℕ → Type 0) (f : F) → ((x : ℕ) (q : F) → R f x q → (q ≡ f) × No x) → (xs : List ℕ) (s t : Rev (Range ℕ)) (q : F)
    → Yields down s xs t → FoldsTo R f xs q → (q ≡ f) × (t.iter.end ≤ s.iter.end) × (t.iter.start ≡ s.iter.start) × ((k : ℕ) → t.iter.end ≤ k → k < s.iter.end → No k)
came R No f h [] s t q y c = rw y (sym c, omega arith, refl, λ k a b. absurd (omega arith))
came R No f h (x ∷ xs) s t q y c =
    let n = h x c.0 c.1 in
    let w = came R No f h xs y.0 t q y.2 (subst (λ j. FoldsTo R j xs q) n.0 c.2) in (
      w.0,
      omega (arith, w.1, y.1.1),
      w.2 ∙ y.1.0,
      λ k a b. below_suc No y.0.iter.end (subst No y.1.1.1 n.1) k (w.3 k a) (omega (arith, y.1.1)),
    )

pub serves_down : {P : Type 0} {R : P → ℕ → P → Type 0} {Q : P → ℕ → Type 0} {s : Rev (Range ℕ)} {p : P}
    → ((x : ℕ) (q : P) → R p x q → q ≡ p) → ((x : ℕ) → x < s.iter.end → Q p x) → CallableAtEachTurn down R Q s p
serves_down {P} {R} {Q} {s} {p} stays h = record {
  at = λ xs t q x u y c e.
      let w = came R (λ _. ⊤) p (λ x q k. (stays x q k, tt)) xs s t q y c in
      subst (λ k. Q k x) (sym w.0) (h x (omega (arith, w.1, e.1)));
}

-- what `find` over hi - 1, .., 0 tells of its answer r
abbrev pub LastOf : (test : ℕ → Bool) (hi : ℕ) → Option ℕ → Type 0
LastOf test hi r = MatchOption r ((k : ℕ) → k < hi → test k ≡ false) (λ j. (j < hi) × (test j ≡ true) × ((k : ℕ) → j < k → k < hi → test k ≡ false))

pub last_from_down : {F : Type 0} {g : Mut F (Bor ℕ × Unit {0}) Bool} (s u : Rev (Range ℕ)) (f : F) (r : Option ℕ) (test : ℕ → Bool)
    → (xs : List ℕ) × (j : F) × YieldsThen down s xs r u × FoldsTo (λ p x q. CalledAt g p x false q) f xs j × MatchOption r ⊤ (λ x. (h : F) × CalledAt g j x true h)
    → s.iter.start ≡ 0
    → ((x : ℕ) (q : F) → CalledAt g f x true q → test x ≡ true) → ((x : ℕ) (q : F) → CalledAt g f x false q → (q ≡ f) × (test x ≡ false))
    → LastOf test s.iter.end r
last_from_down {F} {g} s u f r test d z yes' no' = ends r d.2.2 d.4
  where
    w : (d.1 ≡ f) × (d.2.0.iter.end ≤ s.iter.end) × (d.2.0.iter.start ≡ s.iter.start) × ((k : ℕ) → d.2.0.iter.end ≤ k → k < s.iter.end → test k ≡ false)
    w = came (λ p x q. CalledAt g p x false q) (λ k. test k ≡ false) f no' d.0 s d.2.0 d.1 d.2.1 d.3

    ends : (r : Option ℕ) → down d.2.0 r u → MatchOption r ⊤ (λ x. (h : F) × CalledAt g d.1 x true h) → LastOf test s.iter.end r
    ends None e t = λ k h. w.3 k (omega (arith, e.1, w.2)) h
    ends (Some x) e t = (
      omega (arith, e.1, w.1),
      yes' x t.0 (subst (λ k. CalledAt g k x true t.0) w.0 t.1),
      λ k a b. w.3 k (omega (arith, e.1)) b,
    )

pub lowest_of : (xs : List ℤ) (n c : ℕ) (r : Option ℕ) → LastOf (λ k. not (eqb (nat_abs (nth xs (c + k * n))) 0)) n r → Lowest xs n c r
lowest_of xs n c r h = record { is = is r h (last_is filled n); inside = inside r h }
  where
    filled : ℕ → Bool
    filled k = not (eqb (nat_abs (nth xs (c + k * n))) 0)

    is : (r : Option ℕ) {x : Found} → LastOf filled n r → LastIs filled n x → finding r ≡ x
    is None h (no_last z) = refl
    is None h (is_last k i e z) = absurd (true-not-false e (h k i))
    is (Some j) h (no_last z) = absurd (true-not-false h.1 (z j h.0))
    is (Some j) h (is_last k i e z) = ap found (same (lt? j k) (lt? k j))
      where
        same : {b d : Bool} → Test (j < k) (k ≤ j) b → Test (k < j) (j ≤ k) d → j ≡ k
        same (pass x) y = absurd (true-not-false e (h.2 k x i))
        same (fail x) (pass y) = absurd (true-not-false h.1 (z j y h.0))
        same (fail x) (fail y) = omega arith

    inside : (r : Option ℕ) → LastOf filled n r → IfSome r (λ k. (k < n) × (0 < nat_abs (nth xs (c + k * n))))
    inside None h = tt
    inside (Some k) h = (h.0, omega (arith, passed (negated (eq? (nat_abs (nth xs (c + k * n))) 0)) h.1))

-- ---- one column more in the scan for the smallest
pub better_is : (f : ℕ → ℕ) (best : Option ℕ) (j : ℕ) → finding (better_of f best j) ≡ or_smaller f j (finding best)
better_is f None j = go (eqb (f j) 0)
  where
    go : (x : Bool) → finding (cond x None (Some j)) ≡ elim x as (λ _. Found) [ true ↦ none | false ↦ found j ]
    go true = refl
    go false = refl
better_is f (Some p) j = go (eqb (f j) 0) (ltb (f j) (f p))
  where
    go : (x y : Bool) → finding (cond x (Some p) (cond y (Some j) (Some p)))
        ≡ elim x as (λ _. Found) [ true ↦ found p | false ↦ elim y as (λ _. Found) [ true ↦ found j | false ↦ found p ] ]
    go true y = refl
    go false true = refl
    go false false = refl

-- ---- a row as a slice of the flat list that begins at base
pub row-nth : (xs : List ℤ) (base n c : ℕ) → c < n → nth (take n (drop base xs)) c ≡ nth xs (base + c)
row-nth xs base n c h = get_or-take n (drop base xs) c (pos 0) h ∙ get_or-drop base xs c (pos 0)
