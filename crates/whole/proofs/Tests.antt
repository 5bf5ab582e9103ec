-- A test, as code makes it, together with what its answer says.
-- A proof about `cond (ltb m n) x y` or `elim (ltb m n) [ .. ]` is a `go : {b : Bool} → Test (m < n) (n ≤ m) b → .. b ..` with a clause for `pass` and
-- one for `fail`, called at `lt? m n`: in each clause b is a constructor, so the branch computes.
use mathlib.Core.Path.{◌≡◌, refl, sym, ◌∙◌}
use mathlib.Core.Logic.{◌≢◌, ◌⊎◌, inl, inr}
use mathlib.Core.Bool.{Bool, true, false, not, ◌&&◌, ◌||◌, true≢false, false≢true}
use Prim.Native.Nat.{ℕ, ◌≤◌, ◌<◌}
use lib.Dec.{T, leb, ltb, eqb, leb→le, nleb→lt, ltb→lt, nltb→le, eqb→eq, eqb_refl, T_not}
use lib.IntN.{ℤ}
use lib.Signed.{◌≤ℤ◌, ◌<ℤ◌, lt_z, lt_z_yes, lt_z_no}

pub data Test (P Q : Type 0) : Bool → Type 0 where
  pass : P → Test P Q true
  fail : Q → Test P Q false

pub test : {P Q : Type 0} (b : Bool) → (T b → P) → (T (not b) → Q) → Test P Q b
test true f g = pass (f tt)
test false f g = fail (g tt)

pub lt? : (m n : ℕ) → Test (m < n) (n ≤ m) (ltb m n)
lt? m n = test (ltb m n) (ltb→lt m n) (nltb→le m n)

pub le? : (m n : ℕ) → Test (m ≤ n) (n < m) (leb m n)
le? m n = test (leb m n) (leb→le m n) (nleb→lt m n)

pub eq? : (m n : ℕ) → Test (m ≡ n) (m ≢ n) (eqb m n)
eq? m n = test (eqb m n) (eqb→eq m n) (λ t e. T_not (eqb m n) t (rw e (eqb_refl n)))

pub lt_z? : (a b : ℤ) → Test (a <ℤ b) (b ≤ℤ a) (lt_z a b)
lt_z? a b = test (lt_z a b) lt_z_yes lt_z_no

-- ---- the answer, where one side cannot be
-- (of the tests of ℕ the kit's borrow.Author.Tests has both ways already, as lt-ltb and ltb-true)
pub is_true : {P Q : Type 0} {b : Bool} → Test P Q b → ¬ Q → b ≡ true
is_true (pass p) d = refl
is_true (fail q) d = absurd (d q)

pub is_false : {P Q : Type 0} {b : Bool} → Test P Q b → ¬ P → b ≡ false
is_false (pass p) d = absurd (d p)
is_false (fail q) d = refl

-- ---- what a test says, where its answer is known
pub passed : {P Q : Type 0} {b : Bool} → Test P Q b → b ≡ true → P
passed (pass p) e = p
passed (fail q) e = absurd (false≢true e)

pub failed : {P Q : Type 0} {b : Bool} → Test P Q b → b ≡ false → Q
failed (pass p) e = absurd (true≢false e)
failed (fail q) e = q

pub negated : {P Q : Type 0} {b : Bool} → Test P Q b → Test Q P (not b)
negated (pass p) = fail p
negated (fail q) = pass q

-- ---- two answers
pub true-not-false : {b : Bool} → b ≡ true → b ≡ false → ⊥
true-not-false p q = true≢false (sym p ∙ q)

-- where b follows from a, and b is false, so is a
pub false_of : (a b : Bool) → (a ≡ true → b ≡ true) → b ≡ false → a ≡ false
false_of true b h e = absurd (true-not-false (h refl) e)
false_of false b h e = refl

pub and_both : (a b : Bool) → a && b ≡ true → (a ≡ true) × (b ≡ true)
and_both true b e = (refl, e)
and_both false b e = absurd (false≢true e)

pub or-neither : (a b : Bool) → a || b ≡ false → (a ≡ false) × (b ≡ false)
or-neither true b e = absurd (true≢false e)
or-neither false b e = (refl, e)

pub or-either : (a b : Bool) → a || b ≡ true → (a ≡ true) ⊎ (b ≡ true)
or-either true b e = inl refl
or-either false b e = inr e
