-- The units of an exponent, one after the other, as `values::power` counts.
use mathlib.Core.Path.{◌≡◌, refl, sym, ap, ◌∙◌}
use mathlib.Core.Bool.{true, false, true≢false}
use Prim.Native.Nat.{ℕ, zero, suc, ◌+◌}
use native.Mathlib.Omega.{arith}
use borrow.Author.Tests.{ltb-true}
use lib.IntN.{ℤ, pos, negsuc, nat_abs}
use lib.ListN.{replicate}
use lib.Signed.{lt_z}
use lib.Ieee.{Float, binary64, mul, div}
use Rattle.std.proofs.Common.{add-one}
use Rattle.rules.specs.Gauges.{unit, units, after, operate}

-- r is what the first k units of e make of the start, by x
pub record Made (x start : Float) (e : ℤ) (k : ℕ) (r : Float) : Type 0 where
  pub made : r ≡ after (operate (λ j. x)) start (replicate k (unit 0 e))

-- s is what one unit of e makes of r
pub record Next (x : Float) (e : ℤ) (r s : Float) : Type 0 where
  pub next : s ≡ operate (λ j. x) r (unit 0 e)

last_unit : (x : Float) (e : ℤ) (k : ℕ) (r : Float)
    → after (operate (λ j. x)) r (replicate (suc k) (unit 0 e)) ≡ operate (λ j. x) (after (operate (λ j. x)) r (replicate k (unit 0 e))) (unit 0 e)
last_unit x e zero r = refl
last_unit x e (suc k) r = last_unit x e k (operate (λ j. x) r (unit 0 e))

pub one_more : {x start : Float} {e : ℤ} {k : ℕ} {r s : Float} → Made x start e k r → Next x e r s → Made x start e (k + 1) s
one_more {x} {start} {e} {k} m n =
    rw add-one (record { made = n.next ∙ ap (λ q. operate (λ j. x) q (unit 0 e)) m.made ∙ sym (last_unit x e k start) })

pub all_made : {x start : Float} {e : ℤ} {k : ℕ} {r : Float} → Made x start e k r → k ≡ nat_abs e → r ≡ after (operate (λ j. x)) start (units 0 e)
all_made {x} {start} {e} m h = m.made ∙ ap (λ i. after (operate (λ j. x)) start (replicate i (unit 0 e))) h

pub by_quotient : {x : Float} {e : ℤ} {r s : Float} → lt_z e (pos 0) ≡ true → s ≡ div binary64 r x → Next x e r s
by_quotient {e = pos k} t h = absurd (omega (arith, ltb-true k 0 t))
by_quotient {e = negsuc k} t h = record { next = h }

pub by_product : {x : Float} {e : ℤ} {r s : Float} → lt_z e (pos 0) ≡ false → s ≡ mul binary64 r x → Next x e r s
by_product {e = pos k} t h = record { next = h }
by_product {e = negsuc k} t h = absurd (true≢false t)
