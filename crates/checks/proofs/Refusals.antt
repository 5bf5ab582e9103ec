-- A verdict tells one refusal, and an answer that tells a verdict is one only.
use Rattle.std.proofs.Common.{◌≡◌, ◌≢◌, ℕ, zero, suc, refl, sym, ap, ◌∙◌, arith}
use Rattle.rules.specs.Calls.{Verdict, taken, refused}
use Rattle.checks.specs.declared.Refusal.{Refusal}
use Rattle.checks.specs.declared.Refusal.TheVariants.{Sizes, Lengths, Outputs, Modulus, Entry, Exponent, Overflow, NotFree, LargeExponent, BadLine}
use Rattle.checks.specs.Refusals.{number_of, refusal}

-- the refusal of a number and a place
abbrev back : (number place : ℕ) → Refusal
back zero p = BadLine p
back (suc zero) p = Sizes
back (suc (suc zero)) p = Lengths
back (suc (suc (suc zero))) p = Outputs
back (suc (suc (suc (suc zero)))) p = Modulus p
back (suc (suc (suc (suc (suc zero))))) p = Entry p
back (suc (suc (suc (suc (suc (suc zero)))))) p = Exponent p
back (suc (suc (suc (suc (suc (suc (suc zero))))))) p = Overflow
back (suc (suc (suc (suc (suc (suc (suc (suc zero)))))))) p = NotFree p
back (suc (suc (suc (suc (suc (suc (suc (suc (suc zero))))))))) p = LargeExponent p
back (suc (suc (suc (suc (suc (suc (suc (suc (suc (suc n)))))))))) p = BadLine p

abbrev back_of : Verdict → Refusal
back_of taken = Sizes
back_of (refused number place) = back number place

back_refusal : (r : Refusal) → back_of (refusal r) ≡ r
back_refusal Sizes = refl
back_refusal Lengths = refl
back_refusal Outputs = refl
back_refusal (Modulus i) = refl
back_refusal (Entry i) = refl
back_refusal (Exponent i) = refl
back_refusal Overflow = refl
back_refusal (NotFree i) = refl
back_refusal (LargeExponent i) = refl
back_refusal (BadLine i) = refl

pub one_refusal : {r r' : Refusal} → refusal r ≡ refusal r' → r ≡ r'
one_refusal {r} {r'} e = sym (back_refusal r) ∙ ap back_of e ∙ back_refusal r'

-- taken or refused, not both
pub taken-refused : {number place : ℕ} → taken ≡ refused number place → ⊥
taken-refused e = let o : ◌≡◌ {A = ℕ} 0 1 = cc in omega arith

-- no refusal has the number 0
pub refusal_not-0 : (e : Refusal) → number_of e ≢ 0
refusal_not-0 Sizes h = absurd (omega arith)
refusal_not-0 Lengths h = absurd (omega arith)
refusal_not-0 Outputs h = absurd (omega arith)
refusal_not-0 (Modulus i) h = absurd (omega arith)
refusal_not-0 (Entry i) h = absurd (omega arith)
refusal_not-0 (Exponent i) h = absurd (omega arith)
refusal_not-0 Overflow h = absurd (omega arith)
refusal_not-0 (NotFree i) h = absurd (omega arith)
refusal_not-0 (LargeExponent i) h = absurd (omega arith)
refusal_not-0 (BadLine i) h = absurd (omega arith)
