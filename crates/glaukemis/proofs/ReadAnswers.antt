-- What is held after a read's answer: where the reading stops there, and where it goes on.
-- Assumes nothing.
use mathlib.Core.Path.{◌≡◌}
use mathlib.Core.List.{List}
use Prim.Native.Nat.{ℕ, zero, suc, ◌-◌, ◌<◌, ◌≤◌}
use native.Mathlib.Omega.{arith}
use lib.ListN.{length, take, drop, length-set}
use lib.Seq.{take-add}
use Rattle.std.proofs.Common.{add-one}
use Rattle.std.specs.Prelude.{Option, Some, None, Result, Ok, Err, IfOk}
use Rattle.std.specs.Io.KnownBytes.{Consumes, ReadConsumes}
use Rattle.std.proofs.KnownBytes.{Consumes-trans}
use Rattle.std.proofs.lemmas.List.{take_more_set}
use Rattle.frames.specs.Broken.{blank}
use Rattle.frames.proofs.Broken.{broken_refused}
use Rattle.glaukemis.specs.declared.input.End.{End}
use Rattle.glaukemis.specs.Reading.{told, marked, HeldBytes}

pub stops : {E : Type 0} (got : Result ℕ E) (len : ℕ) (bytes : List ℕ) (end : End) → len < length bytes → (told got len).1 ≡ Some end
    → HeldBytes (marked got len bytes) (record { len = (told got len).0; end = end })
stops (Err e) len bytes end l t =
    record {
      inside = rw length-set (omega arith);
      full = λ h. cc;
      refused = λ h. rw (simp add-one at (take_more_set bytes len blank l)) (broken_refused (take len bytes));
    }
stops (Ok zero) len bytes end l t = record { inside = omega arith; full = λ h. cc; refused = λ h. cc }
stops (Ok (suc k)) len bytes end l t = cc

-- more bytes came, behind those that were held: bytes and after are the buffer before the read and after it
pub goes_on : {E : Type 0} (x y z : Option (List ℕ)) (got : Result ℕ E) (len : ℕ) (bytes after : List ℕ)
    → length after ≡ length bytes → take len after ≡ take len bytes → len < length bytes → IfOk got (λ n. n ≤ length bytes - len)
    → Consumes x y (take len bytes) → ReadConsumes y z got (drop len after) → (told got len).1 ≡ None
    → ((told got len).0 ≤ length (marked got len after)) × (length (marked got len after) ≡ length bytes)
    × Consumes x z (take (told got len).0 (marked got len after))
goes_on x y z (Err e) len bytes after s k l m p q t = cc
goes_on x y z (Ok zero) len bytes after s k l m p q t = cc
goes_on x y z (Ok (suc n)) len bytes after s k l m p q t =
    (omega (arith, s), s, rw (take-add len (suc n) after, k) (Consumes-trans x y z _ _ p q.0))
