-- Reading an input in several reads: what each answer says, and what is held in the end.
use Rattle.std.specs.Prelude.{◌≡◌, List, ℕ, zero, suc, ◌+◌, ◌-◌, ◌≤◌, length, take, set, Option, Some, None, Result, Ok, Err}
use Rattle.std.specs.Io.KnownBytes.{Consumes, IsAtEnd}
use Rattle.frames.specs.Broken.{blank, Refused}
use Rattle.glaukemis.specs.declared.input.End.{End}
use Rattle.glaukemis.specs.declared.input.End.TheVariants.{AtEnd, Failed, Full}
use Rattle.glaukemis.specs.declared.input.Held.{Held}

-- by a read's answer, len bytes being held before it, how many are held and how the reading stops: an error says that it failed, 0 that
-- the input has ended
abbrev pub told : {E : Type 0} → (got : Result ℕ E) → (len : ℕ) → ℕ × Option End
told (Err e) len = (suc len, Some Failed)
told (Ok zero) len = (len, Some AtEnd)
told (Ok (suc k)) len = (len + suc k, None)

-- a failed read leaves a blank after what is held, any other leaves the bytes as they came
abbrev pub marked : {E : Type 0} → (got : Result ℕ E) → (len : ℕ) → List ℕ → List ℕ
marked (Err e) len bytes = set bytes len blank
marked (Ok k) len bytes = bytes

-- the bytes held stand at the start of a buffer; the reading stopped at the end of the input, at a failed read or at a full buffer,
-- and the program refuses what a failed read left
pub record HeldBytes (bytes : List ℕ) (x : Held) : Type 0 where
  pub inside : x.len ≤ length bytes
  pub full : x.end ≡ Full → x.len ≡ length bytes
  pub refused : x.end ≡ Failed → Refused (take x.len bytes)

-- the bytes held without the blank of a failed read
abbrev pub came : List ℕ → Held → List ℕ
came bytes x = take (elim x.end [ Failed ↦ x.len - 1 | AtEnd ↦ x.len | Full ↦ x.len ]) bytes

-- of an input whose bytes are known before the reading and after it: those held are its first, in their order, and where the reading
-- stopped at its end they are all
pub record Given (before after : Option (List ℕ)) (bytes : List ℕ) (x : Held) : Type 0 where
  pub first : Consumes before after (came bytes x)
  pub all : x.end ≡ AtEnd → IsAtEnd after
