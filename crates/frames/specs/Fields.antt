-- A Text's fields are told by what it says, so that it may be copied.
use Rattle.std.specs.Prelude.{◌≡◌, ℕ, List, ◌++◌, ◌-◌, ◌≤◌, take}
use Rattle.std.proofs.Common.{sym, ap, subst, ◌∙◌, length-take-le}
use Rattle.frames.specs.Output.{zeros}
use Rattle.frames.specs.declared.text.Text.TheInside.{Inside}
use Rattle.frames.specs.declared.text.Text.TheView.{invariant, inverse, view}

pub fields_back : (a : Inside) → invariant a → inverse (view a) ≡ a
fields_back a h =
    let inside = subst (λ (n : ℕ). a.len ≤ n) (sym h.1) h.0 in
    ap (λ (n : ℕ). record { bytes = take a.len a.bytes ++ zeros (20480 - n); len = n }) (length-take-le a.len a.bytes inside)
    ∙ ap (λ (bs : List ℕ). record { bytes = bs; len = a.len }) (sym h.2)
