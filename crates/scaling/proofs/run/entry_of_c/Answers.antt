-- The rows with a modulus are listed in `p`, so that its list says which entry stands there.
use Rattle.std.proofs.Common.{◌≡◌, ℕ, List, true, nat_lt, ◌+◌, ◌-◌, ◌*◌, ◌∙◌, ◌<◌, ap, get_or, length, sym, rules, arith}
use borrow.Author.Tests.{ltb-true, ltb-false}
use mir.Facts.{to_z-of_z}
use mir.Syntax.{w32}
use mir.Val.{SFits}
use Rattle.std.proofs.lemmas.List.{get_or_default}
use Rattle.whole.specs.Lists.{nth}
use Rattle.rules.specs.Problem.{Problem, s, modulus_rows}
use Rattle.checks.specs.Checks.{problem_of}
use Rattle.checks.proofs.Listing.{rows_counted}
use Rattle.theory.proofs.ModulusRows.{modulus_row}
use Rattle.scaling.proofs.MatrixC.{C-modulus, C_else, C-quantity}
use Rattle.scaling.proofs.run.entry_of_c.Goals as goal

listed : (P : Problem) (c k : ℕ) {xs : List ℕ} → xs ≡ modulus_rows P → true ≡ nat_lt c (length xs) → k ≡ get_or xs c k
    → (c < s P) × (k ≡ modulus_row P c)
listed P c k {xs} e b h =
    let l = rw e at (ltb-true _ _ (sym b)) in
    (l, rw e at h ∙ get_or_default _ c k 0 l)

pub returns-in-Some : goal.returns-in-Some
returns-in-Some c =
    let p = c.args.p.now in
    let r : SFits w32 c.opposite.result = search rules in
    let x : SFits w32 (nth p.moduli.now c.args.i) = search rules in
    let k = listed (problem_of p) c.args.c _ c.modulus_rows.ensures.value c.in-Some.ensures.lookup.0 c.in-Some.ensures.lookup.1 in
    rw (to_z-of_z r, c.opposite.ensures, to_z-of_z x) (C-modulus p.well_formed c.requires k.0 (sym k.1 ∙ c.if-k-i.true))

pub returns-in-Some-2 : goal.returns-in-Some-2
returns-in-Some-2 c =
    let p = c.args.p.now in
    let k = listed (problem_of p) c.args.c _ c.modulus_rows.ensures.value c.in-Some.ensures.lookup.0 c.in-Some.ensures.lookup.1 in
    C_else p.well_formed c.requires k.0 (λ e. c.if-k-i.false (k.1 ∙ e))

pub returns-in-None : goal.returns-in-None
returns-in-None c =
    let p = c.args.p.now in
    let x : SFits w32 (nth p.matrix.now (c.args.i * p.n + (c.args.c - p.rows.s))) = search rules in
    let l = ltb-false _ _ (sym c.in-None.ensures.lookup.0) in
    to_z-of_z x ∙ C-quantity p.well_formed c.requires (rows_counted p) (omega (arith, ap length c.modulus_rows.ensures.value, rows_counted p, l))
