use Rattle.std.proofs.Common.{rules, refl}
use Rattle.frames.specs.Line.{kind_byte}
use Rattle.frames.proofs.Lines.{off-short, off-end, off-digits, off-kind, on-kind}
use Rattle.frames.proofs.line.first_line.Goals.{then-text-end-via-then-text-end, then-text-end-via-else-text-end+then-text-end-ne10}
use Rattle.frames.proofs.line.first_line.Goals as goal

pub returns-then-text-end : goal.returns-then-text-end
returns-then-text-end c =
    elim c.then-text-end.branch [
      | then-text-end-via-then-text-end w ↦ off-short (kind_byte c.args.kind) c.args.count c.args.text.now w.if-text-end.true
      | then-text-end-via-else-text-end+then-text-end-ne10 w ↦ off-end (kind_byte c.args.kind) c.args.count c.args.text.now w.if-text-end-ne10.true
    ]

pub returns-in_err-bytes : goal.returns-in_err-bytes
returns-in_err-bytes c = rw c.from_residual.ensures (off-digits (kind_byte c.args.kind) c.args.count c.args.text.now c.in_err-bytes.ensures)

pub returns-then-deref-kind : goal.returns-then-deref-kind
returns-then-deref-kind c =
    let d = c.in_ok-bytes.ensures in
    off-kind (kind_byte c.args.kind) c.args.count c.args.text.now c.in_ok-bytes.bytes.items d.0 c.if-text-end-ne10.false d.1 (search rules)

pub returns : goal.returns
returns c =
    let d = c.in_ok-bytes.ensures in
    on-kind (kind_byte c.args.kind) c.args.count c.args.text.now c.in_ok-bytes.bytes.items d.0 c.if-text-end-ne10.false d.1 (search rules) refl refl
