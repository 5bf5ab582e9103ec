-- The answer for the readings that it gathers is the answer for those that were lent.
use Rattle.std.proofs.Common.{◌∙◌}
use Rattle.checks.specs.Checks.{given}
use Rattle.bench.proofs.GaugeCall.{gathered_same}
use Rattle.bench.proofs.glaukemis_gauge.Goals as goal

pub returns : goal.returns
returns c =
    let e = c.gauge.ensures ∙ gathered_same c.gather.ensures (given c.args.m c.args.n c.args.matrix.now c.args.moduli.now) c.args.group in
    rw e at c.into.ensures
