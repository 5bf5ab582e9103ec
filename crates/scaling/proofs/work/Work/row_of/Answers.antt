use Rattle.scaling.proofs.TableRow.{row_is}
use Rattle.scaling.proofs.work.Work.row_of.Goals as goal

pub returns : goal.returns
returns c = row_is c.args.which c.args.self.now c.args.k c.requires c.table.ensures
