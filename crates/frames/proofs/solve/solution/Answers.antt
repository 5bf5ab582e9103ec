use Rattle.std.proofs.Common.{length-append, arith}
use Rattle.frames.specs.Output.{solution_text}
use Rattle.frames.proofs.Filled.{solution-fits}
use Rattle.frames.proofs.solve.solution.Goals as goal

pub sizes-requires : goal.sizes-requires
unfolding solution_text
sizes-requires c = grind (arith, length-append, solution-fits c.requires)

pub rows-requires-clause-room : goal.rows-requires-clause-room
unfolding solution_text
rows-requires-clause-room c = grind (arith, length-append, solution-fits c.requires)

pub rows-requires-2-clause-room : goal.rows-requires-2-clause-room
unfolding solution_text
rows-requires-2-clause-room c = grind (arith, length-append, solution-fits c.requires)

pub rows-requires-3-clause-room : goal.rows-requires-3-clause-room
unfolding solution_text
rows-requires-3-clause-room c = grind (arith, length-append, solution-fits c.requires)

pub terms-requires-clause-room : goal.terms-requires-clause-room
unfolding solution_text
terms-requires-clause-room c = grind (arith, length-append, solution-fits c.requires)

pub returns : goal.returns
unfolding solution_text
returns c = record { fits = solution-fits c.requires; items_are = grind (arith, c.new.ensures) }
