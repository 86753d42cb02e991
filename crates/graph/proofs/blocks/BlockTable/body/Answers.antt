-- `graph::blocks::BlockTable::body` meets its contract.
use Rattle.std.proofs.Common.{arith}
use Rattle.graph.specs.ByTable.{places-long, start-less, end-le}
use Rattle.graph.proofs.blocks.BlockTable.body.Goals as goal

pub overflow_add-result-2 : goal.overflow_add-result-2
overflow_add-result-2 c = omega (arith, c.requires, places-long _ _ c.args.self.given)

pub offset_bounds-self-b : goal.offset_bounds-self-b
offset_bounds-self-b c = omega (arith, c.requires, places-long _ _ c.args.self.given)

pub bounds-self-b : goal.bounds-self-b
bounds-self-b c = omega (arith, c.requires, places-long _ _ c.args.self.given)

pub returns-clause-up : goal.returns-clause-up
returns-clause-up c = rw c.place.ensures.0 (start-less _ _ c.args.self.given c.args.b c.requires)

pub returns-clause-in_file : goal.returns-clause-in_file
returns-clause-in_file c = end-le _ _ c.args.self.given c.args.b c.requires
