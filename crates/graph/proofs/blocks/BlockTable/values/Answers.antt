-- `graph::blocks::BlockTable::values` meets its contract.
use Rattle.std.proofs.Common.{arith}
use Rattle.graph.specs.ByTable.{places-long, values-by-table}
use Rattle.graph.proofs.blocks.BlockTable.values.Goals as goal

pub bounds-self-0 : goal.bounds-self-0
bounds-self-0 c = omega (arith, places-long _ _ c.args.self.given)

pub returns : goal.returns
returns c = values-by-table _ _ c.args.self.given
