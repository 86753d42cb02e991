-- `graph::blocks::BlockTable::place` meets its contract.
use Rattle.std.proofs.Common.{refl, arith}
use Rattle.graph.specs.ByTable.{places-long, start-less, end-le}
use Rattle.graph.proofs.blocks.BlockTable.place.Goals as goal

pub offset_bounds-self-b : goal.offset_bounds-self-b
offset_bounds-self-b c = omega (arith, c.requires, places-long _ _ c.args.self.given)

pub bounds-self-b : goal.bounds-self-b
bounds-self-b c = omega (arith, c.requires, places-long _ _ c.args.self.given)

pub returns : goal.returns
returns c =
    let of = c.args.self in
    (refl, omega (arith, start-less _ _ of.given c.args.b c.requires, end-le _ _ of.given c.args.b c.requires))
