-- `planning_edges::edges::plan_edge` meets its contract.
use Prim.Native.Nat.{◌+◌, ◌-◌}
use Rattle.rules.specs.File.{function_in}
use Rattle.planning.specs.Walking.{good-less}
use Rattle.planning_edges.specs.Edges.{edge-used}
use native.Mathlib.Omega.{arith}
use Rattle.planning_edges.proofs.edges.plan_edge.Goals as goal

pub plan_uses-requires : goal.plan_uses-requires
plan_uses-requires c = (record { up = omega (arith, c.requires.0.inside); in_file = c.requires.0.in_file; in_numbers = c.requires.1 }, good-less (function_in c.args.blocks.spilled.file.bytes.now) _ (c.args.end - c.args.place) (c.args.end - (c.args.place + 1)) (omega arith) c.requires.3.good)

pub returns-else-safepoint-clause-noted : goal.returns-else-safepoint-clause-noted
returns-else-safepoint-clause-noted c = rw c.if-safepoint.false (edge-used c.args.blocks.spilled.file.bytes.now c.args.place c.args.end c.requires.0 c.args.spiller.now.pointer _ c.args.spiller.now.numbers.now c.requires.2 c.requires.1 _ _ c.plan_uses.ensures.walked)
