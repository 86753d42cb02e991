-- `planning_edges::edges::plan_edges` meets its contract.
use Rattle.planning.specs.Lent.{lent-none, lent-then, tables_of}
use Rattle.planning_edges.specs.Edges.{edges-begun, edge-ready, edge-done}
use native.Mathlib.Omega.{arith}
use mathlib.Core.Path.{◌≡◌, refl}
use Rattle.planning_edges.proofs.edges.plan_edges.Goals as goal

pub loop-i-init : goal.loop-i-init
loop-i-init c = (edges-begun c.args.blocks.spilled.file.bytes.now c.args.spiller.now.pointer c.args.safepoint c.args.start (tables_of c.args.spiller.now) c.args.spiller.now.numbers.now c.args.end c.requires.0.up c.requires.0.in_file c.next_edge_place-i.result c.next_edge_place-i.ensures, lent-none c.args.spiller.now)

pub plan_edge-requires : goal.plan_edge-requires
plan_edge-requires c = edge-ready c.args.blocks.spilled.file.bytes.now c.args.spiller.now.pointer c.args.safepoint c.args.start (tables_of c.args.spiller.now) c.args.spiller.now.numbers.now c.args.end c.loop-i.i c.requires.0.in_file c.loop-i-test.true (tables_of c.loop-i.spiller) c.loop-i.spiller.numbers.now c.loop-i.invariant.0 c.next_edge_place-next.result c.next_edge_place-next.ensures c.requires.1 c.requires.0.in_numbers c.requires.2 c.requires.3

pub loop-i-smaller : goal.loop-i-smaller
loop-i-smaller c = (edge-done c.args.blocks.spilled.file.bytes.now c.args.spiller.now.pointer c.args.safepoint c.args.start (tables_of c.args.spiller.now) c.args.spiller.now.numbers.now c.args.end c.loop-i.i c.requires.0.in_file c.loop-i-test.true (tables_of c.loop-i.spiller) c.loop-i.spiller.numbers.now c.loop-i.invariant.0 c.next_edge_place-next.result c.next_edge_place-next.ensures _ _ refl c.plan_edge.ensures.noted).1

pub loop-i-preserved : goal.loop-i-preserved
loop-i-preserved c = ((edge-done c.args.blocks.spilled.file.bytes.now c.args.spiller.now.pointer c.args.safepoint c.args.start (tables_of c.args.spiller.now) c.args.spiller.now.numbers.now c.args.end c.loop-i.i c.requires.0.in_file c.loop-i-test.true (tables_of c.loop-i.spiller) c.loop-i.spiller.numbers.now c.loop-i.invariant.0 c.next_edge_place-next.result c.next_edge_place-next.ensures _ _ refl c.plan_edge.ensures.noted).0, lent-then c.args.spiller.now c.loop-i.spiller c.plan_edge.new.spiller c.loop-i.invariant.1 c.plan_edge.ensures.lent)

pub returns-clause-noted : goal.returns-clause-noted
returns-clause-noted c =
    let all : c.loop-i.i ≡ c.args.end = omega (arith, c.loop-i-test.false, c.loop-i.invariant.0.1) in
    rw all at c.loop-i.invariant.0.3
