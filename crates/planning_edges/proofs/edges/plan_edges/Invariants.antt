-- `planning_edges::edges::plan_edges` meets its contract.
use Rattle.planning.specs.Lent.{SameLent, tables_of}
use Rattle.planning_edges.specs.Edges.{EdgesDone}
use Prim.Native.Nat.{◌-◌}
use Rattle.planning_edges.proofs.edges.plan_edges.Given as goal

abbrev pub invariant-loop-i : goal.invariant-loop-i
invariant-loop-i l =
    EdgesDone l.blocks.spilled.file.bytes.now l.fn.spiller.pointer l.safepoint l.start (tables_of l.fn.spiller) l.fn.spiller.numbers.now l.end l.i (tables_of l.spiller) l.spiller.numbers.now
    × SameLent l.fn.spiller l.spiller

abbrev pub decreases-loop-i : goal.decreases-loop-i
decreases-loop-i l = l.end - l.i
