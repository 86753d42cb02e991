-- `graph::walk::post_order` meets its contract.
use Rattle.graph.specs.Tables.{machine_of, Ready}
use Rattle.graph.specs.Walk.{tables_of, OnTables}
use Rattle.walks.specs.Machine.{left}
use Rattle.rules.specs.File.{function_in}
use Rattle.graph.proofs.walk.post_order.Given as goal

abbrev pub invariant-loop-walk : goal.invariant-loop-walk
invariant-loop-walk l = OnTables l.initial.walk l.walk × Ready l.blocks.file.bytes.now l.blocks.places.now (tables_of l.walk)

abbrev pub decreases-loop-walk : goal.decreases-loop-walk
decreases-loop-walk l = left (function_in l.blocks.file.bytes.now) (machine_of l.blocks.file.bytes.now l.blocks.places.now (tables_of l.walk))
