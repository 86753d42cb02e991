-- `planner::blocks::plan_instructions` meets its contract.
use Rattle.planner.specs.Backward.{Back}
use Rattle.planning.specs.Lent.{SameLent, tables_of}
use Rattle.rows.specs.Rows.{rows}
use Rattle.planner.proofs.blocks.plan_instructions.Given as goal

abbrev pub invariant-loop-i : goal.invariant-loop-i
invariant-loop-i l =
    Back l.blocks.spilled.file.bytes.now l.lists (rows l.blocks.spilled.row.now 0) l.block.front l.block.end l.block.behind l.fn.spiller.pointer (tables_of l.fn.spiller) l.fn.spiller.numbers.now l.i l.number (tables_of l.spiller) l.spiller.numbers.now
    × SameLent l.fn.spiller l.spiller

abbrev pub decreases-loop-i : goal.decreases-loop-i
decreases-loop-i l = l.i
