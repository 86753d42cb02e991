-- `planner::functions::plan_blocks` meets its contract.
use lib.ListN.{take}
use Rattle.rules.specs.File.{function_in}
use Rattle.rules.specs.Graph.{reachable}
use Rattle.planning.specs.Lent.{SameLent, tables_of}
use Rattle.planner.specs.AllBlocks.{BlocksNoted}
use Rattle.planner.proofs.functions.plan_blocks.Given as goal

abbrev pub invariant-loop-block : goal.invariant-loop-block
invariant-loop-block l =
    BlocksNoted l.fn.reachable.blocks.file.bytes.now l.fn.spiller.pointer (take l.block-index (reachable (function_in l.fn.reachable.blocks.file.bytes.now))) (tables_of l.fn.spiller) l.fn.spiller.numbers.now (tables_of l.spiller) l.spiller.numbers.now
    × SameLent l.fn.spiller l.spiller
