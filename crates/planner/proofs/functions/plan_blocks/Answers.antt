-- `planner::functions::plan_blocks` meets its contract.
use borrow.Author.Rules.{rules}
use lib.ListN.{length}
use mathlib.Core.Path.{refl}
use Rattle.planning.specs.Lent.{lent-then, tables_of}
use Rattle.planner.specs.AllBlocks.{block_read, block-ready, block-turn}
use Rattle.planner.proofs.functions.plan_blocks.Goals as goal

pub overflow_add-at : goal.overflow_add-at
overflow_add-at c = search (rules, (block_read c.args.reachable.blocks.file.bytes.now c.args.reachable.blocks.places.now c.args.reachable.order.now c.args.lists.now c.args.outs.now c.args.firsts.now (length c.args.reachable.order.now) c.args.reachable.walked c.requires.1 c.requires.2 (tables_of c.args.spiller.now) c.args.spiller.now.numbers.now c.loop-block.block-index c.loop-block-test.true).0)

pub offset_bounds-firsts-block : goal.offset_bounds-firsts-block
offset_bounds-firsts-block c = search (rules, (block_read c.args.reachable.blocks.file.bytes.now c.args.reachable.blocks.places.now c.args.reachable.order.now c.args.lists.now c.args.outs.now c.args.firsts.now (length c.args.reachable.order.now) c.args.reachable.walked c.requires.1 c.requires.2 (tables_of c.args.spiller.now) c.args.spiller.now.numbers.now c.loop-block.block-index c.loop-block-test.true).0)

pub bounds-firsts-block : goal.bounds-firsts-block
bounds-firsts-block c = (block_read c.args.reachable.blocks.file.bytes.now c.args.reachable.blocks.places.now c.args.reachable.order.now c.args.lists.now c.args.outs.now c.args.firsts.now (length c.args.reachable.order.now) c.args.reachable.walked c.requires.1 c.requires.2 (tables_of c.args.spiller.now) c.args.spiller.now.numbers.now c.loop-block.block-index c.loop-block-test.true).0

pub plan_block-requires : goal.plan_block-requires
plan_block-requires c = ((block_read c.args.reachable.blocks.file.bytes.now c.args.reachable.blocks.places.now c.args.reachable.order.now c.args.lists.now c.args.outs.now c.args.firsts.now (length c.args.reachable.order.now) c.args.reachable.walked c.requires.1 c.requires.2 (tables_of c.args.spiller.now) c.args.spiller.now.numbers.now c.loop-block.block-index c.loop-block-test.true).1, block-ready c.args.reachable.blocks.file.bytes.now c.args.reachable.blocks.places.now c.args.reachable.order.now c.args.lists.now c.args.outs.now c.args.firsts.now (length c.args.reachable.order.now) c.args.reachable.walked c.requires.1 c.requires.2 (tables_of c.args.spiller.now) c.args.spiller.now.numbers.now c.loop-block.block-index c.loop-block-test.true c.args.spiller.now.pointer (tables_of c.loop-block.spiller) c.loop-block.spiller.numbers.now c.loop-block.invariant.0 c.requires.3 c.requires.4 c.requires.5)

pub loop-block-preserved : goal.loop-block-preserved
loop-block-preserved c = (
  block-turn c.args.reachable.blocks.file.bytes.now c.args.reachable.blocks.places.now c.args.reachable.order.now c.args.lists.now c.args.outs.now c.args.firsts.now (length c.args.reachable.order.now) c.args.reachable.walked c.requires.1 c.requires.2 (tables_of c.args.spiller.now) c.args.spiller.now.numbers.now c.loop-block.block-index c.loop-block-test.true c.args.spiller.now.pointer (tables_of c.loop-block.spiller) c.loop-block.spiller.numbers.now c.loop-block.invariant.0 refl _ _ c.plan_block.ensures.noted,
  lent-then c.args.spiller.now c.loop-block.spiller c.plan_block.new.spiller c.loop-block.invariant.1 c.plan_block.ensures.lent,
)
