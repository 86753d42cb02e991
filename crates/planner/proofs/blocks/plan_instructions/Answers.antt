-- `planner::blocks::plan_instructions` meets its contract.
use Rattle.planner.specs.Backward.{back_start, back-number, back-ready, back-turn}
use Rattle.planning.specs.Lent.{lent-none, lent-then, tables_of}
use Rattle.rows.specs.Rows.{rows}
use native.Mathlib.Omega.{arith}
use mathlib.Core.Path.{refl}
use Rattle.planner.proofs.blocks.plan_instructions.Goals as goal

pub loop-i-init : goal.loop-i-init
loop-i-init c = (back_start c.args.blocks.spilled.file.bytes.now c.args.lists.now (rows c.args.blocks.spilled.row.now 0) c.args.block.start c.args.block.front c.args.block.end c.args.block.behind c.requires.0 c.args.spiller.now.pointer (tables_of c.args.spiller.now) c.args.spiller.now.numbers.now, lent-none c.args.spiller.now)

pub overflow_sub-number : goal.overflow_sub-number
overflow_sub-number c = omega (arith, back-number c.args.blocks.spilled.file.bytes.now c.args.lists.now (rows c.args.blocks.spilled.row.now 0) c.args.block.start c.args.block.front c.args.block.end c.args.block.behind c.requires.0 c.args.spiller.now.pointer (tables_of c.args.spiller.now) c.args.spiller.now.numbers.now c.loop-i.i c.loop-i.number c.loop-i-test.true (tables_of c.loop-i.spiller) c.loop-i.spiller.numbers.now c.loop-i.invariant.0 c.last_instruction-place.result c.last_instruction-place.ensures)

pub plan_instruction-requires : goal.plan_instruction-requires
plan_instruction-requires c = back-ready c.args.blocks.spilled.file.bytes.now c.args.lists.now (rows c.args.blocks.spilled.row.now 0) c.args.block.start c.args.block.front c.args.block.end c.args.block.behind c.requires.0 c.args.spiller.now.pointer (tables_of c.args.spiller.now) c.args.spiller.now.numbers.now c.loop-i.i c.loop-i.number c.loop-i-test.true (tables_of c.loop-i.spiller) c.loop-i.spiller.numbers.now c.loop-i.invariant.0 c.last_instruction-place.result c.last_instruction-place.ensures c.requires.1.blank c.requires.1.long c.requires.1.able

pub loop-i-preserved : goal.loop-i-preserved
loop-i-preserved c = (
  back-turn c.args.blocks.spilled.file.bytes.now c.args.lists.now (rows c.args.blocks.spilled.row.now 0) c.args.block.start c.args.block.front c.args.block.end c.args.block.behind c.requires.0 c.args.spiller.now.pointer (tables_of c.args.spiller.now) c.args.spiller.now.numbers.now c.loop-i.i c.loop-i.number c.loop-i-test.true (tables_of c.loop-i.spiller) c.loop-i.spiller.numbers.now c.loop-i.invariant.0 c.last_instruction-place.result c.last_instruction-place.ensures refl c.requires.1.able c.loop-i.spiller.given refl _ _ c.plan_instruction.ensures.noted,
  lent-then c.args.spiller.now c.loop-i.spiller c.plan_instruction.new.spiller c.loop-i.invariant.1 c.plan_instruction.ensures.lent,
)
