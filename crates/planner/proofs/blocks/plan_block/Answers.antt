-- `planner::blocks::plan_block` meets its contract.
use Rattle.planning.specs.Lent.{along, tables_of}
use Rattle.std.specs.Prelude.{◌+◌, ◌-◌, length, get_or}
use Rattle.rows.specs.Rows.{rows}
use Rattle.listing.specs.Stepping.{heads_from}
use Rattle.planner.specs.Backward.{InstructionsNoted, Walk}
use Rattle.planning_edges.specs.Noted.{Within, Ready}
use Rattle.spiller.specs.Instructions.{any_kind}
use Rattle.rules.specs.File.{function_in}
use Rattle.std.proofs.Common.{sym}
use Rattle.planner.specs.Blocks.{block-walk, parameters-ready, block-done}
use Rattle.planner.proofs.blocks.plan_block.Goals as goal

pub plan_instructions-requires : goal.plan_instructions-requires
plan_instructions-requires c =
    let t = tables_of c.args.spiller.now in
    let end = get_or c.args.blocks.places.now (c.args.at.block + 1) 0 in
    let front = c.run_end-front.result in
    along (λ u ns. Walk c.args.blocks.spilled.file.bytes.now c.args.lists.now (get_or c.args.blocks.places.now c.args.at.block 0 + 1) front end c.args.at.behind × Ready (function_in c.args.blocks.spilled.file.bytes.now) (Within c.args.blocks.spilled.file.bytes.now any_kind front end) end (end - front) u ns) (sym c.ask_all.ensures.rest.0) (sym c.ask_all.ensures.rest.1)
    (block-walk c.args.blocks.spilled.file.bytes.now c.args.lists.now c.args.outs.now c.args.blocks.spilled.row.now c.args.at.block c.args.at.behind _ _ c.requires.0 c.args.blocks.spilled.reading c.run_end-front.result c.run_end-front.ensures.0 t.asked t.steps t.sizes t.progress c.args.spiller.now.numbers.now c.requires.1 _ _ c.ask_all.new.self.noted c.ask_all.ensures.slotted)

pub plan_definitions-requires : goal.plan_definitions-requires
plan_definitions-requires c =
    let t = tables_of c.args.spiller.now in
    parameters-ready c.args.blocks.spilled.file.bytes.now c.args.lists.now c.args.outs.now c.args.blocks.spilled.row.now c.args.at.block c.args.at.behind _ _ c.requires.0 c.args.blocks.spilled.reading c.run_end-front.result c.run_end-front.ensures.0 t.asked t.steps t.sizes t.progress c.args.spiller.now.numbers.now c.requires.1 _ _ c.ask_all.new.self.noted c.ask_all.ensures.slotted _ _ (along (λ u ns. InstructionsNoted c.args.blocks.spilled.file.bytes.now c.args.lists.now (rows c.args.blocks.spilled.row.now 0) (get_or c.args.blocks.places.now (c.args.at.block + 1) 0) u.progress.pointer c.run_end-front.result (c.args.at.behind - length (heads_from c.args.blocks.spilled.file.bytes.now c.run_end-front.result (get_or c.args.blocks.places.now (c.args.at.block + 1) 0))) u ns (tables_of c.plan_instructions.new.spiller) c.plan_instructions.new.spiller.numbers.now) c.ask_all.ensures.rest.0 c.ask_all.ensures.rest.1 c.plan_instructions.ensures.noted)

pub returns-clause-noted : goal.returns-clause-noted
returns-clause-noted c =
    let t = tables_of c.args.spiller.now in
    block-done c.args.blocks.spilled.file.bytes.now c.args.lists.now c.args.outs.now c.args.blocks.spilled.row.now c.args.at.block c.args.at.behind _ _ c.requires.0 c.args.blocks.spilled.reading c.run_end-front.result c.run_end-front.ensures.0 t.asked t.steps t.sizes t.progress c.args.spiller.now.numbers.now c.requires.1 _ _ c.ask_all.new.self.noted c.ask_all.ensures.slotted _ _ (along (λ u ns. InstructionsNoted c.args.blocks.spilled.file.bytes.now c.args.lists.now (rows c.args.blocks.spilled.row.now 0) (get_or c.args.blocks.places.now (c.args.at.block + 1) 0) u.progress.pointer c.run_end-front.result (c.args.at.behind - length (heads_from c.args.blocks.spilled.file.bytes.now c.run_end-front.result (get_or c.args.blocks.places.now (c.args.at.block + 1) 0))) u ns (tables_of c.plan_instructions.new.spiller) c.plan_instructions.new.spiller.numbers.now) c.ask_all.ensures.rest.0 c.ask_all.ensures.rest.1 c.plan_instructions.ensures.noted) _ _ c.plan_definitions.ensures.walked
