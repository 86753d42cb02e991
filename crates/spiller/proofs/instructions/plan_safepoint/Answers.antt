-- `spiller::instructions::plan_safepoint` meets its contract.
use Rattle.spiller.specs.InstructionSteps.{results-ready, slots-ready, safepoint-edges-ready, safepoint-uses-ready, safepoint-done}
use Rattle.planning.specs.Lent.{along, tables_of}
use Rattle.std.specs.Prelude.{true}
use Rattle.planning_edges.specs.Edges.{EdgesNoted}
use Rattle.spiller.proofs.instructions.plan_safepoint.Goals as goal

pub plan_definitions-requires : goal.plan_definitions-requires
plan_definitions-requires c = results-ready c.args.blocks.spilled.file.bytes.now c.args.at.place c.args.at.end c.requires.1 c.run_end-a.result c.run_end-b.result c.run_end-a.ensures.0 c.run_end-b.ensures.0 (tables_of c.args.spiller.now) c.args.spiller.now.numbers.now c.requires.2

pub ask_all-requires : goal.ask_all-requires
ask_all-requires c =
    let t = tables_of c.plan_definitions.new.self in
    slots-ready c.args.blocks.spilled.file.bytes.now c.args.at.place c.args.at.end c.requires.1 c.run_end-a.result c.run_end-b.result c.run_end-a.ensures.0 c.run_end-b.ensures.0 (tables_of c.args.spiller.now) c.args.spiller.now.numbers.now c.requires.2 c.args.blocks.spilled.row.now c.args.lists.now c.args.at.number t.asked t.steps t.sizes t.progress _ c.plan_definitions.ensures.walked c.args.blocks.spilled.reading.row c.requires.0

pub plan_edges-requires : goal.plan_edges-requires
plan_edges-requires c =
    let t = tables_of c.plan_definitions.new.self in
    rw (c.ask_all.ensures.rest.0, c.ask_all.ensures.rest.1)
    (safepoint-edges-ready c.args.blocks.spilled.file.bytes.now c.args.at.place c.args.at.end c.requires.1 c.run_end-a.result c.run_end-b.result c.run_end-a.ensures.0 c.run_end-b.ensures.0 (tables_of c.args.spiller.now) c.args.spiller.now.numbers.now c.requires.2 c.args.blocks.spilled.row.now c.args.lists.now c.args.at.number t.asked t.steps t.sizes t.progress _ c.plan_definitions.ensures.walked _ _ _ c.ask_all.new.self.noted c.ask_all.ensures.slotted)

pub plan_uses-requires : goal.plan_uses-requires
plan_uses-requires c =
    let t = tables_of c.plan_definitions.new.self in
    safepoint-uses-ready c.args.blocks.spilled.file.bytes.now c.args.at.place c.args.at.end c.requires.1 c.run_end-a.result c.run_end-b.result c.run_end-a.ensures.0 c.run_end-b.ensures.0 (tables_of c.args.spiller.now) c.args.spiller.now.numbers.now c.requires.2 c.args.blocks.spilled.row.now c.args.lists.now c.args.at.number t.asked t.steps t.sizes t.progress _ c.plan_definitions.ensures.walked _ _ _ c.ask_all.new.self.noted c.ask_all.ensures.slotted _ _ (along (λ u ns. EdgesNoted c.args.blocks.spilled.file.bytes.now u.progress.pointer true c.run_end-b.result c.args.at.end u ns (tables_of c.plan_edges.new.spiller) c.plan_edges.new.spiller.numbers.now) c.ask_all.ensures.rest.0 c.ask_all.ensures.rest.1 c.plan_edges.ensures.noted)

pub returns-clause-noted : goal.returns-clause-noted
returns-clause-noted c =
    let t = tables_of c.plan_definitions.new.self in
    safepoint-done c.args.blocks.spilled.file.bytes.now c.args.at.place c.args.at.end c.requires.1 c.run_end-a.result c.run_end-b.result c.run_end-a.ensures.0 c.run_end-b.ensures.0 (tables_of c.args.spiller.now) c.args.spiller.now.numbers.now c.requires.2 c.args.blocks.spilled.row.now c.args.lists.now c.args.at.number t.asked t.steps t.sizes t.progress _ c.plan_definitions.ensures.walked _ _ _ c.ask_all.new.self.noted c.ask_all.ensures.slotted _ _ (along (λ u ns. EdgesNoted c.args.blocks.spilled.file.bytes.now u.progress.pointer true c.run_end-b.result c.args.at.end u ns (tables_of c.plan_edges.new.spiller) c.plan_edges.new.spiller.numbers.now) c.ask_all.ensures.rest.0 c.ask_all.ensures.rest.1 c.plan_edges.ensures.noted) _ _ c.plan_uses.ensures.walked
