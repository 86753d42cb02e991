-- `spiller::instructions::plan_plain` meets its contract.
use Rattle.spiller.specs.InstructionSteps.{results-ready, plain-uses-ready, plain-edges-ready, plain_done}
use Rattle.planning.specs.Lent.{tables_of}
use Rattle.spiller.proofs.instructions.plan_plain.Goals as goal

pub plan_definitions-requires : goal.plan_definitions-requires
plan_definitions-requires c = results-ready c.args.blocks.spilled.file.bytes.now c.args.place c.args.end c.requires.0 c.run_end-a.result c.run_end-b.result c.run_end-a.ensures.0 c.run_end-b.ensures.0 (tables_of c.args.spiller.now) c.args.spiller.now.numbers.now c.requires.1

pub plan_uses-requires : goal.plan_uses-requires
plan_uses-requires c = plain-uses-ready c.args.blocks.spilled.file.bytes.now c.args.place c.args.end c.requires.0 c.run_end-a.result c.run_end-b.result c.run_end-a.ensures.0 c.run_end-b.ensures.0 (tables_of c.args.spiller.now) c.args.spiller.now.numbers.now c.requires.1 _ _ c.plan_definitions.ensures.walked

pub plan_edges-requires : goal.plan_edges-requires
plan_edges-requires c = plain-edges-ready c.args.blocks.spilled.file.bytes.now c.args.place c.args.end c.requires.0 c.run_end-a.result c.run_end-b.result c.run_end-a.ensures.0 c.run_end-b.ensures.0 (tables_of c.args.spiller.now) c.args.spiller.now.numbers.now c.requires.1 _ _ c.plan_definitions.ensures.walked _ _ c.plan_uses.ensures.walked

pub returns-clause-noted : goal.returns-clause-noted
returns-clause-noted c = plain_done c.args.blocks.spilled.file.bytes.now c.args.place c.args.end c.requires.0 c.run_end-a.result c.run_end-b.result c.run_end-a.ensures.0 c.run_end-b.ensures.0 (tables_of c.args.spiller.now) c.args.spiller.now.numbers.now c.requires.1 _ _ c.plan_definitions.ensures.walked _ _ c.plan_uses.ensures.walked _ _ c.plan_edges.ensures.noted
