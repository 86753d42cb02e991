-- `planner::functions::plan_function` meets its contract.
use lib.ListN.{length}
use Rattle.planning.specs.Lent.{tables_of}
use Rattle.planner.specs.AllBlocks.{all_fit}
use Rattle.planner.specs.Functions.{given-reading, given-tables, unplanned-able, function-planned}
use Rattle.planner.proofs.functions.plan_function.Goals as goal

pub plan_blocks-requires : goal.plan_blocks-requires
plan_blocks-requires c = (given-reading c.requires.0, given-tables c.requires.0 c.args.reachable.walked.given, c.requires.0.numbered, c.requires.1.blank, c.requires.1.numbers_room, unplanned-able c.args.reachable.blocks.file.bytes.now (tables_of c.args.spiller.now) c.args.spiller.now.numbers.now c.requires.1 c.requires.2 c.requires.0.accepted)

pub returns-clause-planned : goal.returns-clause-planned
returns-clause-planned c =
    let s = c.args.reachable.blocks.file.bytes.now in
    let fits = all_fit s c.args.reachable.blocks.places.now c.args.reachable.order.now c.args.lists.now c.args.outs.now c.args.firsts.now (length c.args.reachable.order.now) c.args.reachable.walked (given-tables c.requires.0 c.args.reachable.walked.given) c.requires.0.numbered (tables_of c.args.spiller.now) c.args.spiller.now.numbers.now in
    function-planned s (tables_of c.args.spiller.now) c.args.spiller.now.numbers.now c.requires.1 c.requires.2 _ _ c.requires.0.accepted fits c.plan_blocks.ensures.noted
