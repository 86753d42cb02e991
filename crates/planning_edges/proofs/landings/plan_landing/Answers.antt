-- `planning_edges::landings::plan_landing` meets its contract.
use native.Mathlib.Omega.{arith}
use Rattle.planning.specs.Lent.{tables_of}
use Rattle.planning_edges.specs.Landings.{first-parameter, arguments-ready, landing-done}
use Rattle.planning_edges.proofs.landings.plan_landing.Goals as goal

pub bounds-blocks-w : goal.bounds-blocks-w
bounds-blocks-w c = (first-parameter c.args.blocks.spilled.file.bytes.now c.args.blocks.places.now c.args.blocks.given c.args.place c.args.end c.requires.0 c.words_at-w.result c.words_at-w.ensures).0

pub overflow_add-first : goal.overflow_add-first
overflow_add-first c = omega (arith, (first-parameter c.args.blocks.spilled.file.bytes.now c.args.blocks.places.now c.args.blocks.given c.args.place c.args.end c.requires.0 c.words_at-w.result c.words_at-w.ensures).1)

pub plan_all_landed-requires : goal.plan_all_landed-requires
plan_all_landed-requires c =
    let t = tables_of c.args.spiller.now in
    let ready = arguments-ready c.args.blocks.spilled.file.bytes.now c.args.blocks.given.in_order c.args.place c.args.end c.requires.0 t.asked t.steps t.sizes c.args.spiller.now.numbers.now t.progress c.requires.2 c.requires.1 c.requires.3 in
    (ready.0, (first-parameter c.args.blocks.spilled.file.bytes.now c.args.blocks.places.now c.args.blocks.given c.args.place c.args.end c.requires.0 c.words_at-w.result c.words_at-w.ensures).1, ready.1)

pub returns-clause-noted : goal.returns-clause-noted
returns-clause-noted c =
    let t = tables_of c.args.spiller.now in
    landing-done c.args.blocks.spilled.file.bytes.now c.args.blocks.given.in_order c.args.place c.args.end c.requires.0 t.asked t.steps t.sizes c.args.spiller.now.numbers.now t.progress c.requires.2 c.requires.1 _ _ _ (first-parameter c.args.blocks.spilled.file.bytes.now c.args.blocks.places.now c.args.blocks.given c.args.place c.args.end c.requires.0 c.words_at-w.result c.words_at-w.ensures).2 c.plan_all_landed.ensures.walked
