-- `planning_edges::landings::plan_safepoint_edge` meets its contract.
use Rattle.planning_edges.specs.Edges.{edge-landed, edge-unlanded}
use mathlib.Core.Path.{sym, ◌∙◌}
use Rattle.planning_edges.proofs.landings.plan_safepoint_edge.Goals as goal

pub returns-then-passes_spilled-clause-noted : goal.returns-then-passes_spilled-clause-noted
returns-then-passes_spilled-clause-noted c = edge-landed c.args.blocks.spilled.file.bytes.now c.args.place c.args.end c.requires.0 c.args.spiller.now.pointer _ _ _ _ c.plan_landing.ensures.noted (sym c.passes_spilled.ensures ∙ c.if-passes_spilled.true)

pub returns-else-passes_spilled-clause-noted : goal.returns-else-passes_spilled-clause-noted
returns-else-passes_spilled-clause-noted c = edge-unlanded c.args.blocks.spilled.file.bytes.now c.args.place c.args.end c.requires.0 c.args.spiller.now.pointer _ c.args.spiller.now.numbers.now c.requires.2 c.requires.1 (sym c.passes_spilled.ensures ∙ c.if-passes_spilled.false)
