-- `writing_edges::edges::put_edge_loads` meets its contract.
use mathlib.Core.Path.{refl, sym}
use borrow.Author.Rules.{rules}
use Rattle.writing.specs.Put.{put_none, put_as, fits_as}
use Rattle.writing_edges.specs.Edges.{loads-none, loads-some}
use Rattle.writing_edges.proofs.edges.put_edge_loads.Goals as goal

pub put_parts-requires : goal.put_parts-requires
put_parts-requires c =
    (search rules, c.requires.1, fits_as c.args.out.now (loads-none c.args.plan.file.bytes.now c.args.plan.numbers.now c.args.plan.slots.now c.args.p c.args.end c.requires.0 c.requires.1 c.if-plan-p-eq0.true) c.requires.2, refl)

pub returns-then-plan-p-eq0 : goal.returns-then-plan-p-eq0
returns-then-plan-p-eq0 c = put_as (sym (loads-none c.args.plan.file.bytes.now c.args.plan.numbers.now c.args.plan.slots.now c.args.p c.args.end c.requires.0 c.requires.1 c.if-plan-p-eq0.true)) c.put_parts.ensures

pub returns-else-plan-p-eq0 : goal.returns-else-plan-p-eq0
returns-else-plan-p-eq0 c = put_as (sym (loads-some c.args.plan.file.bytes.now c.args.plan.numbers.now c.args.plan.slots.now c.args.p c.args.end c.requires.0 c.requires.1 c.if-plan-p-eq0.false)) (put_none _ (search rules))
