-- `rewriting::output::write_planned` meets its contract.
use mathlib.Core.Path.{◌≡◌, refl, sym, ◌∙◌}
use Rattle.graph.specs.ByTable.{values-by-table}
use Rattle.layout.specs.Laid.{tables-readable}
use native.Mathlib.Omega.{arith}
use lib.ListN.{length, get_or}
use Rattle.rewriting.specs.Plans.{function-tables, room-needed, landings-there, landings-few, outcome-too-short, outcome-written}
use Rattle.rewriting.proofs.output.write_planned.Goals as goal
use Rattle.rewriting.proofs.output.write_planned.Goals.{After-values}

pub returns-then-out-records : goal.returns-then-out-records
returns-then-out-records c =
    let short = outcome-too-short c.requires.0 c.count_records-records.result (length c.args.out.now) c.count_records-records.ensures.0 c.if-out-records.true in
    (short.0, c.requires.1 ∙ short.1)

-- values are counted by the place of the first block
values-found : (c : After-values) → c.values.result ≡ get_or c.args.numbered.indexed.blocks.places.now 0 0
values-found c = c.values.ensures ∙ sym (values-by-table _ _ c.args.numbered.indexed.blocks.given)

pub write_function-requires : goal.write_function-requires
write_function-requires c =
    rw (values-found (goal.at.write_function-requires c).After-values) (function-tables c.requires.0, refl, room-needed c.requires.0 c.count_records-records.result (length c.args.out.now) c.count_records-records.ensures.0 c.if-out-records.false)

pub overflow_cast-result-3 : goal.overflow_cast-result-3
overflow_cast-result-3 c = omega (arith, c.requires.0.slots-few, c.requires.0.made-few)

pub overflow_sub-result : goal.overflow_sub-result
overflow_sub-result c = landings-there c.requires.0

pub overflow_cast-result-4 : goal.overflow_cast-result-4
overflow_cast-result-4 c = omega (arith, landings-few c.requires.0)

pub returns : goal.returns
returns c =
    outcome-written c.requires.0 c.count_records-records.result (length c.args.out.now) c.count_records-records.ensures.0 c.if-out-records.false c.requires.1
    (rw (values-found (goal.at.returns c).After-values) at c.write_function.ensures.wrote)

pub invariant_of-plan : goal.invariant_of-plan
invariant_of-plan c = record { readable = tables-readable (function-tables c.requires.0).by_block }
