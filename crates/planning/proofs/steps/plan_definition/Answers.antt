-- `planning::steps::plan_definition` meets its contract.
use Rattle.planning.proofs.OneRecord.{used_low, defined, defined-unasked, defined-none}
use Rattle.planning.specs.Standing.{tables}
use mathlib.Core.Path.{sym, ◌∙◌}
use borrow.Author.Rules.{rules}
use Rattle.planning.proofs.steps.plan_definition.Goals as goal

pub contains-requires : goal.contains-requires
contains-requires c = (c.requires.2.row, used_low c.args.spilled.file.bytes.now c.args.spilled.row.now c.args.spilled.reading c.args.kind c.args.place (tables c.args.asked.now c.args.steps.now c.args.sizes.now c.args.p) c.args.numbers.now c.requires.2 _ c.operand_at.result c.operand_at.ensures c.in-Some.is)

pub overflow_mul-steps : goal.overflow_mul-steps
overflow_mul-steps c = let low = used_low c.args.spilled.file.bytes.now c.args.spilled.row.now c.args.spilled.reading c.args.kind c.args.place (tables c.args.asked.now c.args.steps.now c.args.sizes.now c.args.p) c.args.numbers.now c.requires.2 _ c.operand_at.result c.operand_at.ensures c.in-Some.is in search (rules, low)

pub overflow_add-steps : goal.overflow_add-steps
overflow_add-steps c = let low = used_low c.args.spilled.file.bytes.now c.args.spilled.row.now c.args.spilled.reading c.args.kind c.args.place (tables c.args.asked.now c.args.steps.now c.args.sizes.now c.args.p) c.args.numbers.now c.requires.2 _ c.operand_at.result c.operand_at.ensures c.in-Some.is in search (rules, low)

pub returns-then-contains : goal.returns-then-contains
returns-then-contains c =
    defined c.args.spilled.file.bytes.now c.args.spilled.row.now c.args.spilled.reading c.args.kind c.args.place (tables c.args.asked.now c.args.steps.now c.args.sizes.now c.args.p) c.args.numbers.now c.requires.2 _ c.operand_at.result c.operand_at.ensures c.in-Some.is (sym c.contains.ensures ∙ c.if-contains.true)

pub returns-else-contains : goal.returns-else-contains
returns-else-contains c = defined-unasked c.args.spilled.file.bytes.now c.args.spilled.row.now c.args.spilled.reading c.args.kind c.args.place (tables c.args.asked.now c.args.steps.now c.args.sizes.now c.args.p) c.args.numbers.now c.requires.2 _ c.operand_at.result c.operand_at.ensures c.in-Some.is (sym c.contains.ensures ∙ c.if-contains.false)

pub returns-in_default : goal.returns-in_default
returns-in_default c = defined-none c.args.spilled.file.bytes.now c.args.spilled.row.now c.args.spilled.reading c.args.kind c.args.place (tables c.args.asked.now c.args.steps.now c.args.sizes.now c.args.p) c.args.numbers.now c.requires.2 0 c.operand_at.result c.operand_at.ensures c.in_default.is
