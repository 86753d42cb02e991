-- `stackslots::freelists::StackSlots::give_slot` meets its contract.
use Rattle.stackslots.proofs.Turns.{turned-again, turned-made, turned_taken, give-fits, make-room, take-room}
use Rattle.stackslots.specs.Tables.{SlotTables, tables}
use native.Mathlib.Omega.{arith}
use mathlib.Core.Path.{sym, ◌∙◌, subst}
use lib.Dec.{T}
use Rattle.rules.specs.Lists.{has}
use Rattle.rules.specs.Records.{slot_sizes}
use Rattle.stackslots.proofs.freelists.StackSlots.give_slot.Goals as goal
use Rattle.stackslots.proofs.freelists.StackSlots.give_slot.Goals.{Start}

-- the tables as they were lent
abbrev lent : Start → SlotTables
lent c = tables c.args.self.now

pub returns-then-tag_of-ne0-clause-turned : goal.returns-then-tag_of-ne0-clause-turned
returns-then-tag_of-ne0-clause-turned c = turned-again c.args.file.bytes.now c.args.steps.now c.args.i (tables c.args.self.now) c.requires.0 c.requires.1 (omega (arith, c.if-tag_of-ne0.true, c.tag_of.ensures))

pub class_of-class-requires : goal.class_of-class-requires
class_of-class-requires c = subst (λ n. T (has n slot_sizes)) (sym c.size_of.ensures) (give-fits c.args.file.bytes.now c.args.steps.now c.args.i (tables c.args.self.now) c.requires.0 c.requires.1).1

pub make_new-requires : goal.make_new-requires
make_new-requires c = make-room c.args.file.bytes.now c.args.steps.now c.args.i (tables c.args.self.now) c.requires.0 c.requires.1 (sym c.tag_of.ensures ∙ c.if-tag_of-ne0.false) c.size_of.result c.class_of-class.result c.size_of.ensures c.class_of-class.ensures.0

pub returns-then-self-class-eq0-clause-turned : goal.returns-then-self-class-eq0-clause-turned
returns-then-self-class-eq0-clause-turned c = turned-made c.args.file.bytes.now c.args.steps.now c.args.i (tables c.args.self.now) c.requires.0 c.requires.1 (sym c.tag_of.ensures ∙ c.if-tag_of-ne0.false) c.size_of.result c.class_of-class.result c.size_of.ensures c.class_of-class.ensures.0 c.if-self-class-eq0.true _ c.make_new.ensures.changed

pub take_freed-requires : goal.take_freed-requires
take_freed-requires c = take-room c.args.file.bytes.now c.args.steps.now c.args.i (tables c.args.self.now) c.requires.0 c.requires.1 (sym c.tag_of.ensures ∙ c.if-tag_of-ne0.false) c.size_of.result c.class_of-class.result c.size_of.ensures c.class_of-class.ensures.0 (omega (arith, c.if-self-class-eq0.false))

pub returns-else-self-class-eq0-clause-turned : goal.returns-else-self-class-eq0-clause-turned
returns-else-self-class-eq0-clause-turned c = turned_taken c.args.file.bytes.now c.args.steps.now c.args.i (tables c.args.self.now) c.requires.0 c.requires.1 (sym c.tag_of.ensures ∙ c.if-tag_of-ne0.false) c.size_of.result c.class_of-class.result c.size_of.ensures c.class_of-class.ensures.0 (omega (arith, c.if-self-class-eq0.false)) _ c.take_freed.ensures.changed
