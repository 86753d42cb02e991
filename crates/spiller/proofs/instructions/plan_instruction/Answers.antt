-- `spiller::instructions::plan_instruction` meets its contract.
use mathlib.Core.Path.{sym, ◌∙◌}
use Rattle.spiller.specs.Instructions.{noted-listed, noted-unlisted}
use Rattle.spiller.proofs.instructions.plan_instruction.Goals as goal

pub returns-then-is_safepoint-clause-noted : goal.returns-then-is_safepoint-clause-noted
returns-then-is_safepoint-clause-noted c = noted-listed c.args.blocks.spilled.file.bytes.now c.args.spiller.now.pointer _ _ c.args.at.place c.args.at.end _ _ _ _ (sym c.is_safepoint.ensures ∙ c.if-is_safepoint.true) c.plan_safepoint.ensures.noted

pub returns-else-is_safepoint-clause-noted : goal.returns-else-is_safepoint-clause-noted
returns-else-is_safepoint-clause-noted c = noted-unlisted c.args.blocks.spilled.file.bytes.now c.args.spiller.now.pointer _ _ c.args.at.place c.args.at.end _ _ _ _ (sym c.is_safepoint.ensures ∙ c.if-is_safepoint.false) c.plan_plain.ensures.noted
