-- `stackslots::freelists::StackSlots::step` meets its contract.
use Rattle.stackslots.proofs.Turns.{free-fits, turned-freed, turned-bare}
use Rattle.stackslots.specs.Tables.{tables}
use native.Mathlib.Omega.{arith}
use mathlib.Core.Path.{◌≡◌, sym, ◌∙◌, subst}
use Prim.Native.Nat.{◌%◌}
use lib.ListN.{get_or}
use lib.Dec.{T}
use Rattle.rules.specs.Lists.{has}
use Rattle.rules.specs.Records.{slot_sizes}
use Rattle.stackslots.proofs.freelists.StackSlots.step.Goals as goal

pub class_of-requires : goal.class_of-requires
class_of-requires c =
    let A = c.args in
    let odd : get_or A.steps.now A.i 0 % 2 ≡ 1 = omega (arith, c.if-noted-eq0.false) in
    subst (λ n. T (has n slot_sizes)) (sym c.size_of.ensures) (free-fits A.file.bytes.now A.steps.now A.i (tables A.self.now) c.requires odd (omega (arith, c.if-tag_of-ne0.true, c.tag_of.ensures))).1

pub returns-then-tag_of-ne0-clause-turned : goal.returns-then-tag_of-ne0-clause-turned
returns-then-tag_of-ne0-clause-turned c =
    let A = c.args in
    let odd : get_or A.steps.now A.i 0 % 2 ≡ 1 = omega (arith, c.if-noted-eq0.false) in
    turned-freed A.file.bytes.now A.steps.now A.i (tables A.self.now) c.requires odd (omega (arith, c.if-tag_of-ne0.true, c.tag_of.ensures)) c.size_of.result c.class_of.result c.size_of.ensures c.class_of.ensures.0 _ c.put_back.ensures.changed

pub returns-else-tag_of-ne0-clause-turned : goal.returns-else-tag_of-ne0-clause-turned
returns-else-tag_of-ne0-clause-turned c =
    let A = c.args in
    let odd : get_or A.steps.now A.i 0 % 2 ≡ 1 = omega (arith, c.if-noted-eq0.false) in
    turned-bare A.file.bytes.now A.steps.now A.i (tables A.self.now) c.requires odd (sym c.tag_of.ensures ∙ c.if-tag_of-ne0.false)
