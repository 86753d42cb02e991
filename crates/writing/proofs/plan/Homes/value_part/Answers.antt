-- `writing::plan::Homes::value_part` meets its contract.
use mathlib.Core.Path.{refl}
use Rattle.std.proofs.Common.{inl, inr}
use Rattle.rules.specs.File.{function_in}
use Rattle.rules.specs.Graph.{size_of}
use Rattle.numbering.specs.Beside.{made}
use Rattle.writing.specs.Parts.{part_records, slot_in}
use Rattle.writing.proofs.Words.{value-nothing}
use Rattle.writing.proofs.plan.Homes.value_part.Goals as goal

pub returns-in-PassedLoad : goal.returns-in-PassedLoad
unfolding part_records
returns-in-PassedLoad c = rw c.in-PassedLoad.is c.load_of.ensures

pub returns-in-Passed : goal.returns-in-Passed
unfolding part_records
returns-in-Passed c = elim c.in-Passed.is [ inl p ↦ rw (p, c.operand_of.ensures) refl | inr p ↦ rw (p, c.operand_of.ensures) refl ]

pub returns-in_default : goal.returns-in_default
returns-in_default c =
    value-nothing (size_of (function_in c.args.self.file.bytes.now)) (slot_in c.args.self.slots.now) c.args.v (made c.args.tag) c.args.part c.requires c.in_default.not-PassedLoad
    c.in_default.not-Passed c.in_default.not-Landed
