-- `blocksets::operands::step_back` meets its contract.
use Rattle.blocksets.specs.InRows.{record-in-row}
use Rattle.blocksets.proofs.operands.step_back.Goals as goal

pub go_before-requires : goal.go_before-requires
go_before-requires c = (c.requires.0, rw c.operand_at.ensures (record-in-row c.args.file.bytes.now c.requires.0 c.args.i c.requires.1), c.requires.2)
