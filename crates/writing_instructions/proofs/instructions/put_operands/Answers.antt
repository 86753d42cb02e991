-- `writing_instructions::instructions::put_operands` meets its contract.
use Rattle.writing.specs.Put.{put_then}
use Rattle.writing_instructions.proofs.instructions.put_operands.Goals as goal

pub returns : goal.returns
returns c = put_then c.put_parts.ensures c.requires.2 c.put_parts-2.ensures
