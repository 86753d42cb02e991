-- `writing_instructions::instructions::put_exits` meets its contract.
use Rattle.writing.specs.Put.{put_then}
use Rattle.writing_instructions.proofs.instructions.put_exits.Goals as goal

pub returns : goal.returns
returns c = put_then c.put_edges.ensures c.requires.2 c.put_parts.ensures
