-- `writing_instructions::instructions::put_loads` meets its contract.
use Rattle.writing.specs.Put.{put_then}
use Rattle.writing_instructions.proofs.instructions.put_loads.Goals as goal

pub returns : goal.returns
returns c = put_then c.put_parts.ensures c.requires.2 c.put_edges.ensures
