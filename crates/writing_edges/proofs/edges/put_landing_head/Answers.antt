-- `writing_edges::edges::put_landing_head` meets its contract.
use Rattle.writing.specs.Put.{put_then}
use Rattle.writing_edges.proofs.edges.put_landing_head.Goals as goal

pub returns : goal.returns
returns c = put_then c.put.ensures c.requires.2 c.put_parts.ensures
