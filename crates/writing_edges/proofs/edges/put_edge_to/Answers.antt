-- `writing_edges::edges::put_edge_to` meets its contract.
use Rattle.writing.specs.Put.{put_then}
use Rattle.writing_edges.proofs.edges.put_edge_to.Goals as goal

pub returns : goal.returns
returns c = put_then c.put.ensures c.requires.2 c.put_parts.ensures
