-- `writing_edges::edges::put_landing_jump` meets its contract.
use Rattle.writing.specs.Put.{put_then}
use Rattle.writing_edges.proofs.edges.put_landing_jump.Goals as goal

pub returns : goal.returns
returns c = put_then c.put.ensures c.requires.2 (rw c.words_at-target.ensures at c.put_edge_to.ensures)
