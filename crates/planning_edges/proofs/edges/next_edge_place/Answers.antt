-- `planning_edges::edges::next_edge_place` meets its contract.
use Rattle.graph.specs.Next.{next_place}
use Rattle.planning_edges.specs.Spans.{next_edge_place}
use Rattle.planning_edges.proofs.edges.next_edge_place.Goals as goal

pub returns : goal.returns
unfolding next_place next_edge_place
returns c = c.next_place.ensures
