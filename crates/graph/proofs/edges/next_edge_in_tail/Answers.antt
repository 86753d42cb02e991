-- `graph::edges::next_edge_in_tail` meets its contract.
use mathlib.Core.Path.{◌∙◌}
use Rattle.graph.proofs.Looking.{edge_from-behind-others}
use Rattle.graph.proofs.edges.next_edge_in_tail.Goals as goal

pub returns : goal.returns
returns c =
    let tail = c.tail_from in
    let place = tail.ensures in
    c.next_edge.ensures
    ∙ edge_from-behind-others c.args.file.bytes.now c.args.from tail.result c.args.end place.0 place.1 c.requires.1 place.2
