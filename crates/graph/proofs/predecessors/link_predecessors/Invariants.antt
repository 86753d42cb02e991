-- `graph::predecessors::link_predecessors` meets its contract.
use Rattle.graph.specs.Walk.{links_of, OnLists}
use Rattle.graph.proofs.Linking.{Listing}
use Rattle.graph.proofs.predecessors.link_predecessors.Given as goal

abbrev pub invariant-loop-i : goal.invariant-loop-i
invariant-loop-i l =
    OnLists l.initial.lists l.lists × Listing l.reachable.blocks.file.bytes.now (links_of l.initial.lists) (links_of l.lists) l.i
