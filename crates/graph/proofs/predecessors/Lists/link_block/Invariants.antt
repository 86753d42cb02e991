-- `graph::predecessors::Lists::link_block` meets its contract.
use Rattle.std.proofs.Common.{length}
use Rattle.rules.specs.File.{function_in}
use Rattle.graph.specs.NextEdge.{targets_from}
use Rattle.graph.specs.Links.{link_block}
use Rattle.graph.specs.Walk.{links_of, OnLists}
use Rattle.graph.proofs.Linking.{Linking}
use Rattle.graph.proofs.predecessors.Lists.link_block.Given as goal

abbrev pub invariant-loop-found : goal.invariant-loop-found
invariant-loop-found l =
    OnLists l.initial.self l.self
    × Linking l.blocks.file.bytes.now l.body.end l.p (link_block (function_in l.blocks.file.bytes.now) (links_of l.initial.self) l.p) (links_of l.self) l.found

abbrev pub decreases-loop-found : goal.decreases-loop-found
decreases-loop-found l = length (targets_from l.blocks.file.bytes.now l.body.end l.found)
