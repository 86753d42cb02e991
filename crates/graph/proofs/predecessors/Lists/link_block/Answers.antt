-- `graph::predecessors::Lists::link_block` meets its contract.
use Rattle.std.proofs.Common.{◌≡◌, ap, rules}
use Rattle.rules.specs.File.{named, function_in}
use Rattle.rules.specs.Graph.{successors}
use Rattle.graph.specs.Between.{between}
use Rattle.graph.specs.ByTable.{edges-all, block-tail}
use Rattle.rules.specs.Lists.{foldl}
use Rattle.graph.specs.Links.{link_edge}
use Rattle.graph.specs.Walk.{links_of}
use Rattle.graph.proofs.Linking.{linking-from, linking-room, linking-inside, linking-more, linking-less}
use Rattle.graph.proofs.predecessors.Lists.link_block.Goals as goal
use Rattle.graph.proofs.predecessors.Lists.link_block.Goals.{After-body-body}

-- the block's edges stand in its body
edges : (c : After-body-body)
    → named 7 (between c.args.blocks.file.bytes.now c.body-body.result.start c.body-body.result.end) ≡ successors (function_in c.args.blocks.file.bytes.now) c.args.p
edges c =
    let s = c.args.blocks.file.bytes.now in
    rw (c.body-body.ensures.start, c.body-body.ensures.end) (edges-all s c.args.blocks.places.now c.args.blocks.given c.args.p c.requires.0)

pub next_edge_in_tail-found-requires : goal.next_edge_in_tail-found-requires
next_edge_in_tail-found-requires c =
    let s = c.args.blocks.file.bytes.now in (
      c.body-body.ensures.up,
      c.body-body.ensures.in_file,
      rw (c.body-body.ensures.start, c.body-body.ensures.end)
          (block-tail s c.args.blocks.places.now c.args.blocks.given c.args.p c.requires.0 c.requires.1),
    )

pub loop-found-init : goal.loop-found-init
loop-found-init c =
    let body = c.body-body in
    let at = goal.at.loop-found-init c in (
      search rules,
      linking-from c.args.blocks.file.bytes.now _ c.args.p body.ensures.in_file _ (links_of c.args.self.now) body.result.start body.ensures.up
          (rw (edges at.After-body-body) c.requires.2) (ap (foldl (link_edge c.args.p) (links_of c.args.self.now)) (edges at.After-body-body))
          _ c.next_edge_in_tail-found.ensures,
    )

pub link_edge-requires : goal.link_edge-requires
link_edge-requires c =
    linking-room c.args.blocks.file.bytes.now _ c.args.p c.body-body.ensures.in_file _ _ _ c.loop-found.invariant.1 _ c.in-Some.is

pub next_edge-found-requires : goal.next_edge-found-requires
next_edge-found-requires c =
    (linking-inside c.args.blocks.file.bytes.now _ c.args.p c.body-body.ensures.in_file _ _ _ c.loop-found.invariant.1 _ c.in-Some.is, c.body-body.ensures.in_file)

pub loop-found-smaller : goal.loop-found-smaller
loop-found-smaller c =
    linking-less c.args.blocks.file.bytes.now _ c.args.p c.body-body.ensures.in_file _ _ _ c.loop-found.invariant.1 _ c.in-Some.is _ c.next_edge-found.ensures

pub loop-found-preserved : goal.loop-found-preserved
loop-found-preserved c = (
  search rules,
  linking-more c.args.blocks.file.bytes.now _ c.args.p c.body-body.ensures.in_file _ _ _ c.loop-found.invariant.1 _ c.in-Some.is
      _ c.link_edge.ensures.value _ c.next_edge-found.ensures,
)
