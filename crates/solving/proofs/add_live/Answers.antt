-- `solving::add_live` meets its contract.
use Rattle.std.proofs.Common.{arith, rules}
use Rattle.graph.specs.ByTable.{block-tail}
use Rattle.solving.proofs.Adding.{target-in-file, added}
use Rattle.solving.proofs.add_live.Goals as goal

pub join_successors-requires : goal.join_successors-requires
join_successors-requires c =
    let e = c.args.equations in
    let blocks = e.reachable.blocks in
    let body = c.body-body.ensures in (
      body.up,
      body.in_file,
      search rules,
      rw (body.start, body.end) (λ t m.
          let there = target-in-file _ _ blocks.given c.args.b c.requires.1 t m in
          omega (arith, e.ruled, c.requires.0)),
      rw (body.start, body.end) (block-tail _ _ blocks.given _ c.requires.1 e.reachable.walked.tails),
    )

pub returns : goal.returns
returns c =
    let e = c.args.equations in
    let blocks = e.reachable.blocks in
    added _ _ blocks.given c.args.b c.requires.1 _ _ _ _ e.ruled c.requires.0
    _ _ (rw (c.body-body.ensures.start, c.body-body.ensures.end) at c.join_successors.ensures) c.transfer.ensures _ _ c.count-before.ensures c.count.ensures
