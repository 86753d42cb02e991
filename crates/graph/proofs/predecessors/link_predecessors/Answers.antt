-- `graph::predecessors::link_predecessors` meets its contract.
use Rattle.std.proofs.Common.{arith, rules}
use Rattle.graph.proofs.Linking.{listing_start, block-in-file, block-linkable, listing-more, linked_back}
use Rattle.graph.proofs.predecessors.link_predecessors.Goals as goal

pub loop-i-init : goal.loop-i-init
loop-i-init c = (search rules, listing_start _ _ _ c.args.reachable.walked _ _ _ c.requires)

pub link_block-requires : goal.link_block-requires
link_block-requires c =
    let w = c.args.reachable.walked in
    let left = c.loop-i.invariant.1 in (
      block-in-file _ _ _ w _ _ c.requires _ left c.loop-i-test.true,
      w.tails,
      block-linkable _ _ _ w _ _ c.requires _ left c.loop-i-test.true,
    )

pub loop-i-preserved : goal.loop-i-preserved
loop-i-preserved c =
    let same = c.link_block.ensures.same in (
      search rules,
      listing-more _ _ _ c.args.reachable.walked _ _ c.requires _ c.loop-i.invariant.1 c.loop-i-test.true _ c.link_block.ensures.value
          same.first.1 same.from.1 same.next.1,
    )

pub returns : goal.returns
returns c =
    linked_back _ _ _ c.args.reachable.walked _ _ c.requires _ c.loop-i.invariant.1 (omega (arith, c.loop-i-test.false)) _ _ _
    (search rules) (search rules) (search rules)
