-- `analysis::analyse` meets its contract.
use Rattle.std.proofs.Common.{rules}
use Rattle.analysis.specs.Analysis.{links-lent, sets-lent, then-listed, then-ruled, then-solvable}
use Rattle.analysis.proofs.analyse.Goals as goal

pub link_predecessors-requires : goal.link_predecessors-requires
link_predecessors-requires c = rw c.table-table.ensures.0 (links-lent c.requires)

pub block_sets-requires : goal.block_sets-requires
block_sets-requires c =
    let blocks = c.args.reachable.blocks in
    sets-lent c.requires _ _ blocks.given blocks.counted

pub invariant_of-equations : goal.invariant_of-equations
invariant_of-equations c =
    let of = c.table-table.ensures.0 in
    record {
      listed = rw of (then-listed c.requires _ _ _ _ (rw of at c.link_predecessors.ensures));
      ruled = rw of (then-ruled c.requires _ _ c.block_sets.ensures.0 c.block_sets.ensures.1 (search rules) (search rules));
    }

pub solve-requires : goal.solve-requires
solve-requires c = rw c.table-table.ensures.0 (then-solvable c.requires)
