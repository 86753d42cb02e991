-- `counting::count_added` meets its contract.
use borrow.Author.Rules.{rules}
use mathlib.Core.Path.{◌∙◌}
use native.Mathlib.Omega.{arith}
use Rattle.std.specs.List.{range_with_len}
use Rattle.std.proofs.lemmas.Iterator.{YieldsList-from_map, YieldsList-from_range}
use Rattle.std.proofs.lemmas.Iterator.Consumers.{sum_by_from_yields_List, fits_by_from_yields_list}
use Rattle.rules.specs.Limits.{largest_records}
use Rattle.counting.specs.Totals.{block_added}
use Rattle.counting.proofs.Blocks.{added-small}
use Rattle.counting.proofs.Sums.{sum-range, sum-small}
use Rattle.counting.proofs.count_added.Goals as goal
use Prim.Native.Nat.{◌*◌}

pub sum-requires-clause-fits : goal.sum-requires-clause-fits
sum-requires-clause-fits c =
    let A = c.args in
    let blocks = A.indexed.blocks in
    let n = blocks.count in
    let g = block_added blocks.file.bytes.now A.numbers.now in
    let small = sum-small g (3 * largest_records) 0 n (λ b _ l. added-small A.numbers.now A.indexed.indexed b (omega (arith, l, blocks.counted)) c.requires.2) in
    fits_by_from_yields_list g (range_with_len 0 n) _ _
    (YieldsList-from_map _ g (YieldsList-from_range 0 n n c.map.ensures.source (omega arith)) c.map.ensures.closure (λ x r q k. search rules))
    (omega (arith, small, c.requires.0))

pub returns : goal.returns
returns c =
    let A = c.args in
    let blocks = A.indexed.blocks in
    let n = blocks.count in
    let g = block_added blocks.file.bytes.now A.numbers.now in
    let small = sum-small g (3 * largest_records) 0 n (λ b _ l. added-small A.numbers.now A.indexed.indexed b (omega (arith, l, blocks.counted)) c.requires.2) in
    let all =
    sum_by_from_yields_List g (range_with_len 0 n) c.map.result _ c.sum.ensures.ran
    (YieldsList-from_map _ g (YieldsList-from_range 0 n n c.map.ensures.source (omega arith)) c.map.ensures.closure (λ x r q k. search rules)) in
    (all ∙ sum-range g 0 n, omega (arith, all, small))
