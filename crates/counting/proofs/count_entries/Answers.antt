-- `counting::count_entries` meets its contract.
use borrow.Author.Rules.{rules}
use mathlib.Core.Path.{◌∙◌}
use native.Mathlib.Omega.{arith}
use Rattle.std.specs.List.{range_with_len}
use Rattle.std.proofs.lemmas.Iterator.{YieldsList-from_map, YieldsList-from_range}
use Rattle.std.proofs.lemmas.Iterator.Consumers.{sum_by_from_yields_List, fits_by_from_yields_list}
use Rattle.rows.specs.Rows.{rows, size}
use Rattle.listing.specs.Ascending.{size-ascending, ascending-small}
use Rattle.counting.proofs.Sums.{sum-range, sum-small}
use Rattle.counting.proofs.count_entries.Goals as goal

pub sum-requires-clause-fits : goal.sum-requires-clause-fits
sum-requires-clause-fits c =
    let n = c.args.instructions in
    let set = rows c.args.lists.now in
    let small = sum-small (λ i. size (set i)) 512 0 n (λ i _ _. omega (arith, size-ascending (set i), ascending-small (set i))) in
    fits_by_from_yields_list (λ i. size (set i)) (range_with_len 0 n) _ _
    (YieldsList-from_map _ (λ i. size (set i)) (YieldsList-from_range 0 n n c.map.ensures.source (omega arith)) c.map.ensures.closure (λ x r q k. search rules))
    (omega (arith, small, c.requires.1))

pub returns : goal.returns
returns c =
    let n = c.args.instructions in
    let set = rows c.args.lists.now in
    let small = sum-small (λ i. size (set i)) 512 0 n (λ i _ _. omega (arith, size-ascending (set i), ascending-small (set i))) in
    let all =
    sum_by_from_yields_List (λ i. size (set i)) (range_with_len 0 n) c.map.result _ c.sum.ensures.ran
    (YieldsList-from_map _ (λ i. size (set i)) (YieldsList-from_range 0 n n c.map.ensures.source (omega arith)) c.map.ensures.closure (λ x r q k. search rules)) in
    (all ∙ sum-range (λ i. size (set i)) 0 n, omega (arith, all, small))
