-- `counting::count_between` meets its contract.
use borrow.Author.Rules.{rules}
use Prim.Native.Nat.{◌-◌}
use mathlib.Core.Path.{◌∙◌}
use native.Mathlib.Omega.{arith}
use Rattle.std.specs.List.{range_with_len}
use Rattle.std.proofs.lemmas.Iterator.{YieldsList-from_map, YieldsList-from_range}
use Rattle.std.proofs.lemmas.Iterator.Consumers.{sum_by_from_yields_List, fits_by_from_yields_list}
use Rattle.counting.proofs.Weighing.{weight_at, weighed-sum, between-small}
use Rattle.counting.proofs.count_between.Goals as goal

pub sum-requires-clause-fits : goal.sum-requires-clause-fits
sum-requires-clause-fits c =
    let A = c.args in
    let s = A.file.bytes.now in
    let start = A.range.start in
    let end = A.range.end in
    let n = end - start in
    let g = weight_at s A.numbers.now in
    let all = weighed-sum s A.numbers.now n start end (omega (arith, c.requires.0)) c.requires.1 in
    fits_by_from_yields_list g (range_with_len start n) _ _
    (YieldsList-from_map _ g (YieldsList-from_range start end n c.map.ensures.source (omega arith)) c.map.ensures.closure (λ x r q k. search rules))
    (omega (arith, all, between-small s A.numbers.now start end c.requires.0 c.requires.1, c.requires.3))

pub returns : goal.returns
returns c =
    let A = c.args in
    let s = A.file.bytes.now in
    let start = A.range.start in
    let end = A.range.end in
    let n = end - start in
    let g = weight_at s A.numbers.now in
    let all =
    sum_by_from_yields_List g (range_with_len start n) c.map.result _ c.sum.ensures.ran
    (YieldsList-from_map _ g (YieldsList-from_range start end n c.map.ensures.source (omega arith)) c.map.ensures.closure (λ x r q k. search rules)) in
    let is = all ∙ weighed-sum s A.numbers.now n start end (omega (arith, c.requires.0)) c.requires.1 in
    (is, omega (arith, is, between-small s A.numbers.now start end c.requires.0 c.requires.1, c.requires.3))
