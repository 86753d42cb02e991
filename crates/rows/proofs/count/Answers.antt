-- `rows::count` meets its contract.
use borrow.Author.Rules.{rules}
use native.Mathlib.Omega.{arith}
use mathlib.Core.Path.{refl, ◌∙◌}
use mir.Val.{bool_byte}
use Rattle.std.specs.List.{range_with_len}
use Rattle.std.proofs.lemmas.Iterator.{YieldsList-from_map, YieldsList-from_range}
use Rattle.std.proofs.lemmas.Iterator.Consumers.{sum_by_from_yields_List, fits_by_from_yields_list}
use Rattle.rows.specs.Rows.{rows, row_values, size}
use Rattle.rows.proofs.Counting.{size-summed, sum-fits}
use Rattle.rows.proofs.count.Goals as goal

pub sum-requires-clause-fits : goal.sum-requires-clause-fits
sum-requires-clause-fits c =
    let s = rows c.args.t.now c.args.row in
    fits_by_from_yields_list (λ v. bool_byte (s v)) (range_with_len 0 row_values) _ _
    (YieldsList-from_map _ (λ v. bool_byte (s v)) (YieldsList-from_range 0 row_values row_values c.map.ensures.source refl) c.map.ensures.closure (λ x r q k. search rules))
    (sum-fits s row_values (omega arith))

pub returns : goal.returns
unfolding size
returns c =
    let s = rows c.args.t.now c.args.row in
    sum_by_from_yields_List (λ v. bool_byte (s v)) (range_with_len 0 row_values) c.map.result _ c.sum.ensures.ran
    (YieldsList-from_map _ (λ v. bool_byte (s v)) (YieldsList-from_range 0 row_values row_values c.map.ensures.source refl) c.map.ensures.closure (λ x r q k. search rules))
    ∙ size-summed s 0 row_values
