-- `listing::firsts::count_instructions` meets its contract.
use borrow.Author.Rules.{rules}
use Prim.Native.Nat.{◌-◌}
use mathlib.Core.Path.{refl, ◌∙◌}
use native.Mathlib.Omega.{arith}
use mir.Val.{bool_byte}
use Rattle.std.specs.List.{range_with_len}
use Rattle.std.proofs.lemmas.Iterator.{YieldsList-from_map, YieldsList-from_range}
use Rattle.std.proofs.lemmas.Iterator.Consumers.{sum_by_from_yields_List, fits_by_from_yields_list}
use Rattle.listing.specs.Stepping.{opens}
use Rattle.listing.proofs.Counting.{heads-summed, heads-fit}
use Rattle.listing.proofs.firsts.count_instructions.Goals as goal

pub sum-requires-clause-fits : goal.sum-requires-clause-fits
sum-requires-clause-fits c =
    let s = c.args.file.bytes.now in
    let start = c.args.start in
    let end = c.args.end in
    fits_by_from_yields_list (λ p. bool_byte (opens s p)) (range_with_len start (end - start)) _ _
    (YieldsList-from_map _ (λ p. bool_byte (opens s p)) (YieldsList-from_range start end (end - start) c.map.ensures.source refl) c.map.ensures.closure (λ x r q k. search rules))
    (heads-fit s end c.requires.1 start c.requires.0 (search rules))

pub returns : goal.returns
returns c =
    let s = c.args.file.bytes.now in
    let start = c.args.start in
    let end = c.args.end in
    sum_by_from_yields_List (λ p. bool_byte (opens s p)) (range_with_len start (end - start)) c.map.result _ c.sum.ensures.ran
    (YieldsList-from_map _ (λ p. bool_byte (opens s p)) (YieldsList-from_range start end (end - start) c.map.ensures.source refl) c.map.ensures.closure (λ x r q k. search rules))
    ∙ heads-summed s end c.requires.1 (end - start) start (omega arith)
