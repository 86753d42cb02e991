-- `listing::blocks::list_safepoints` meets its contract.
use native.Mathlib.Omega.{arith}
use Prim.Native.Nat.{ℕ}
use mathlib.Core.Path.{◌≡◌, ◌∙◌, ap}
use lib.ListN.{length, get_or}
use Rattle.rules.specs.Lists.{update, union, NumberSet, nothing}
use Rattle.rules.specs.File.{function_in}
use Rattle.rows.specs.Rows.{rows, rows-zeros}
use Rattle.listing.specs.Listed.{together, together-spilled}
use Rattle.listing.specs.Firsts.{all-numbered}
use Rattle.listing.specs.Crossings.{listed}
use Rattle.listing.proofs.blocks.list_safepoints.Goals as goal

pub join_rows-requires : goal.join_rows-requires
join_rows-requires c =
    let n = c.args.numbered in
    (c.requires.3, omega (arith, all-numbered n.numbered n.indexed.blocks.count n.indexed.blocks.counted, c.requires.0.lists_room, c.list_rows.auto.lists))

pub returns : goal.returns
returns c =
    let n = c.args.numbered in
    let f = function_in n.indexed.blocks.file.bytes.now in
    let spilled = rows c.args.spilled.now in
    let count = get_or n.firsts.now n.indexed.blocks.count 0 in
    let empty : spilled 0 ≡ nothing = ap (λ (t : ℕ → NumberSet). t 0) (ap rows c.requires.2 ∙ rows-zeros (length c.args.spilled.now)) in (
      c.list_rows.ensures,
      c.join_rows.ensures
          ∙ ap (λ (z : NumberSet). update 0 (union z (together count (rows c.list_rows.new.lists))) spilled) empty
          ∙ ap (λ (t : ℕ → NumberSet). update 0 (together count t) spilled) c.list_rows.ensures
          ∙ ap (λ (k : ℕ). update 0 (together k (listed f)) spilled) (all-numbered n.numbered n.indexed.blocks.count n.indexed.blocks.counted)
          ∙ ap (λ (z : NumberSet). update 0 z spilled) (together-spilled f),
    )
