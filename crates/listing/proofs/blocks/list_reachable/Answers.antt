-- `listing::blocks::list_reachable` meets its contract.
use native.Mathlib.Omega.{arith}
use Prim.Native.Nat.{◌+◌, ◌<◌}
use mathlib.Core.Path.{◌∙◌}
use lib.ListN.{length, get_or}
use Rattle.rules.specs.File.{function_in}
use Rattle.rows.specs.Rows.{rows}
use Rattle.listing.specs.Firsts.{first-behind}
use Rattle.listing.specs.Tables.{list-in-rows, below-fits, block-records, block_listed, block-unlisted}
use Rattle.listing.proofs.blocks.list_reachable.Goals as goal

pub list_block-requires : goal.list_block-requires
list_block-requires c =
    let n = c.args.numbered in
    let b = c.args.b in
    let t = c.requires.0 in
    let l : b < length (function_in n.indexed.blocks.file.bytes.now).blocks = omega (arith, n.indexed.blocks.counted, c.requires.1) in
    rw (c.body.ensures.start, c.body.ensures.end) (
      list-in-rows t,
      block-records t.tables b l,
      omega (arith, l, t.outs_room),
      omega (arith, first-behind t.tables.given n.numbered b l),
      omega (arith, n.numbered.number (b + 1) (omega (arith, l)), below-fits t (b + 1) (omega (arith, l))),
    )

pub returns-then-indexed-b-ne0 : goal.returns-then-indexed-b-ne0
returns-then-indexed-b-ne0 c =
    let n = c.args.numbered in
    let b = c.args.b in
    let t = c.requires.0 in
    let l : b < length (function_in n.indexed.blocks.file.bytes.now).blocks = omega (arith, n.indexed.blocks.counted, c.requires.1) in
    rw (c.body.ensures.start, c.body.ensures.end) at c.list_block.ensures
    ∙ block_listed t b l (get_or n.firsts.now b 0) (get_or n.firsts.now (b + 1) 0) (rows c.args.lists.now) c.if-indexed-b-ne0.true (first-behind t.tables.given n.numbered b l)

pub returns-else-indexed-b-ne0 : goal.returns-else-indexed-b-ne0
returns-else-indexed-b-ne0 c =
    let n = c.args.numbered in
    let l : c.args.b < length (function_in n.indexed.blocks.file.bytes.now).blocks = omega (arith, n.indexed.blocks.counted, c.requires.1) in
    block-unlisted c.requires.0 c.args.b l (get_or n.firsts.now c.args.b 0) (rows c.args.lists.now) c.if-indexed-b-ne0.false
