-- `listing::firsts::number_instructions` meets its contract.
use native.Mathlib.Omega.{arith}
use Prim.Native.Nat.{◌<◌}
use lib.ListN.{length}
use Rattle.rules.specs.File.{function_in}
use Rattle.graph.specs.ByTable.{end-le}
use Rattle.listing.proofs.Counting.{next_low}
use Rattle.listing.specs.Tables.{indices-given, behind-block}
use Rattle.listing.specs.Firsts.{numbered_more}
use Rattle.listing.proofs.firsts.number_instructions.Goals as goal

pub overflow_add-first : goal.overflow_add-first
overflow_add-first c =
    let g = c.args.blocks in
    let s = g.file.bytes.now in
    let places = g.places.now in
    let b = c.loop-b.b in
    let l : b < length (function_in s).blocks = omega (arith, g.counted) in
    let counted = rw (c.body-body.ensures.start, c.body-body.ensures.end) at c.count_instructions-first.ensures in
    omega (arith, next_low s places g.given b l c.loop-b.first c.count_instructions-first.result counted c.loop-b.invariant.1, end-le s places g.given b l)

pub loop-b-preserved : goal.loop-b-preserved
loop-b-preserved c =
    let g = c.args.blocks in
    let s = g.file.bytes.now in
    let places = g.places.now in
    let b = c.loop-b.b in
    let l : b < length (function_in s).blocks = omega (arith, g.counted) in
    let counted = rw (c.body-body.ensures.start, c.body-body.ensures.end) at c.count_instructions-first.ensures in (
      behind-block (indices-given s places g.given) b l c.loop-b.first c.count_instructions-first.result c.loop-b.invariant.0 counted,
      next_low s places g.given b l c.loop-b.first c.count_instructions-first.result counted c.loop-b.invariant.1,
      numbered_more s b c.args.firsts.now c.loop-b.firsts c.loop-b.first (omega (arith, c.requires)) c.loop-b.invariant.0 c.loop-b.invariant.2,
    )
