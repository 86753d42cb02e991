-- `layout::laying::lay_block` meets its contract.
use Prim.Native.Nat.{ℕ, ◌<◌}
use lib.ListN.{length}
use mathlib.Core.List.{List}
use mathlib.Core.Path.{sym, ap, subst}
use native.Mathlib.Omega.{arith}
use Rattle.rules.specs.File.{function_in}
use Rattle.graph.specs.ByTable.{end-le, start-less, block-tail}
use Rattle.rows.specs.Rows.{rows}
use Rattle.listing.specs.Firsts.{Firsts}
use Rattle.listing.specs.Tables.{block-records}
use Rattle.writing.specs.Put.{put_as, fits_as}
use Rattle.layout.specs.Laid.{part-planned, part-copied, number-first, rows_fit}
use Rattle.layout.proofs.laying.lay_block.Goals as goal

pub copy_records-requires : goal.copy_records-requires
copy_records-requires c =
    let laying = c.args.laying in
    let s = laying.plan.file.bytes.now in
    let places = laying.numbered.indexed.blocks.places.now in
    let tables = laying.tables in
    let given = tables.tables.given in
    let b = c.args.b in
    let inside : b < length (function_in s).blocks = omega (arith, c.requires.0, laying.numbered.indexed.blocks.counted, ap (λ (t : List ℕ). length (function_in t).blocks) laying.same) in
    let same = part-copied tables b inside laying.plan.slots.now (rows laying.lists.rows.now) c.if-indexed-b-eq0.true in
    rw (c.place-p.ensures.0, c.body-end.ensures.end) (omega (arith, start-less s places given b inside), end-le s places given b inside, fits_as c.args.out.now same c.requires.1)

pub returns-then-indexed-b-eq0 : goal.returns-then-indexed-b-eq0
returns-then-indexed-b-eq0 c =
    let laying = c.args.laying in
    let s = laying.plan.file.bytes.now in
    let places = laying.numbered.indexed.blocks.places.now in
    let tables = laying.tables in
    let given = tables.tables.given in
    let b = c.args.b in
    let inside : b < length (function_in s).blocks = omega (arith, c.requires.0, laying.numbered.indexed.blocks.counted, ap (λ (t : List ℕ). length (function_in t).blocks) laying.same) in
    let same = part-copied tables b inside laying.plan.slots.now (rows laying.lists.rows.now) c.if-indexed-b-eq0.true in
    put_as (sym same) (rw (c.place-p.ensures.0, c.body-end.ensures.end) at c.copy_records.ensures)

pub put_block-requires : goal.put_block-requires
put_block-requires c =
    let laying = c.args.laying in
    let s = laying.plan.file.bytes.now in
    let places = laying.numbered.indexed.blocks.places.now in
    let tables = laying.tables in
    let given = tables.tables.given in
    let b = c.args.b in
    let inside : b < length (function_in s).blocks = omega (arith, c.requires.0, laying.numbered.indexed.blocks.counted, ap (λ (t : List ℕ). length (function_in t).blocks) laying.same) in
    let same = part-planned tables b inside laying.plan.slots.now (rows laying.lists.rows.now) c.if-indexed-b-eq0.false in
    let firsts = subst (λ (t : List ℕ). Firsts t laying.numbered.firsts.now) (sym laying.same) laying.numbered.numbered in
    rw (c.place-p.ensures.0, c.body-end.ensures.end) (
      omega (arith, start-less s places given b inside),
      end-le s places given b inside,
      rows_fit tables b inside,
      number-first given b inside firsts,
      fits_as c.args.out.now same c.requires.1,
      block-records tables.tables b inside,
      block-tail s places given b inside tables.tails,
    )

pub returns-else-indexed-b-eq0 : goal.returns-else-indexed-b-eq0
returns-else-indexed-b-eq0 c =
    let laying = c.args.laying in
    let s = laying.plan.file.bytes.now in
    let places = laying.numbered.indexed.blocks.places.now in
    let tables = laying.tables in
    let given = tables.tables.given in
    let b = c.args.b in
    let inside : b < length (function_in s).blocks = omega (arith, c.requires.0, laying.numbered.indexed.blocks.counted, ap (λ (t : List ℕ). length (function_in t).blocks) laying.same) in
    let same = part-planned tables b inside laying.plan.slots.now (rows laying.lists.rows.now) c.if-indexed-b-eq0.false in
    put_as (sym same) (rw (c.place-p.ensures.0, c.body-end.ensures.end) at c.put_block.ensures)
