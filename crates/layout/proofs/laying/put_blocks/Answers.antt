-- `layout::laying::put_blocks` meets its contract.
use borrow.Author.Rules.{rules}
use mathlib.Core.Path.{refl}
use native.Mathlib.Omega.{arith}
use lib.ListN.{length}
use Prim.Native.Nat.{◌+◌, ◌≤◌}
use Rattle.rows.specs.Rows.{rows}
use Rattle.writing.specs.Put.{put_start, put_turn, turn_fits, rest_fits, put_rest}
use Rattle.layout.specs.Laid.{block_part_at}
use Rattle.layout.proofs.laying.put_blocks.Goals as goal

pub loop-b-init : goal.loop-b-init
loop-b-init c = put_start _ _ _ (search rules)

pub slice_bounds-put_laid-count : goal.slice_bounds-put_laid-count
slice_bounds-put_laid-count c =
    let laying = c.args.laying in
    let g = block_part_at laying.plan.file.bytes.now laying.numbered.indexed.blocks.places.now laying.plan.numbers.now laying.plan.slots.now laying.lists.values (rows laying.lists.rows.now) in
    let fits = turn_fits g 0 c.loop-b.b laying.numbered.indexed.blocks.count (search rules) c.loop-b-test.true c.requires c.loop-b.invariant in
    omega (arith, fits)

pub slice_bounds-put_laid-start : goal.slice_bounds-put_laid-start
slice_bounds-put_laid-start c =
    let laying = c.args.laying in
    let g = block_part_at laying.plan.file.bytes.now laying.numbered.indexed.blocks.places.now laying.plan.numbers.now laying.plan.slots.now laying.lists.values (rows laying.lists.rows.now) in
    let fits = turn_fits g 0 c.loop-b.b laying.numbered.indexed.blocks.count (search rules) c.loop-b-test.true c.requires c.loop-b.invariant in
    let within : c.loop-b.out.at ≤ length c.loop-b.out.bytes.now = omega (arith, fits) in
    search (rules, within)

pub overflow_add-out : goal.overflow_add-out
overflow_add-out c =
    let laying = c.args.laying in
    let g = block_part_at laying.plan.file.bytes.now laying.numbered.indexed.blocks.places.now laying.plan.numbers.now laying.plan.slots.now laying.lists.values (rows laying.lists.rows.now) in
    let fits = turn_fits g 0 c.loop-b.b laying.numbered.indexed.blocks.count (search rules) c.loop-b-test.true c.requires c.loop-b.invariant in
    let within : c.loop-b.out.at + c.put_laid.result ≤ length c.loop-b.out.bytes.now = omega (arith, fits, c.put_laid.ensures.count) in
    search (rules, within)

pub put_laid-requires : goal.put_laid-requires
put_laid-requires c =
    let laying = c.args.laying in
    let g = block_part_at laying.plan.file.bytes.now laying.numbered.indexed.blocks.places.now laying.plan.numbers.now laying.plan.slots.now laying.lists.values (rows laying.lists.rows.now) in
    let fits = turn_fits g 0 c.loop-b.b laying.numbered.indexed.blocks.count (search rules) c.loop-b-test.true c.requires c.loop-b.invariant in
    (c.loop-b-test.true, rest_fits c.loop-b.out (g c.loop-b.b) fits)

pub loop-b-preserved : goal.loop-b-preserved
loop-b-preserved c =
    let laying = c.args.laying in
    let g = block_part_at laying.plan.file.bytes.now laying.numbered.indexed.blocks.places.now laying.plan.numbers.now laying.plan.slots.now laying.lists.values (rows laying.lists.rows.now) in
    let fits = turn_fits g 0 c.loop-b.b laying.numbered.indexed.blocks.count (search rules) c.loop-b-test.true c.requires c.loop-b.invariant in
    put_turn g 0 c.loop-b.b laying.numbered.indexed.blocks.count (search rules) c.loop-b-test.true c.requires c.loop-b.invariant _ refl
    (put_rest _ _ (g c.loop-b.b) c.put_laid.result c.put_laid.new.rest fits refl refl refl c.put_laid.ensures)
