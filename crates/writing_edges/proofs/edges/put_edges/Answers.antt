-- `writing_edges::edges::put_edges` meets its contract.
use borrow.Author.Rules.{rules}
use mathlib.Core.Path.{◌≡◌, sym}
use native.Mathlib.Omega.{arith}
use Rattle.writing.specs.Put.{fits_as, turn_fits}
use Rattle.writing.specs.Steps.{first-put, first-place, next-place, next-put}
use Rattle.writing_edges.specs.Edges.{edge_part, edge_part_at, edge_here, edge_other}
use Rattle.writing_edges.proofs.edges.put_edges.Goals as goal

pub loop-i-init : goal.loop-i-init
loop-i-init c =
    let plan = c.args.plan in
    let first = c.next_place-i in
    let g = edge_part_at plan.file.bytes.now plan.numbers.now plan.slots.now c.args.part c.args.end in
    let there = first-place plan.file.bytes.now 7 c.args.end c.requires.1 c.args.from first.result c.requires.0 first.ensures in
    record {
      written = first-put plan.file.bytes.now 7 c.args.end c.requires.1 g (edge_other plan.file.bytes.now plan.numbers.now plan.slots.now c.args.part c.args.end) c.args.from first.result c.requires.0 first.ensures c.args.out.now (search rules);
      low = there.0;
      high = there.1;
      starts = there.2;
    }

pub put_edge_part-requires : goal.put_edge_part-requires
put_edge_part-requires c =
    let plan = c.args.plan in
    let loop = c.loop-i in
    let inside = c.loop-i-test.true in
    let next = c.next_place-next in
    let g = edge_part_at plan.file.bytes.now plan.numbers.now plan.slots.now c.args.part c.args.end in
    let here = edge_here plan.file.bytes.now plan.numbers.now plan.slots.now c.args.part loop.i c.args.end next.result (loop.invariant.starts inside) next.ensures in
    let ahead = next-place plan.file.bytes.now 7 c.args.end c.requires.1 loop.i inside next.result next.ensures in
    (ahead.0, omega (arith, ahead.1, c.requires.1), fits_as loop.out here (turn_fits g c.args.from loop.i c.args.end loop.invariant.low inside c.requires.2 loop.invariant.written))

pub loop-i-smaller : goal.loop-i-smaller
loop-i-smaller c =
    let loop = c.loop-i in
    let next = c.next_place-next in
    let ahead = next-place c.args.plan.file.bytes.now 7 c.args.end c.requires.1 loop.i c.loop-i-test.true next.result next.ensures in
    omega (arith, ahead.0, ahead.1)

pub loop-i-preserved : goal.loop-i-preserved
loop-i-preserved c =
    let plan = c.args.plan in
    let loop = c.loop-i in
    let inside = c.loop-i-test.true in
    let next = c.next_place-next in
    let g = edge_part_at plan.file.bytes.now plan.numbers.now plan.slots.now c.args.part c.args.end in
    let here = edge_here plan.file.bytes.now plan.numbers.now plan.slots.now c.args.part loop.i c.args.end next.result (loop.invariant.starts inside) next.ensures in
    let ahead = next-place plan.file.bytes.now 7 c.args.end c.requires.1 loop.i inside next.result next.ensures in
    record {
      written = next-put plan.file.bytes.now 7 c.args.end c.requires.1 loop.i inside next.result next.ensures g (edge_other plan.file.bytes.now plan.numbers.now plan.slots.now c.args.part c.args.end) c.args.from loop.invariant.low (edge_part plan.file.bytes.now plan.numbers.now plan.slots.now c.args.part loop.i next.result) (sym here) c.requires.2 loop.invariant.written c.put_edge_part.ensures;
      low = omega (arith, ahead.0, loop.invariant.low);
      high = omega (arith, ahead.1);
      starts = ahead.2;
    }

pub returns : goal.returns
returns c =
    let e : c.loop-i.i ≡ c.args.end = omega (arith, c.loop-i.invariant.high) in
    rw e at c.loop-i.invariant.written
