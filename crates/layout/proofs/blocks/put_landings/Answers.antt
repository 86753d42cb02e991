-- `layout::blocks::put_landings` meets its contract.
use mathlib.Core.Path.{sym}
use Rattle.writing.specs.Put.{put_as, fits_as}
use Rattle.layout.specs.Stepped.{landings-in-tail}
use Rattle.layout.proofs.blocks.put_landings.Goals as goal

pub put_edges-requires : goal.put_edges-requires
put_edges-requires c =
    let tail = c.tail_from-tail in
    let place = tail.ensures in
    let same = landings-in-tail c.args.plan.file.bytes.now c.args.plan.numbers.now c.args.plan.slots.now c.args.from tail.result c.args.end c.requires.1 c.requires.4 place.0 place.1 place.2 place.3 c.requires.3.starts in
    (place.1, c.requires.1, fits_as c.args.out.now same c.requires.2)

pub returns : goal.returns
returns c =
    let tail = c.tail_from-tail in
    let place = tail.ensures in
    let same = landings-in-tail c.args.plan.file.bytes.now c.args.plan.numbers.now c.args.plan.slots.now c.args.from tail.result c.args.end c.requires.1 c.requires.4 place.0 place.1 place.2 place.3 c.requires.3.starts in
    put_as (sym same) c.put_edges.ensures
