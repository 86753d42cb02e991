-- `layout::blocks::copy_records` meets its contract.
use borrow.Author.Rules.{rules}
use mathlib.Core.Path.{refl}
use Rattle.writing.specs.Put.{put_start, put_turn, turn_fits}
use Rattle.layout.specs.BlockRuns.{copy_at}
use Rattle.layout.proofs.blocks.copy_records.Goals as goal

pub loop-i-init : goal.loop-i-init
loop-i-init c = put_start _ _ _ (search rules)

pub put_copy-requires : goal.put_copy-requires
put_copy-requires c = (search rules, turn_fits (copy_at c.args.file.bytes.now) c.args.from c.loop-i.i c.args.end (search rules) c.loop-i-test.true c.requires.2 c.loop-i.invariant)

pub loop-i-preserved : goal.loop-i-preserved
loop-i-preserved c =
    put_turn (copy_at c.args.file.bytes.now) c.args.from c.loop-i.i c.args.end (search rules) c.loop-i-test.true c.requires.2 c.loop-i.invariant _ refl c.put_copy.ensures
