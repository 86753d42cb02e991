-- `worklist::Worklist::stacked` meets its contract.
use Rattle.std.proofs.Common.{◌-◌, sym, ap, ◌∙◌, arith, get_or}
use lib.Seq.{drop-length}
use Rattle.fixpoint.specs.Removal.{move_to_top}
use Rattle.worklist.specs.Entries.{entries, stacked-none}
use Rattle.worklist.proofs.Marks.{marked-none}
use Rattle.worklist.proofs.Stacking.{stacking-below, stacking-more}
use Rattle.worklist.proofs.Worklist.stacked.Goals as goal

pub loop-i-init : goal.loop-i-init
unfolding entries
loop-i-init c = (sym (drop-length c.args.order.now), record { stacked = stacked-none; marked = marked-none })

pub push-requires : goal.push-requires
push-requires c =
    (c.loop-i.invariant.1, stacking-below c.args.order.now c.requires (c.loop-i.i - 1) (omega (arith, c.loop-i-test.true)))

pub loop-i-preserved : goal.loop-i-preserved
loop-i-preserved c =
    let order = c.args.order.now in
    let i = c.loop-i.i in (
      c.push.ensures.0 ∙ ap (move_to_top (get_or order (i - 1) 0)) c.loop-i.invariant.0
          ∙ stacking-more order c.requires i c.loop-i-test.true (omega arith),
      c.push.ensures.1,
    )
