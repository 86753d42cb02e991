-- `solving::Progress::push_predecessors` meets its contract.
use Rattle.std.proofs.Common.{refl, arith}
use Rattle.solving.proofs.Pushing.{pushing-start, pushing-block, pushing-more}
use Rattle.solving.proofs.Progress.push_predecessors.Goals as goal

pub loop-entry-init : goal.loop-entry-init
loop-entry-init c = pushing-start _ _ _ _ c.requires.1 c.requires.2

pub push-requires : goal.push-requires
push-requires c = pushing-block _ _ _ _ _ _ c.loop-entry.invariant _ (omega (arith, c.in-Some.ensures))

pub loop-entry-preserved : goal.loop-entry-preserved
loop-entry-preserved c =
    pushing-more _ _ _ _ _ _ c.loop-entry.invariant _ (omega (arith, c.in-Some.ensures)) _
    (record { left = c.push.ensures.0; kept = c.push.ensures.1; visits = refl; pushes = refl })
