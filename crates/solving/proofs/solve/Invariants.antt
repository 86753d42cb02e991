-- `solving::solve` meets its contract. The invariant: the tables and the worklist stand for the state after as many steps as there were visits.
use Rattle.std.proofs.Common.{◌-◌}
use Rattle.rules.specs.Liveness.{bound}
use Rattle.rules.specs.File.{function_in}
use Rattle.fixpoint.specs.MoveToTop.{start_top, after_top}
use Rattle.solving.specs.Progress.{Stands}
use Rattle.solving.proofs.solve.Given as goal

abbrev pub invariant-loop-b : goal.invariant-loop-b
invariant-loop-b l =
    let f = function_in l.equations.reachable.blocks.file.bytes.now in
    Stands l.ins l.outs l.at (after_top f l.at.visits (start_top f))

abbrev pub decreases-loop-b : goal.decreases-loop-b
decreases-loop-b l = bound (function_in l.equations.reachable.blocks.file.bytes.now) - l.at.visits
