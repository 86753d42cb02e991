-- `solving::Progress::push_predecessors` meets its contract. The invariant: to push what is left of the list is to push all of it.
use Rattle.std.proofs.Common.{get_or}
use Rattle.solving.specs.Chains.{chain}
use Rattle.solving.proofs.Pushing.{Pushing}
use Rattle.solving.proofs.Progress.push_predecessors.Given as goal

abbrev pub invariant-loop-entry : goal.invariant-loop-entry
invariant-loop-entry l =
    Pushing l.lists.from.now l.lists.next.now (chain l.lists.from.now l.lists.next.now (get_or l.lists.first.now l.b 0)) l.initial.self l.tag l.self

abbrev pub decreases-loop-entry : goal.decreases-loop-entry
decreases-loop-entry l = l.tag
