-- `solving::Progress::visit` meets its contract.
use Rattle.solving.proofs.Visiting.{predecessors-pushable, stands-idle, stands-grown}
use Rattle.solving.proofs.Progress.visit.Goals as goal

pub push_predecessors-requires : goal.push_predecessors-requires
push_predecessors-requires c =
    let e = c.args.equations in
    predecessors-pushable _ _ _ c.requires.1 e.reachable.walked.given.in_file e.ruled.few _ _ _ e.listed

pub returns-then-add_live : goal.returns-then-add_live
returns-then-add_live c =
    λ at state popped stands.
    let listed = c.args.equations.listed.lists _ c.requires.1.in-file in
    stands-grown _ _ _ c.requires.1 _ _ _ _ _ c.add_live.ensures at state popped stands c.if-add_live.true _ listed _ c.push_predecessors.ensures

pub returns-else-add_live : goal.returns-else-add_live
returns-else-add_live c =
    λ at state popped stands. stands-idle _ _ _ c.requires.1 _ _ _ _ _ c.add_live.ensures at state popped stands c.if-add_live.false
