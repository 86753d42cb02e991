-- `planning::SafepointSpiller::ask_all` meets its contract.
use Rattle.planning.specs.Lent.{SameLent, SameRest}
use Rattle.planning.specs.Standing.{Slotting, spilled_from}
use Rattle.rows.specs.Rows.{rows}
use Prim.Native.Nat.{◌-◌, ◌≤◌}
use Rattle.planning.proofs.SafepointSpiller.ask_all.Given as goal

abbrev pub invariant-loop-v : goal.invariant-loop-v
invariant-loop-v l =
    (l.v ≤ l.values)
    × Slotting (spilled_from (rows l.spilled 0) (rows l.set l.row) l.v (l.values - l.v)) (spilled_from (rows l.spilled 0) (rows l.set l.row) 0 l.values) l.initial.self.asked.now l.initial.self.steps.now l.initial.self.noted l.self.asked.now l.self.steps.now l.self.noted
    × SameLent l.initial.self l.self
    × SameRest l.initial.self l.self

abbrev pub decreases-loop-v : goal.decreases-loop-v
decreases-loop-v l = l.values - l.v
