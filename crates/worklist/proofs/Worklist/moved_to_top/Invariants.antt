-- `worklist::Worklist::moved_to_top` meets its contract. The invariant: to go on with the places left leads to the table in which the block is on top.
use Rattle.std.proofs.Common.{◌≡◌}
use Rattle.worklist.proofs.Raising.{Raising}
use Rattle.worklist.proofs.Worklist.moved_to_top.Given as goal

abbrev pub invariant-loop-i : goal.invariant-loop-i
invariant-loop-i l =
    (l.self.count ≡ l.initial.self.count) × (l.self.pending ≡ l.initial.self.pending)
    × Raising l.b l.initial.self.blocks l.initial.self.count l.carried l.i l.self.blocks
