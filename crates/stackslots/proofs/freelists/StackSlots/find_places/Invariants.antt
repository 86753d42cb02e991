-- `stackslots::freelists::StackSlots::find_places` meets its contract.
use Rattle.stackslots.proofs.Loop.{Going}
use Rattle.stackslots.specs.Tables.{tables, SameLent}
use lib.ListN.{length}
use Rattle.stackslots.proofs.freelists.StackSlots.find_places.Given as goal

abbrev pub invariant-loop-i : goal.invariant-loop-i
invariant-loop-i l =
    Going l.file.bytes.now l.steps (length l.steps) l.initial.self.heads.now l.initial.self.older.now l.initial.self.tags.now l.initial.places l.i (tables l.self) l.places
    × SameLent l.initial.self l.self
