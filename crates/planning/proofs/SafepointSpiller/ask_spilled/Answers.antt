-- `planning::SafepointSpiller::ask_spilled` meets its contract.
use Rattle.planning.proofs.Slotting.{slotted-in}
use Rattle.planning.proofs.Asking.{asking-room}
use Rattle.rows.specs.Rows.{rows}
use mathlib.Core.Path.{sym, ◌∙◌}
use Rattle.planning.proofs.SafepointSpiller.ask_spilled.Goals as goal

pub ask-requires : goal.ask-requires
ask-requires c =
    let x = c.args.self.now in
    (c.requires.0.in_asked, c.requires.1, asking-room c.args.v c.requires.1 x.asked.now x.steps.now x.noted 0 c.requires.0.room)

pub returns-then-contains-2-clause-slotted : goal.returns-then-contains-2-clause-slotted
returns-then-contains-2-clause-slotted c =
    let x = c.args.self.now in
    slotted-in (rows c.args.spilled.now 0) (rows c.args.set.now c.args.row) c.args.v x.asked.now x.steps.now x.noted (sym c.contains.ensures ∙ c.if-contains.true) (sym c.contains-then-contains.ensures ∙ c.if-contains-2.true) c.requires.1 c.requires.0.room _ _ c.ask.new.self.noted c.ask.ensures.asked
