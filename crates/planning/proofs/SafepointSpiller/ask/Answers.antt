-- `planning::SafepointSpiller::ask` meets its contract.
use mathlib.Core.Path.{refl, sym, ◌∙◌}
use borrow.Author.Rules.{rules}
use Rattle.planning.proofs.SafepointSpiller.ask.Goals as goal

pub returns-then-has-clause-asked : goal.returns-then-has-clause-asked
returns-then-has-clause-asked c =
    let e = sym c.has.ensures ∙ c.if-has.true in
    record { row = rw e; step = rw e; counted = rw e; asked_long = refl; steps_long = refl }

pub returns-clause-asked : goal.returns-clause-asked
returns-clause-asked c =
    let e = sym c.has.ensures ∙ c.if-has.false in
    record { row = rw e c.insert.ensures; step = rw e; counted = rw e; asked_long = search rules; steps_long = search rules }
