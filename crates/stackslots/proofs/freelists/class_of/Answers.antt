-- `stackslots::freelists::class_of` meets its contract.
use mathlib.Core.Path.{sym, ◌∙◌}
use Rattle.stackslots.proofs.Classes.{class-found, class-missing}
use Rattle.stackslots.proofs.freelists.class_of.Goals as goal

pub returns-in-Some : goal.returns-in-Some
returns-in-Some c = (c.index.ensures.0 ∙ class-found c.args.size c.requires c.in-Some.class (sym c.new.ensures ∙ c.in-Some.is), c.index.ensures.1)

pub returns-in-None : goal.returns-in-None
returns-in-None c = absurd (class-missing c.args.size c.requires (sym c.new.ensures ∙ c.in-None.is))
