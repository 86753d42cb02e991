-- `planning::SafepointSpiller::load` meets its contract.
use Rattle.rules.specs.File.{function_in}
use Rattle.rules.specs.Plan.{plan_load}
use mathlib.Core.Path.{sym, subst}
use Rattle.planning.specs.Standing.{Ran}
use Rattle.planning.proofs.Asking.{loaded}
use Rattle.planning.specs.Lent.{tables_of}
use Rattle.planning.proofs.SafepointSpiller.load.Goals as goal

pub returns-clause-ran : goal.returns-clause-ran
returns-clause-ran c =
    let t = tables_of c.args.self.now in
    let f = function_in c.args.file.bytes.now in
    subst (Ran f (plan_load f t.progress.pointer c.args.v) 1 t) (sym c.ask.ensures.rest.0)
    (loaded (function_in c.args.file.bytes.now) c.args.v c.requires.0 t.asked t.steps t.sizes t.progress _ _ c.ask.new.self.noted c.size_of-size.result c.requires.1 c.ask.ensures.asked c.size_of-size.ensures)
