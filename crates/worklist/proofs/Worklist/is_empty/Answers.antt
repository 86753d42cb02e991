-- `worklist::Worklist::is_empty` meets its contract.
use mathlib.Core.Path.{sym}
use Rattle.worklist.proofs.Places.{empty-entries}
use Rattle.worklist.proofs.Worklist.is_empty.Goals as goal

pub returns : goal.returns
returns c = sym (empty-entries c.args.self)
