-- `writing::plan::Homes::named_part` meets its contract.
use mathlib.Core.Path.{refl}
use Rattle.writing.specs.Parts.{part_records}
use Rattle.writing.proofs.plan.Homes.named_part.Goals as goal

pub returns-in-Load : goal.returns-in-Load
unfolding part_records
returns-in-Load c = rw c.in-Load.is c.load_of.ensures

pub returns-in-Store : goal.returns-in-Store
unfolding part_records
returns-in-Store c = rw c.in-Store.is c.store_of.ensures

pub returns-in-Argument : goal.returns-in-Argument
unfolding part_records
returns-in-Argument c = rw (c.in-Argument.is, c.operand_of.ensures) refl

pub returns-in-Result : goal.returns-in-Result
unfolding part_records
returns-in-Result c = rw c.in-Result.is refl

pub returns-in-Context : goal.returns-in-Context
unfolding part_records
returns-in-Context c = rw c.in-Context.is refl

pub returns-in-Parameter : goal.returns-in-Parameter
unfolding part_records
returns-in-Parameter c = rw c.in-Parameter.is refl
