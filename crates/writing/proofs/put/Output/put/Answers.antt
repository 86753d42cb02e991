-- `writing::put::Output::put` meets its contract.
use mathlib.Core.Path.{refl}
use Rattle.writing.specs.Put.{put_one}
use Rattle.writing.proofs.put.Output.put.Goals as goal

pub returns : goal.returns
returns c = put_one _ _ c.args.r c.put_record.new.out c.requires refl refl refl c.put_record.ensures
