-- `writing::put::Output::put_copy` meets its contract.
use mathlib.Core.Path.{refl}
use Rattle.rules.specs.Records.{record_at}
use Rattle.writing.specs.Put.{put_one}
use Rattle.writing.proofs.put.Output.put_copy.Goals as goal

pub returns : goal.returns
returns c =
    put_one _ _ (record_at c.args.file.bytes.now c.args.i) c.put_words.new.out c.requires.1 refl refl refl (rw c.words_at.ensures at c.put_words.ensures)
