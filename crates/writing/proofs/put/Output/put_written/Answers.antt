-- `writing::put::Output::put_written` meets its contract.
use borrow.Author.Rules.{rules}
use Rattle.writing.specs.Put.{put_none, put_then}
use Rattle.writing.proofs.put.Output.put_written.Goals as goal

pub returns-in-Nothing : goal.returns-in-Nothing
returns-in-Nothing c = rw c.in-Nothing.is (put_none _ (search rules))

pub returns-in-Two : goal.returns-in-Two
returns-in-Two c = rw c.in-Two.is (put_then c.put-in-Two.ensures (rw c.in-Two.is at c.requires) c.put-in-Two-2.ensures)
