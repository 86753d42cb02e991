-- `writing_instructions::entries::put_entries` meets its contract.
use borrow.Author.Rules.{rules}
use native.Mathlib.Omega.{arith}
use Rattle.rules.specs.File.{function_in}
use Rattle.rules.specs.Graph.{size_of}
use Rattle.rows.specs.Rows.{rows, size_none, empty-size}
use Rattle.writing.specs.Parts.{slot_in}
use Rattle.writing.specs.Put.{put_as, put_start}
use Rattle.writing_instructions.specs.Entries.{entry_at, entries-passed}
use Rattle.writing_instructions.proofs.entries.put_entries.Goals as goal

pub returns-else-not-is_empty : goal.returns-else-not-is_empty
returns-else-not-is_empty c =
    let set = rows c.args.lists.rows.now c.args.i in
    let none = empty-size set c.is_empty.ensures (search rules) in
    put_as (entries-passed (size_of (function_in c.args.homes.file.bytes.now)) (slot_in c.args.homes.slots.now) set 0 0 c.args.lists.values (omega arith) (omega arith) (λ u _ l. size_none set none u (omega (arith, c.args.lists.few))))
    (put_start (entry_at (size_of (function_in c.args.homes.file.bytes.now)) (slot_in c.args.homes.slots.now) set) 0 c.args.out.now (search rules))
