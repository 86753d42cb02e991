-- `writing_instructions::instructions::put_itself` meets its contract.
use mathlib.Core.List.{List, [], ◌∷◌, ◌++◌}
use Prim.Native.Nat.{◌+◌}
use Rattle.rules.specs.File.{function_in}
use Rattle.rules.specs.Graph.{size_of}
use Rattle.rules.specs.Records.{record_at}
use Rattle.rules.specs.declared.Record.{Record}
use Rattle.rows.specs.Rows.{rows}
use Rattle.writing.specs.Parts.{slot_in}
use Rattle.writing.specs.Put.{put_then, first_fits}
use Rattle.writing_instructions.specs.Entries.{entries_below}
use Rattle.writing_instructions.specs.Narrowed.{operands_in}
use Rattle.writing_instructions.specs.Runs.{exits_run}
use Rattle.writing_instructions.proofs.instructions.put_itself.Goals as goal

pub returns : goal.returns
returns c =
    let front : List Record = (record_at c.args.plan.file.bytes.now c.args.at.place ∷ []) ++ (operands_in c.args.plan.file.bytes.now c.args.plan.numbers.now c.args.plan.slots.now (c.args.at.place + 1) c.args.at.results c.args.at.exits) in
    let exits = (exits_run c.args.plan.file.bytes.now c.args.plan.numbers.now c.args.plan.slots.now c.args.at.exits c.args.at.end) in
    let three = first_fits c.args.out.now (front ++ exits) (entries_below (size_of (function_in c.args.plan.file.bytes.now)) (slot_in c.args.plan.slots.now) (rows c.args.lists.rows.now c.args.i) c.args.lists.values) c.requires.3 in
    put_then (put_then (put_then c.put_copy.ensures (first_fits c.args.out.now front exits three) c.put_operands.ensures) three c.put_exits.ensures) c.requires.3
    (rw c.homes.ensures at c.put_entries.ensures)
