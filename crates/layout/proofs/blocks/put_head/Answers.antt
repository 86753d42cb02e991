-- `layout::blocks::put_head` meets its contract.
use mathlib.Core.List.{List, [], ◌∷◌, ◌++◌}
use Prim.Native.Nat.{◌+◌}
use Rattle.rules.specs.Records.{record_at}
use Rattle.rules.specs.declared.Record.{Record}
use Rattle.writing.specs.Put.{put_then, first_fits}
use Rattle.writing.specs.declared.parts.Part.TheVariants as part
use Rattle.writing_instructions.specs.Runs.{parts_run}
use Rattle.layout.proofs.blocks.put_head.Goals as goal

pub returns : goal.returns
returns c =
    let front : List Record = (record_at c.args.plan.file.bytes.now c.args.p ∷ []) ++ parts_run c.args.plan.file.bytes.now c.args.plan.numbers.now c.args.plan.slots.now 3 part.Parameter (c.args.p + 1) c.args.end in
    let two = first_fits c.args.out.now front (parts_run c.args.plan.file.bytes.now c.args.plan.numbers.now c.args.plan.slots.now 3 part.Store (c.args.p + 1) c.args.end) c.requires.2 in
    put_then (put_then c.put_copy.ensures two c.put_parts.ensures) c.requires.2 c.put_parts-2.ensures
