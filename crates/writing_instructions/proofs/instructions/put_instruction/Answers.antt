-- `writing_instructions::instructions::put_instruction` meets its contract.
use mathlib.Core.List.{◌++◌}
use mathlib.Core.Path.{refl}
use native.Mathlib.Omega.{arith}
use Prim.Native.Nat.{◌+◌}
use Rattle.rows.specs.Rows.{rows}
use Rattle.writing.specs.Put.{put_then, first_fits, next_fits}
use Rattle.writing.specs.declared.parts.Part.TheVariants as part
use Rattle.writing_instructions.specs.Narrowed.{loads_in, itself_in, instruction_in}
use Rattle.writing_instructions.specs.Runs.{parts_run}
use Rattle.writing_instructions.proofs.instructions.put_instruction.Goals as goal

pub put_loads-requires : goal.put_loads-requires
unfolding instruction_in
put_loads-requires c =
    let two = first_fits c.args.out.now (loads_in c.args.plan.file.bytes.now c.args.plan.numbers.now c.args.plan.slots.now (c.args.at.place + 1) c.args.at.results c.args.at.exits c.args.at.end ++ itself_in c.args.plan.file.bytes.now c.args.plan.numbers.now c.args.plan.slots.now (rows c.args.lists.rows.now c.args.i) c.args.lists.values c.args.at.place c.args.at.results c.args.at.exits c.args.at.end) (parts_run c.args.plan.file.bytes.now c.args.plan.numbers.now c.args.plan.slots.now 5 part.Store c.args.at.results c.args.at.exits) c.requires.3 in
    (c.requires.0, c.requires.1, first_fits c.args.out.now (loads_in c.args.plan.file.bytes.now c.args.plan.numbers.now c.args.plan.slots.now (c.args.at.place + 1) c.args.at.results c.args.at.exits c.args.at.end) (itself_in c.args.plan.file.bytes.now c.args.plan.numbers.now c.args.plan.slots.now (rows c.args.lists.rows.now c.args.i) c.args.lists.values c.args.at.place c.args.at.results c.args.at.exits c.args.at.end) two)

pub put_itself-requires : goal.put_itself-requires
unfolding instruction_in
put_itself-requires c =
    let two = first_fits c.args.out.now (loads_in c.args.plan.file.bytes.now c.args.plan.numbers.now c.args.plan.slots.now (c.args.at.place + 1) c.args.at.results c.args.at.exits c.args.at.end ++ itself_in c.args.plan.file.bytes.now c.args.plan.numbers.now c.args.plan.slots.now (rows c.args.lists.rows.now c.args.i) c.args.lists.values c.args.at.place c.args.at.results c.args.at.exits c.args.at.end) (parts_run c.args.plan.file.bytes.now c.args.plan.numbers.now c.args.plan.slots.now 5 part.Store c.args.at.results c.args.at.exits) c.requires.3 in
    (c.requires.0, c.requires.1, c.requires.2, next_fits c.put_loads.ensures (itself_in c.args.plan.file.bytes.now c.args.plan.numbers.now c.args.plan.slots.now (rows c.args.lists.rows.now c.args.i) c.args.lists.values c.args.at.place c.args.at.results c.args.at.exits c.args.at.end) two)

pub put_parts-requires : goal.put_parts-requires
unfolding instruction_in
put_parts-requires c =
    let two = first_fits c.args.out.now (loads_in c.args.plan.file.bytes.now c.args.plan.numbers.now c.args.plan.slots.now (c.args.at.place + 1) c.args.at.results c.args.at.exits c.args.at.end ++ itself_in c.args.plan.file.bytes.now c.args.plan.numbers.now c.args.plan.slots.now (rows c.args.lists.rows.now c.args.i) c.args.lists.values c.args.at.place c.args.at.results c.args.at.exits c.args.at.end) (parts_run c.args.plan.file.bytes.now c.args.plan.numbers.now c.args.plan.slots.now 5 part.Store c.args.at.results c.args.at.exits) c.requires.3 in
    (c.requires.0.1, omega (arith, c.requires.0, c.requires.1), next_fits (put_then c.put_loads.ensures two c.put_itself.ensures) (parts_run c.args.plan.file.bytes.now c.args.plan.numbers.now c.args.plan.slots.now 5 part.Store c.args.at.results c.args.at.exits) c.requires.3, refl)

pub returns : goal.returns
unfolding instruction_in
returns c =
    let two = first_fits c.args.out.now (loads_in c.args.plan.file.bytes.now c.args.plan.numbers.now c.args.plan.slots.now (c.args.at.place + 1) c.args.at.results c.args.at.exits c.args.at.end ++ itself_in c.args.plan.file.bytes.now c.args.plan.numbers.now c.args.plan.slots.now (rows c.args.lists.rows.now c.args.i) c.args.lists.values c.args.at.place c.args.at.results c.args.at.exits c.args.at.end) (parts_run c.args.plan.file.bytes.now c.args.plan.numbers.now c.args.plan.slots.now 5 part.Store c.args.at.results c.args.at.exits) c.requires.3 in
    put_then (put_then c.put_loads.ensures two c.put_itself.ensures) c.requires.3 c.put_parts.ensures
