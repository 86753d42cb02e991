-- `layout::whole::write_function` meets its contract.
use borrow.Author.Rules.{rules}
use Prim.Native.Nat.{ℕ}
use lib.ListN.{length}
use mathlib.Core.List.{List, ◌++◌}
use mathlib.Core.Path.{◌≡◌, refl, sym, ap}
use native.Mathlib.Omega.{arith}
use Rattle.rules.specs.File.{function_in}
use Rattle.rules.specs.declared.Record.{Record}
use Rattle.rows.specs.Rows.{rows}
use Rattle.writing.specs.Places.{from_to}
use Rattle.writing.specs.Put.{put_as, put_then, put_front, fits_as, fits_front, first_fits, next_fits}
use Rattle.writing.specs.Wrote.{wrote_as}
use Rattle.writing.specs.declared.put.Output.{Output}
use Rattle.layout.specs.BlockRuns.{copy_at}
use Rattle.layout.specs.Laid.{block_part_at}
use Rattle.layout.specs.Sizes.{new_value_at, slot_at, new-values-mapped, slots-mapped, values-inside}
use Rattle.layout.specs.Whole.{function_run, function-written}
use Rattle.layout.proofs.whole.write_function.Goals as goal

pub copy_records-requires : goal.copy_records-requires
unfolding function_run
copy_records-requires c =
    let values : List Record = from_to (copy_at c.args.plan.file.bytes.now) 0 c.args.counts.values in
    let new_values : List Record = from_to (new_value_at c.args.new_sizes.now) 0 c.args.counts.made in
    let slots : List Record = from_to (slot_at c.args.slot_sizes.now) 0 c.args.counts.slots in
    let blocks : List Record = from_to (block_part_at c.args.plan.file.bytes.now c.args.numbered.indexed.blocks.places.now c.args.plan.numbers.now c.args.plan.slots.now c.args.counts.values (rows c.args.lists.now)) 0 c.args.counts.blocks in
    let start : Output = record { bytes = c.args.out; at = 0 } in
    let whole = fits_front start (((values ++ new_values) ++ slots) ++ blocks) refl c.requires.2 in
    let three = first_fits start ((values ++ new_values) ++ slots) blocks whole in
    let two = first_fits start (values ++ new_values) slots three in
    (omega arith, values-inside c.args.plan.file.bytes.now c.requires.0.by_block.tables.given.in_order c.args.counts.values c.requires.0.value_count, first_fits start values new_values two)

pub put_new_values-requires : goal.put_new_values-requires
unfolding function_run
put_new_values-requires c =
    let values : List Record = from_to (copy_at c.args.plan.file.bytes.now) 0 c.args.counts.values in
    let new_values : List Record = from_to (new_value_at c.args.new_sizes.now) 0 c.args.counts.made in
    let slots : List Record = from_to (slot_at c.args.slot_sizes.now) 0 c.args.counts.slots in
    let blocks : List Record = from_to (block_part_at c.args.plan.file.bytes.now c.args.numbered.indexed.blocks.places.now c.args.plan.numbers.now c.args.plan.slots.now c.args.counts.values (rows c.args.lists.now)) 0 c.args.counts.blocks in
    let start : Output = record { bytes = c.args.out; at = 0 } in
    let whole = fits_front start (((values ++ new_values) ++ slots) ++ blocks) refl c.requires.2 in
    let three = first_fits start ((values ++ new_values) ++ slots) blocks whole in
    let two = first_fits start (values ++ new_values) slots three in
    fits_as c.copy_records.new.out (sym (new-values-mapped c.args.new_sizes.now c.args.counts.made c.requires.0.new_room)) (next_fits c.copy_records.ensures new_values two)

pub put_slots-requires : goal.put_slots-requires
unfolding function_run
put_slots-requires c =
    let values : List Record = from_to (copy_at c.args.plan.file.bytes.now) 0 c.args.counts.values in
    let new_values : List Record = from_to (new_value_at c.args.new_sizes.now) 0 c.args.counts.made in
    let slots : List Record = from_to (slot_at c.args.slot_sizes.now) 0 c.args.counts.slots in
    let blocks : List Record = from_to (block_part_at c.args.plan.file.bytes.now c.args.numbered.indexed.blocks.places.now c.args.plan.numbers.now c.args.plan.slots.now c.args.counts.values (rows c.args.lists.now)) 0 c.args.counts.blocks in
    let start : Output = record { bytes = c.args.out; at = 0 } in
    let whole = fits_front start (((values ++ new_values) ++ slots) ++ blocks) refl c.requires.2 in
    let three = first_fits start ((values ++ new_values) ++ slots) blocks whole in
    let two = first_fits start (values ++ new_values) slots three in
    fits_as c.put_new_values.new.out (sym (slots-mapped c.args.slot_sizes.now c.args.counts.slots c.requires.0.slot_room)) (next_fits (put_then c.copy_records.ensures two (put_as (new-values-mapped c.args.new_sizes.now c.args.counts.made c.requires.0.new_room) c.put_new_values.ensures)) slots three)

pub put_blocks-requires : goal.put_blocks-requires
unfolding function_run
put_blocks-requires c =
    let values : List Record = from_to (copy_at c.args.plan.file.bytes.now) 0 c.args.counts.values in
    let new_values : List Record = from_to (new_value_at c.args.new_sizes.now) 0 c.args.counts.made in
    let slots : List Record = from_to (slot_at c.args.slot_sizes.now) 0 c.args.counts.slots in
    let blocks : List Record = from_to (block_part_at c.args.plan.file.bytes.now c.args.numbered.indexed.blocks.places.now c.args.plan.numbers.now c.args.plan.slots.now c.args.counts.values (rows c.args.lists.now)) 0 c.args.counts.blocks in
    let start : Output = record { bytes = c.args.out; at = 0 } in
    let whole = fits_front start (((values ++ new_values) ++ slots) ++ blocks) refl c.requires.2 in
    let three = first_fits start ((values ++ new_values) ++ slots) blocks whole in
    let two = first_fits start (values ++ new_values) slots three in
    let counted : c.args.numbered.indexed.blocks.count ≡ c.args.counts.blocks = omega (arith, c.args.numbered.indexed.blocks.counted, c.requires.0.block_count, ap (λ (t : List ℕ). length (function_in t).blocks) c.requires.1) in
    fits_as c.put_slots.new.out (ap (from_to (block_part_at c.args.plan.file.bytes.now c.args.numbered.indexed.blocks.places.now c.args.plan.numbers.now c.args.plan.slots.now c.args.counts.values (rows c.args.lists.now)) 0) (sym counted)) (next_fits (put_then (put_then c.copy_records.ensures two (put_as (new-values-mapped c.args.new_sizes.now c.args.counts.made c.requires.0.new_room) c.put_new_values.ensures)) three (put_as (slots-mapped c.args.slot_sizes.now c.args.counts.slots c.requires.0.slot_room) c.put_slots.ensures)) blocks whole)

pub returns : goal.returns
unfolding function_run
returns c =
    let values : List Record = from_to (copy_at c.args.plan.file.bytes.now) 0 c.args.counts.values in
    let new_values : List Record = from_to (new_value_at c.args.new_sizes.now) 0 c.args.counts.made in
    let slots : List Record = from_to (slot_at c.args.slot_sizes.now) 0 c.args.counts.slots in
    let blocks : List Record = from_to (block_part_at c.args.plan.file.bytes.now c.args.numbered.indexed.blocks.places.now c.args.plan.numbers.now c.args.plan.slots.now c.args.counts.values (rows c.args.lists.now)) 0 c.args.counts.blocks in
    let start : Output = record { bytes = c.args.out; at = 0 } in
    let whole = fits_front start (((values ++ new_values) ++ slots) ++ blocks) refl c.requires.2 in
    let three = first_fits start ((values ++ new_values) ++ slots) blocks whole in
    let two = first_fits start (values ++ new_values) slots three in
    let counted : c.args.numbered.indexed.blocks.count ≡ c.args.counts.blocks = omega (arith, c.args.numbered.indexed.blocks.counted, c.requires.0.block_count, ap (λ (t : List ℕ). length (function_in t).blocks) c.requires.1) in
    let all = put_then (put_then (put_then c.copy_records.ensures two (put_as (new-values-mapped c.args.new_sizes.now c.args.counts.made c.requires.0.new_room) c.put_new_values.ensures)) three (put_as (slots-mapped c.args.slot_sizes.now c.args.counts.slots c.requires.0.slot_room) c.put_slots.ensures)) whole (put_as (ap (from_to (block_part_at c.args.plan.file.bytes.now c.args.numbered.indexed.blocks.places.now c.args.plan.numbers.now c.args.plan.slots.now c.args.counts.values (rows c.args.lists.now)) 0) counted) c.put_blocks.ensures) in
    let wrote = put_front refl all (search rules) in
    record { wrote = wrote; by_plan = λ pointer plan. wrote_as _ _ (sym (function-written c.requires.0 pointer plan)) wrote }
