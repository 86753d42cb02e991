-- `layout::blocks::put_block` meets its contract.
use native.Mathlib.Omega.{arith}
use Prim.Native.Nat.{◌+◌}
use mathlib.Core.List.{List, ◌++◌}
use mathlib.Core.Path.{sym, ap, subst, ◌∙◌}
use Rattle.rules.specs.declared.Record.{Record}
use Rattle.graph.specs.Tails.{tail_last-later}
use Rattle.rows.specs.Rows.{rows}
use Rattle.graph.specs.Next.{next_place-bounds}
use Rattle.writing.specs.Places.{from_to}
use Rattle.writing.specs.Put.{Fits, put_as, put_then, fits_as, first_fits, next_fits}
use Rattle.layout.specs.BlockRuns.{number_at, instruction_part_at, landing_part_at, head_run}
use Rattle.layout.specs.Stepped.{InstructionsFrom, instructions-behind, block-by-first, number-next}
use Rattle.layout.proofs.blocks.put_block.Goals as goal

pub put_head-requires : goal.put_head-requires
put_head-requires c =
    let s = c.args.plan.file.bytes.now in
    let front = c.next_place-front.result in
    let there = c.next_place-front.ensures in
    let b1 : List Record = head_run c.args.plan.file.bytes.now c.args.plan.numbers.now c.args.plan.slots.now c.args.p front in
    let b2 : List Record = from_to (instruction_part_at c.args.plan.file.bytes.now c.args.plan.numbers.now c.args.plan.slots.now c.args.lists.values (rows c.args.lists.rows.now) c.args.end) front c.args.end in
    let b3 : List Record = from_to (landing_part_at c.args.plan.file.bytes.now c.args.plan.numbers.now c.args.plan.slots.now c.args.end) front c.args.end in
    let same = block-by-first c.args.plan.file.bytes.now c.args.plan.numbers.now c.args.plan.slots.now c.args.lists.values (rows c.args.lists.rows.now) c.args.p front c.args.end c.requires.5 there in
    let all : Fits c.args.out.now ((b1 ++ b2) ++ b3) = fits_as c.args.out.now same c.requires.4 in
    let two = first_fits c.args.out.now (b1 ++ b2) b3 all in
    let within = next_place-bounds s 4 (c.args.p + 1) c.args.end c.requires.5.ascends c.requires.1 in
    (omega (arith, within.0, there), omega (arith, within.1, there, c.requires.1), first_fits c.args.out.now b1 b2 two)

pub put_instructions-requires : goal.put_instructions-requires
put_instructions-requires c =
    let s = c.args.plan.file.bytes.now in
    let front = c.next_place-front.result in
    let there = c.next_place-front.ensures in
    let b1 : List Record = head_run c.args.plan.file.bytes.now c.args.plan.numbers.now c.args.plan.slots.now c.args.p front in
    let b2 : List Record = from_to (instruction_part_at c.args.plan.file.bytes.now c.args.plan.numbers.now c.args.plan.slots.now c.args.lists.values (rows c.args.lists.rows.now) c.args.end) front c.args.end in
    let b3 : List Record = from_to (landing_part_at c.args.plan.file.bytes.now c.args.plan.numbers.now c.args.plan.slots.now c.args.end) front c.args.end in
    let same = block-by-first c.args.plan.file.bytes.now c.args.plan.numbers.now c.args.plan.slots.now c.args.lists.values (rows c.args.lists.rows.now) c.args.p front c.args.end c.requires.5 there in
    let all : Fits c.args.out.now ((b1 ++ b2) ++ b3) = fits_as c.args.out.now same c.requires.4 in
    let two = first_fits c.args.out.now (b1 ++ b2) b3 all in
    let within = next_place-bounds s 4 (c.args.p + 1) c.args.end c.requires.5.ascends c.requires.1 in
    let number = c.requires.3 ∙ sym (ap (number_at s) there ∙ number-next s (c.args.p + 1) c.args.end c.requires.5.ascends c.requires.1) in
    (omega (arith, within.1, there), c.requires.1, c.requires.2, number, next_fits c.put_head.ensures b2 two, subst (λ n. InstructionsFrom s n c.args.end) (sym there) (instructions-behind s (c.args.p + 1) c.args.end c.requires.5))

pub put_landings-requires : goal.put_landings-requires
put_landings-requires c =
    let s = c.args.plan.file.bytes.now in
    let front = c.next_place-front.result in
    let there = c.next_place-front.ensures in
    let b1 : List Record = head_run c.args.plan.file.bytes.now c.args.plan.numbers.now c.args.plan.slots.now c.args.p front in
    let b2 : List Record = from_to (instruction_part_at c.args.plan.file.bytes.now c.args.plan.numbers.now c.args.plan.slots.now c.args.lists.values (rows c.args.lists.rows.now) c.args.end) front c.args.end in
    let b3 : List Record = from_to (landing_part_at c.args.plan.file.bytes.now c.args.plan.numbers.now c.args.plan.slots.now c.args.end) front c.args.end in
    let same = block-by-first c.args.plan.file.bytes.now c.args.plan.numbers.now c.args.plan.slots.now c.args.lists.values (rows c.args.lists.rows.now) c.args.p front c.args.end c.requires.5 there in
    let all : Fits c.args.out.now ((b1 ++ b2) ++ b3) = fits_as c.args.out.now same c.requires.4 in
    let two = first_fits c.args.out.now (b1 ++ b2) b3 all in
    let within = next_place-bounds s 4 (c.args.p + 1) c.args.end c.requires.5.ascends c.requires.1 in
    (omega (arith, within.1, there), c.requires.1, next_fits (put_then c.put_head.ensures two c.put_instructions.ensures) b3 all, subst (λ n. InstructionsFrom s n c.args.end) (sym there) (instructions-behind s (c.args.p + 1) c.args.end c.requires.5), tail_last-later s (c.args.p + 1) front c.args.end (omega (arith, within.0, there)) c.requires.6)

pub returns : goal.returns
returns c =
    let s = c.args.plan.file.bytes.now in
    let front = c.next_place-front.result in
    let there = c.next_place-front.ensures in
    let b1 : List Record = head_run c.args.plan.file.bytes.now c.args.plan.numbers.now c.args.plan.slots.now c.args.p front in
    let b2 : List Record = from_to (instruction_part_at c.args.plan.file.bytes.now c.args.plan.numbers.now c.args.plan.slots.now c.args.lists.values (rows c.args.lists.rows.now) c.args.end) front c.args.end in
    let b3 : List Record = from_to (landing_part_at c.args.plan.file.bytes.now c.args.plan.numbers.now c.args.plan.slots.now c.args.end) front c.args.end in
    let same = block-by-first c.args.plan.file.bytes.now c.args.plan.numbers.now c.args.plan.slots.now c.args.lists.values (rows c.args.lists.rows.now) c.args.p front c.args.end c.requires.5 there in
    let all : Fits c.args.out.now ((b1 ++ b2) ++ b3) = fits_as c.args.out.now same c.requires.4 in
    let two = first_fits c.args.out.now (b1 ++ b2) b3 all in
    put_as (sym same) (put_then (put_then c.put_head.ensures two c.put_instructions.ensures) all c.put_landings.ensures)
