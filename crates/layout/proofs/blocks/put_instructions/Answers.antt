-- `layout::blocks::put_instructions` meets its contract.
use borrow.Author.Rules.{rules}
use mathlib.Core.Path.{◌≡◌, sym, ap}
use native.Mathlib.Omega.{arith}
use Rattle.rows.specs.Rows.{rows}
use Rattle.writing.specs.Put.{put_start, fits_as, turn_fits}
use Rattle.writing.specs.Steps.{next-place, next-put}
use Rattle.writing_instructions.specs.declared.instructions.InstructionRuns.{InstructionRuns}
use Rattle.writing_instructions.specs.Narrowed.{instruction_in, runs-inside}
use Rattle.layout.specs.BlockRuns.{number-le, number-less, instruction_part_at}
use Rattle.layout.specs.Stepped.{next-number, instruction-turn, instructions-only}
use Rattle.layout.proofs.blocks.put_instructions.Goals as goal

pub loop-p-init : goal.loop-p-init
loop-p-init c =
    record { written = put_start _ _ _ (search rules); low = search rules; high = search rules; starts = c.requires.5.starts; counted = c.requires.3 }

pub instruction_runs-runs-requires : goal.instruction_runs-runs-requires
instruction_runs-runs-requires c =
    let loop = c.loop-p in
    let inside = c.loop-p-test.true in
    (inside, c.requires.1, c.requires.5.in_order loop.p loop.invariant.low inside (loop.invariant.starts inside))

pub put_instruction-requires : goal.put_instruction-requires
put_instruction-requires c =
    let plan = c.args.plan in
    let loop = c.loop-p in
    let inside = c.loop-p-test.true in
    let four = loop.invariant.starts inside in
    let whole = c.requires.5.in_order loop.p loop.invariant.low inside four in
    let runs = c.instruction_runs-runs in
    let g = instruction_part_at plan.file.bytes.now plan.numbers.now plan.slots.now c.args.lists.values (rows c.args.lists.rows.now) c.args.end in
    let turn = instruction-turn plan.file.bytes.now c.args.end c.requires.1 loop.p inside four whole runs.result runs.ensures plan.numbers.now plan.slots.now c.args.lists.values (rows c.args.lists.rows.now) loop.number loop.invariant.counted in
    let stand = runs-inside plan.file.bytes.now loop.p c.args.end inside c.requires.1 whole runs.result runs.ensures in
    let less = number-less plan.file.bytes.now loop.p c.args.end inside four in (
      (stand.0, stand.1, stand.2),
      omega (arith, stand.3, c.requires.1),
      omega (arith, less, loop.invariant.counted, c.requires.2),
      fits_as loop.out (sym turn) (turn_fits g c.args.from loop.p c.args.end loop.invariant.low inside c.requires.4 loop.invariant.written),
    )

pub overflow_add-number : goal.overflow_add-number
overflow_add-number c = omega (arith, c.loop-p.invariant.counted, number-le c.args.plan.file.bytes.now c.loop-p.p, c.loop-p-test.true)

pub loop-p-smaller : goal.loop-p-smaller
loop-p-smaller c =
    let loop = c.loop-p in
    let runs = c.instruction_runs-runs in
    let there = ap (λ (r : InstructionRuns). r.end) runs.ensures in
    let ahead = next-place c.args.plan.file.bytes.now 4 c.args.end c.requires.1 loop.p c.loop-p-test.true runs.result.end there in
    omega (arith, ahead.0, ahead.1)

pub loop-p-preserved : goal.loop-p-preserved
loop-p-preserved c =
    let plan = c.args.plan in
    let loop = c.loop-p in
    let inside = c.loop-p-test.true in
    let four = loop.invariant.starts inside in
    let whole = c.requires.5.in_order loop.p loop.invariant.low inside four in
    let runs = c.instruction_runs-runs in
    let sets = rows c.args.lists.rows.now in
    let g = instruction_part_at plan.file.bytes.now plan.numbers.now plan.slots.now c.args.lists.values sets c.args.end in
    let there = ap (λ (r : InstructionRuns). r.end) runs.ensures in
    let ahead = next-place plan.file.bytes.now 4 c.args.end c.requires.1 loop.p inside runs.result.end there in
    let turn = instruction-turn plan.file.bytes.now c.args.end c.requires.1 loop.p inside four whole runs.result runs.ensures plan.numbers.now plan.slots.now c.args.lists.values sets loop.number loop.invariant.counted in
    record {
      written = next-put plan.file.bytes.now 4 c.args.end c.requires.1 loop.p inside runs.result.end there g (instructions-only plan.file.bytes.now plan.numbers.now plan.slots.now c.args.lists.values sets c.args.end) c.args.from loop.invariant.low (instruction_in plan.file.bytes.now plan.numbers.now plan.slots.now (sets loop.number) c.args.lists.values runs.result.place runs.result.results runs.result.exits runs.result.end) turn c.requires.4 loop.invariant.written c.put_instruction.ensures;
      low = omega (arith, ahead.0, loop.invariant.low);
      high = omega (arith, ahead.1);
      starts = ahead.2;
      counted = next-number plan.file.bytes.now c.args.end c.requires.1 loop.p inside runs.result.end there four loop.number loop.invariant.counted;
    }

pub returns : goal.returns
returns c = let e : c.loop-p.p ≡ c.args.end = omega (arith, c.loop-p.invariant.high) in rw e at c.loop-p.invariant.written
