-- `layout::blocks::put_instructions` meets its contract.
use mathlib.Core.Path.{◌≡◌}
use Prim.Native.Nat.{◌-◌, ◌≤◌, ◌<◌}
use Rattle.rules.specs.Records.{kind, record_at}
use Rattle.rows.specs.Rows.{rows}
use Rattle.writing.specs.Places.{from_to}
use Rattle.layout.specs.BlockRuns.{number_at, instruction_part_at}
use Rattle.writing.specs.Put.{Put}
use Rattle.layout.proofs.blocks.put_instructions.Given as goal

abbrev pub invariant-loop-p : goal.invariant-loop-p
invariant-loop-p l = record { written : Put l.initial.out (from_to (instruction_part_at l.plan.file.bytes.now l.plan.numbers.now l.plan.slots.now l.lists.values (rows l.lists.rows.now) l.end) l.from l.p) l.out; low : l.from ≤ l.p; high : l.p ≤ l.end; starts : l.p < l.end → kind (record_at l.plan.file.bytes.now l.p) ≡ 4; counted : l.number ≡ number_at l.plan.file.bytes.now l.p }

abbrev pub decreases-loop-p : goal.decreases-loop-p
decreases-loop-p l = l.end - l.p
