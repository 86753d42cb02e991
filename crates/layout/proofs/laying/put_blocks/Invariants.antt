-- `layout::laying::put_blocks` meets its contract.
use Rattle.rows.specs.Rows.{rows}
use Rattle.writing.specs.Places.{from_to}
use Rattle.layout.specs.Laid.{block_part_at}
use Rattle.writing.specs.Put.{Put}
use Rattle.layout.proofs.laying.put_blocks.Given as goal

abbrev pub invariant-loop-b : goal.invariant-loop-b
invariant-loop-b l = Put l.initial.out (from_to (block_part_at l.laying.plan.file.bytes.now l.laying.numbered.indexed.blocks.places.now l.laying.plan.numbers.now l.laying.plan.slots.now l.laying.lists.values (rows l.laying.lists.rows.now)) 0 l.b) l.out
