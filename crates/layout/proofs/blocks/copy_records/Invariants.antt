-- `layout::blocks::copy_records` meets its contract.
use Rattle.writing.specs.Places.{from_to}
use Rattle.layout.specs.BlockRuns.{copy_at}
use Rattle.writing.specs.Put.{Put}
use Rattle.layout.proofs.blocks.copy_records.Given as goal

abbrev pub invariant-loop-i : goal.invariant-loop-i
invariant-loop-i l = Put l.initial.out (from_to (copy_at l.file.bytes.now) l.from l.i) l.out
