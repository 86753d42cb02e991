-- `writing::run::put_parts` meets its contract.
use Rattle.writing.specs.Parts.{part_at}
use Rattle.writing.specs.Places.{from_to}
use Rattle.writing.specs.Put.{Put}
use Rattle.writing.proofs.run.put_parts.Given as goal

abbrev pub invariant-loop-i : goal.invariant-loop-i
invariant-loop-i l = Put l.initial.out (from_to (part_at l.plan.file.bytes.now l.plan.numbers.now l.plan.slots.now l.kind l.part) l.from l.i) l.out
