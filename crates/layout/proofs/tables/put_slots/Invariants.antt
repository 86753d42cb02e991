-- `layout::tables::put_slots` meets its contract.
use Rattle.std.specs.Prelude.{map, take}
use Rattle.rules.specs.declared.Record.TheVariants as record'
use Rattle.writing.specs.Put.{Put}
use Rattle.layout.proofs.tables.put_slots.Given as goal

abbrev pub invariant-loop-size : goal.invariant-loop-size
invariant-loop-size l = Put l.initial.out (map record'.Slot (take l.size-index l.sizes)) l.out
