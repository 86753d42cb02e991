-- `layout::tables::put_new_values` meets its contract.
use Rattle.std.specs.Prelude.{map, take, false}
use Rattle.rules.specs.declared.Record.TheVariants as record'
use Rattle.writing.specs.Put.{Put}
use Rattle.layout.proofs.tables.put_new_values.Given as goal

abbrev pub invariant-loop-size : goal.invariant-loop-size
invariant-loop-size l = Put l.initial.out (map (λ size. record'.Value size false) (take l.size-index l.sizes)) l.out
