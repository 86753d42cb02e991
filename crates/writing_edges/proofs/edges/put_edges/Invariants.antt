-- `writing_edges::edges::put_edges` meets its contract.
use Prim.Native.Nat.{◌-◌, ◌≤◌, ◌<◌}
use mathlib.Core.Path.{◌≡◌}
use Rattle.rules.specs.Records.{kind, record_at}
use Rattle.writing.specs.Places.{from_to}
use Rattle.writing.specs.Put.{Put}
use Rattle.writing_edges.specs.Edges.{edge_part_at}
use Rattle.writing_edges.proofs.edges.put_edges.Given as goal

abbrev pub invariant-loop-i : goal.invariant-loop-i
invariant-loop-i l = record { written : Put l.initial.out (from_to (edge_part_at l.plan.file.bytes.now l.plan.numbers.now l.plan.slots.now l.part l.end) l.from l.i) l.out; low : l.from ≤ l.i; high : l.i ≤ l.end; starts : l.i < l.end → kind (record_at l.plan.file.bytes.now l.i) ≡ 7 }

abbrev pub decreases-loop-i : goal.decreases-loop-i
decreases-loop-i l = l.end - l.i
