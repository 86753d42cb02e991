-- `graph::edges::tail_from` meets its contract.
use Rattle.std.proofs.Common.{◌<◌, ◌≤◌}
use Rattle.rules.specs.Records.{kind, record_at}
use Rattle.graph.proofs.edges.tail_from.Given as goal

abbrev pub invariant-loop-i : goal.invariant-loop-i
invariant-loop-i l = (l.from ≤ l.i) × (l.i < l.end → 7 ≤ kind (record_at l.file.bytes.now l.i))
