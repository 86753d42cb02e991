-- `solving::join_successors` meets its contract. The invariant: the targets of the edges from place i on are joined.
use Rattle.std.proofs.Common.{◌≡◌, ◌≤◌}
use Rattle.rules.specs.File.{named}
use Rattle.rows.specs.Rows.{rows}
use Rattle.graph.specs.Between.{between}
use Rattle.solving.specs.Progress.{joined_into}
use Rattle.solving.proofs.join_successors.Given as goal

abbrev pub invariant-loop-i : goal.invariant-loop-i
invariant-loop-i l = (l.start ≤ l.i) × (rows l.outs ≡ joined_into l.b (rows l.ins) (named 7 (between l.file.bytes.now l.i l.end)) (rows l.initial.outs))
