-- The table before step i.
use Rattle.std.proofs.Common.{◌≡◌}
use Rattle.holders.specs.Table.{holders_after}
use Rattle.holders.proofs.table.replay.Given as goal

abbrev pub invariant-loop-i : goal.invariant-loop-i
invariant-loop-i l = l.table ≡ holders_after l.file.bytes.now l.steps l.places l.i l.fn.table
