-- `blocksets::operands::collect_sets` meets its contract.
use Prim.Native.Nat.{◌≤◌}
use mathlib.Core.Path.{◌≡◌}
use Rattle.rules.specs.File.{function_in}
use Rattle.rows.specs.Rows.{rows}
use Rattle.blocksets.specs.Operands.{live_before, with_defined}
use Rattle.blocksets.proofs.Back.{back_to}
use Rattle.blocksets.proofs.operands.collect_sets.Given as goal

abbrev pub invariant-loop-i : goal.invariant-loop-i
invariant-loop-i l = (l.start ≤ l.i)
    × (rows l.uses ≡ back_to (live_before (function_in l.file.bytes.now)) l.file.bytes.now l.row l.end (rows l.initial.uses) l.i) × (rows l.kills ≡ back_to with_defined l.file.bytes.now l.row l.end (rows l.initial.kills) l.i)
