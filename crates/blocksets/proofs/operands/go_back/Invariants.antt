-- `blocksets::operands::go_back` meets its contract.
use Prim.Native.Nat.{◌≤◌}
use mathlib.Core.Path.{◌≡◌}
use Rattle.rows.specs.Rows.{rows}
use Rattle.rules.specs.File.{function_in}
use Rattle.blocksets.proofs.Back.{back_to}
use Rattle.blocksets.specs.Operands.{live_before}
use Rattle.blocksets.proofs.operands.go_back.Given as goal

abbrev pub invariant-loop-i : goal.invariant-loop-i
invariant-loop-i l = (l.start ≤ l.i) × (rows l.t ≡ back_to (live_before (function_in l.file.bytes.now)) l.file.bytes.now l.row l.end (rows l.initial.t) l.i)
