-- `planner::blocks::last_instruction` meets its contract.
use mathlib.Core.Path.{◌≡◌}
use mathlib.Core.List.{[]}
use Prim.Native.Nat.{◌≤◌}
use Rattle.listing.specs.Stepping.{heads_from}
use Rattle.planner.proofs.blocks.last_instruction.Given as goal

abbrev pub invariant-loop-i : goal.invariant-loop-i
invariant-loop-i l = (l.front ≤ l.i) × (heads_from l.file.bytes.now l.i l.end ≡ [])
