-- `checks::order::malformed` meets its contract.
use Prim.Native.Nat.{◌≤◌, ◌<◌}
use mathlib.Core.Path.{◌≡◌}
use Rattle.checks.proofs.Forming.{formed}
use Rattle.checks.proofs.order.malformed.Given as goal

abbrev pub invariant-loop-i : goal.invariant-loop-i
invariant-loop-i l = (l.p < 16) × (l.number ≤ l.i) × (formed l.s l.p l.number l.i ≡ formed l.s 0 0 0)
