-- `acceptance::contexts::marked_between` meets its contract. The invariant: no marked context stands from place i on.
use Prim.Native.Nat.{◌≤◌}
use mathlib.Core.Path.{◌≡◌}
use mathlib.Core.Bool.{false}
use Rattle.acceptance.proofs.MarkedContexts.{marked_between}
use Rattle.acceptance.proofs.contexts.marked_between.Given as goal

abbrev pub invariant-loop-i : goal.invariant-loop-i
invariant-loop-i l = (l.start ≤ l.i) × (marked_between l.file.bytes.now l.i l.end ≡ false)
