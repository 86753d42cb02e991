-- `worklist::Worklist::stacked` meets its contract. The invariant: the blocks from index i on stand on it, the lowest of these on top.
use Rattle.std.proofs.Common.{◌≡◌, drop}
use Rattle.worklist.specs.Entries.{entries, Kept}
use Rattle.worklist.proofs.Worklist.stacked.Given as goal

abbrev pub invariant-loop-i : goal.invariant-loop-i
invariant-loop-i l = (entries l.list ≡ drop l.i l.order) × Kept l.list
