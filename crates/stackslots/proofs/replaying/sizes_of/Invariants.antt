-- `stackslots::replaying::sizes_of` meets its contract.
use Rattle.stackslots.specs.SlotSizes.{sizes_over}
use mathlib.Core.Path.{◌≡◌}
use Rattle.stackslots.proofs.replaying.sizes_of.Given as goal

abbrev pub invariant-loop-k : goal.invariant-loop-k
invariant-loop-k l = l.sizes ≡ sizes_over l.table l.k l.initial.sizes
