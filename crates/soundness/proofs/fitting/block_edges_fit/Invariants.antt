-- `soundness::fitting::block_edges_fit` meets its contract. The invariant: every edge from place i on and before the end fits.
use Rattle.soundness.proofs.EdgePlaces.{fitting_from}
use mathlib.Core.Path.{◌≡◌}
use Prim.Native.Nat.{◌≤◌}
use Rattle.soundness.proofs.fitting.block_edges_fit.Given as goal

abbrev pub invariant-loop-i : goal.invariant-loop-i
invariant-loop-i l = (l.start ≤ l.i) × (fitting_from l.blocks.file.bytes.now l.i ≡ fitting_from l.blocks.file.bytes.now l.end)
