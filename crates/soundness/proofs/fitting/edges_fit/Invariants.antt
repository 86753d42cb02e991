-- `soundness::fitting::edges_fit` meets its contract.
use Rattle.soundness.proofs.EdgePlaces.{fitting_from}
use Rattle.soundness.specs.Fitting.{fitting}
use Rattle.rules.specs.Records.{records}
use Rattle.rules.specs.File.{function_in}
use lib.ListN.{get_or}
use mathlib.Core.Path.{◌≡◌}
use Rattle.soundness.proofs.fitting.edges_fit.Given as goal

abbrev pub invariant-loop-b : goal.invariant-loop-b
invariant-loop-b l = (fitting_from l.blocks.file.bytes.now (get_or l.blocks.places.now l.b 0) ≡ fitting (function_in l.blocks.file.bytes.now) (records l.blocks.file.bytes.now))
