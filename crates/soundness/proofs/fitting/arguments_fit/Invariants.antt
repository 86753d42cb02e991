-- `soundness::fitting::arguments_fit` meets its contract.
use Rattle.soundness.specs.Fitting.{arguments_first, parameters_first}
use Rattle.records.specs.Places.{rest}
use Rattle.rules.specs.Refusals.{fit}
use Rattle.rules.specs.File.{function_in}
use Rattle.rules.specs.Records.{record_count}
use mathlib.Core.Path.{◌≡◌}
use Prim.Native.Nat.{◌≤◌}
use Rattle.soundness.proofs.fitting.arguments_fit.Given as goal

abbrev pub invariant-loop-i : goal.invariant-loop-i
invariant-loop-i l = (l.p ≤ record_count l.file.bytes.now)
    × (fit (function_in l.file.bytes.now) (arguments_first (rest l.file.bytes.now l.i)) (parameters_first (rest l.file.bytes.now l.p)) ≡ fit (function_in l.file.bytes.now) (arguments_first (rest l.file.bytes.now l.at)) (parameters_first (rest l.file.bytes.now l.to)))
