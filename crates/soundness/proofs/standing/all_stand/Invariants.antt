-- `soundness::standing::all_stand` meets its contract.
use Rattle.soundness.specs.Standing.{standing}
use Rattle.checks.specs.Definitions.{noted_all}
use Rattle.checks.specs.Numbers.{fit}
use Rattle.records.specs.Places.{rest}
use Rattle.rules.specs.Records.{records}
use Rattle.rules.specs.Lists.{all}
use lib.ListN.{get_or}
use mathlib.Core.Path.{◌≡◌}
use mathlib.Core.Bool.{◌&&◌}
use Prim.Native.Nat.{ℕ, ◌≤◌}
use Rattle.soundness.proofs.standing.all_stand.Given as goal

abbrev pub invariant-loop-i : goal.invariant-loop-i
invariant-loop-i l = ((v : ℕ) → get_or l.counts v 0 ≤ l.i)
    × (noted_all l.counts (rest l.file.bytes.now l.i) ≡ noted_all l.initial.counts (records l.file.bytes.now))
    × ((l.in_file && all (fit l.values l.blocks) (rest l.file.bytes.now l.i)) ≡ all (fit l.values l.blocks) (records l.file.bytes.now))
    × ((l.stands && standing l.flags (rest l.file.bytes.now l.i)) ≡ standing 2 (records l.file.bytes.now))
