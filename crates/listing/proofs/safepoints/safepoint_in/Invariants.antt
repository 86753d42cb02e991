-- `listing::safepoints::safepoint_in` meets its contract.
use mathlib.Core.Path.{◌≡◌}
use Rattle.listing.specs.Stepping.{instructions_from}
use Rattle.listing.specs.HasList.{is_safepoint_at}
use Rattle.listing.proofs.safepoints.safepoint_in.Given as goal

abbrev pub invariant-loop-p : goal.invariant-loop-p
invariant-loop-p l = (is_safepoint_at (instructions_from l.file.bytes.now l.p l.end) l.left ≡ is_safepoint_at (instructions_from l.file.bytes.now l.start l.end) l.k)
