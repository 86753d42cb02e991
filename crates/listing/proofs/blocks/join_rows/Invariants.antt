-- `listing::blocks::join_rows` meets its contract.
use mathlib.Core.Path.{◌≡◌}
use lib.ListN.{length}
use Rattle.rows.specs.Rows.{rows}
use Rattle.listing.specs.Listed.{together}
use Rattle.listing.proofs.blocks.join_rows.Given as goal

abbrev pub invariant-loop-i : goal.invariant-loop-i
invariant-loop-i l = (length l.all ≡ 8) × (rows l.all 0 ≡ together l.i (rows l.from))
