-- `listing::numbers::list_numbers` meets its contract.
use mathlib.Core.Bool.{true}
use Prim.Native.Nat.{◌<◌, ◌≤◌, ◌-◌, ◌+◌}
use mathlib.Core.Path.{◌≡◌}
use lib.ListN.{length}
use lib.Seq.{sets}
use Rattle.listing.specs.Ascending.{ascending}
use Rattle.rows.specs.Rows.{rows, row_values}
use Rattle.listing.proofs.Noting.{numbers_from}
use Rattle.listing.proofs.numbers.list_numbers.Given as goal

abbrev pub invariant-loop-v : goal.invariant-loop-v
invariant-loop-v l = (l.v ≤ row_values) × (l.v < row_values → rows l.t l.row l.v ≡ true) × (l.found + length (numbers_from (rows l.t l.row) l.v) ≡ length (ascending (rows l.t l.row))) × (sets l.out l.found (numbers_from (rows l.t l.row) l.v) ≡ sets l.initial.out 0 (ascending (rows l.t l.row)))

abbrev pub decreases-loop-v : goal.decreases-loop-v
decreases-loop-v l = row_values - l.v
