-- `rows::next_in` meets its contract.
use Rattle.rows.specs.Rows.{rows, row_values}
use mathlib.Core.Bool.{false}
use mathlib.Core.Path.{◌≡◌}
use Prim.Native.Nat.{ℕ, ◌-◌, ◌≤◌, ◌<◌}
use Rattle.rows.proofs.next_in.Given as goal

abbrev pub invariant-loop-at : goal.invariant-loop-at
invariant-loop-at l = (l.v ≤ l.at) × (l.at ≤ row_values) × ((u : ℕ) → l.v ≤ u → u < l.at → rows l.t l.row u ≡ false)

abbrev pub decreases-loop-at : goal.decreases-loop-at
decreases-loop-at l = row_values - l.at
