-- `planning::operands::is_in` meets its contract.
use Rattle.rows.specs.Rows.{rows-far, row_values}
use Rattle.std.proofs.lemmas.Bool.{le-ltb}
use Prim.Native.Nat.{◌≤◌}
use native.Mathlib.Omega.{arith}
use mathlib.Core.Path.{sym, ◌∙◌}
use Rattle.planning.proofs.operands.is_in.Goals as goal

pub returns-else-i-lt-LARGEST_VALUES : goal.returns-else-i-lt-LARGEST_VALUES
returns-else-i-lt-LARGEST_VALUES c =
    let far : row_values ≤ c.args.v = omega (arith, c.if-i-lt-LARGEST_VALUES.false) in
    le-ltb c.args.v row_values far ∙ sym (rows-far c.args.t.now 0 c.args.v far)
