-- `counting::count_listed` meets its contract.
use mathlib.Core.Path.{sym}
use Rattle.rows.specs.Rows.{rows, empty-size}
use Rattle.counting.proofs.count_listed.Goals as goal

pub returns-then-is_empty : goal.returns-then-is_empty
returns-then-is_empty c =
    let A = c.args in
    sym (empty-size (rows A.lists.now A.i) c.is_empty.ensures c.if-is_empty.true)
