-- `rows::join` meets its contract.
use borrow.Author.Rules.{rules}
use mathlib.Core.Path.{ap₂}
use mathlib.Core.Bool.{◌||◌}
use Rattle.rows.proofs.Filling.{rows-written, word-union}
use Rattle.rows.specs.Rows.{rows, rows-far}
use Rattle.rules.specs.Lists.{union}
use Rattle.rows.proofs.join.Goals as goal

pub returns : goal.returns
returns c =
    let A = c.args in
    rows-written _ A.row A.to.now _ (union (rows A.to.now A.row) (rows A.from.now A.other)) c.write_row.ensures
    (λ k x y l made was i m. search (rules, word-union))
    (λ v l. ap₂ (λ a b. a || b) (rows-far A.to.now A.row v l) (rows-far A.from.now A.other v l))
