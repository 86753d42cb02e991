-- `rows::copy_without` meets its contract.
use borrow.Author.Rules.{rules}
use mathlib.Core.Path.{ap₂}
use mathlib.Core.Bool.{not, ◌&&◌}
use Rattle.rows.proofs.Filling.{rows-written, word-minus}
use Rattle.rows.specs.Rows.{rows, minus, rows-far}
use Rattle.rows.proofs.copy_without.Goals as goal

pub returns : goal.returns
returns c =
    let A = c.args in
    rows-written _ A.row A.to.now _ (minus (rows A.from.now A.other) (rows A.less.now A.third)) c.write_row.ensures
    (λ k x y l made was i m. search (rules, word-minus))
    (λ v l. ap₂ (λ a b. a && not b) (rows-far A.from.now A.other v l) (rows-far A.less.now A.third v l))
