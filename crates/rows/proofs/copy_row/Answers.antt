-- `rows::copy_row` meets its contract.
use Rattle.rows.proofs.Filling.{rows-written}
use Rattle.rows.specs.Rows.{rows-far}
use borrow.Author.Rules.{rules}
use Rattle.rows.proofs.copy_row.Goals as goal

pub returns : goal.returns
returns c =
    let A = c.args in
    rows-written _ A.row A.to.now _ _ c.write_row.ensures (λ k x y l made was i m. search rules) (rows-far A.from.now A.other)
