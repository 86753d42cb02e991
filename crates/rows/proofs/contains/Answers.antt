-- `rows::contains` meets its contract.
use mathlib.Core.Path.{sym, ◌∙◌}
use borrow.Author.Rules.{rules}
use Rattle.rows.specs.Rows.{rows-word}
use Rattle.rows.proofs.contains.Goals as goal

pub returns : goal.returns
returns c =
    let A = c.args in
    c.has_bit.ensures ∙ sym (rows-word A.t.now A.row A.v (search rules))
