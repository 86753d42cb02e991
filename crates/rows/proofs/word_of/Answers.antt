-- `rows::word_of` meets its contract.
use mathlib.Core.Path.{sym}
use borrow.Author.Rules.{rules}
use Rattle.rows.specs.Rows.{rows-bit}
use Rattle.rows.proofs.word_of.Goals as goal

pub returns : goal.returns
returns c = let A = c.args in λ i l. sym (rows-bit A.t.now A.row A.k i (search rules) l)
