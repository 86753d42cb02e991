-- `rows::transfer` meets its contract.
use borrow.Author.Rules.{rules}
use mathlib.Core.Bool.{not, ◌&&◌, ◌||◌}
use Rattle.rows.proofs.Filling.{rows-written, word-union, word-minus}
use Rattle.rows.specs.Rows.{rows, rows-far, by_rule}
use Rattle.rules.specs.Lists.{union}
use Rattle.rows.proofs.transfer.Goals as goal

pub returns : goal.returns
returns c =
    let A = c.args in
    rows-written _ A.row A.ins.now _ (union (rows A.ins.now A.row) (by_rule (rows A.uses.now A.row) (rows A.kills.now A.row) (rows A.outs.now A.row))) c.write_row.ensures
    (λ k x y l made was i m. search (rules, word-union, word-minus))
    (λ v l.
    let was = rows-far A.ins.now A.row v l in
    let uses = rows-far A.uses.now A.row v l in
    let outs = rows-far A.outs.now A.row v l in
    let kills = rows-far A.kills.now A.row v l in
    λ j. was j || (uses j || (outs j && not (kills j))))
