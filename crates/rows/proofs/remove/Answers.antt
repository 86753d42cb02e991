-- `rows::remove` meets its contract.
use mathlib.Core.Bool.{false, not, ◌||◌, ◌&&◌}
use mathlib.Core.Path.{refl}
use borrow.Author.Rules.{rules}
use Rattle.rows.specs.Bits.{bit-removed}
use Rattle.rows.proofs.Filling.{rows-set}
use Rattle.rows.proofs.remove.Goals as goal

pub returns : goal.returns
returns c =
    let A = c.args in
    rows-set (λ e b. not (e || false) && b) (λ b. refl) A.t.now A.row A.v _ (search rules) (search rules)
    (bit-removed A.v _ _ c.bit_of.ensures)
