-- `rows::insert` meets its contract.
use mathlib.Core.Bool.{false, ◌||◌}
use mathlib.Core.Path.{refl}
use borrow.Author.Rules.{rules}
use Rattle.rows.specs.Bits.{bit-inserted}
use Rattle.rows.proofs.Filling.{rows-set}
use Rattle.rows.proofs.insert.Goals as goal

pub returns : goal.returns
returns c =
    let A = c.args in
    rows-set (λ e b. (e || false) || b) (λ b. refl) A.t.now A.row A.v _ (search rules) (search rules)
    (λ i _. bit-inserted A.v _ _ c.bit_of.ensures i)
