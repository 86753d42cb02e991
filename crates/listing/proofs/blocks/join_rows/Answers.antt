-- `listing::blocks::join_rows` meets its contract.
use borrow.Author.Rules.{rules}
use Prim.Native.Nat.{ℕ}
use mathlib.Core.Path.{refl, ap}
use Rattle.rules.specs.Lists.{NumberSet}
use Rattle.rows.specs.Rows.{rows, rows-zeros}
use Rattle.listing.specs.Tables.{joined-more}
use Rattle.listing.proofs.blocks.join_rows.Goals as goal

pub loop-i-init : goal.loop-i-init
loop-i-init c = (refl, ap (λ (t : ℕ → NumberSet). t 0) (rows-zeros 8))

pub loop-i-preserved : goal.loop-i-preserved
loop-i-preserved c = (search rules, joined-more c.loop-i.i (rows c.args.from.now) (rows c.loop-i.all) _ c.loop-i.invariant.1 c.join.ensures)
