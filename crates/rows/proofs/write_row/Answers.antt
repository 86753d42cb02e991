-- `rows::write_row` meets its contract.
use native.Mathlib.Omega.{arith}
use Rattle.rows.proofs.Filling.{written_none, written_more}
use Rattle.rows.proofs.write_row.Goals as goal

pub loop-k-init : goal.loop-k-init
loop-k-init g c = written_none _ _ _

pub loop-k-preserved : goal.loop-k-preserved
loop-k-preserved g c = written_more _ _ _ _ _ _ c.loop-k.invariant (omega arith) c.word.ensures
