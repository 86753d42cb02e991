-- `rows::write_row` meets its contract. The invariant: the words before k are written.
use Rattle.rows.specs.Written.{Written}
use Rattle.rows.proofs.write_row.Given as goal

abbrev pub invariant-loop-k : goal.invariant-loop-k
invariant-loop-k g l = Written (goal.F-post g l.word) l.row l.k l.initial.t l.t
