-- `checks::counts::count_kinds` meets its contract.
use Rattle.checks.proofs.Counting.{Counted}
use Rattle.checks.proofs.counts.count_kinds.Given as goal

abbrev pub invariant-loop-i : goal.invariant-loop-i
invariant-loop-i l = Counted l.s 1 l.values l.i × Counted l.s 2 l.blocks l.i × Counted l.s 4 l.instructions l.i × Counted l.s 7 l.edges l.i
