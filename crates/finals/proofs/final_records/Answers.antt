-- `finals::final_records` meets its contract.
use mathlib.Core.Path.{refl}
use Rattle.rules.specs.Services.{final_records}
use Rattle.finals.specs.Finals.{answered-chosen}
use Rattle.finals.proofs.final_records.Goals as goal
use Rattle.finals.proofs.final_records.Goals.{then-rewritten, else-rewritten}

pub returns-in_default : goal.returns-in_default
unfolding final_records
returns-in_default c = rw c.in_default.is refl

pub returns : goal.returns
unfolding final_records
returns c =
    let A = c.args in
    let chosen = answered-chosen c.in-Ok.rewritten A.input.now A.output.now in
    elim c.if-rewritten.branch [
      | then-rewritten w ↦ rw (c.in-Ok.is, chosen, w.if-rewritten.true, c.first_records.ensures, w.chosen-is) refl
      | else-rewritten w ↦ rw (c.in-Ok.is, chosen, w.if-rewritten.false, c.first_records.ensures, w.chosen-is) refl
    ]
