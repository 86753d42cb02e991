-- `services::list::list_row` meets its contract.
use lib.ListN.{length}
use Rattle.services.proofs.ListAnswers.{row-short, row_fits}
use Rattle.listing.specs.Ascending.{size-ascending, ascending-small}
use Rattle.rows.specs.Rows.{rows}
use native.Mathlib.Omega.{arith}
use mathlib.Core.Path.{refl, ◌∙◌}
use Rattle.services.proofs.list.list_row.Goals as goal

pub overflow_cast-result : goal.overflow_cast-result
overflow_cast-result c =
    let set = rows c.args.lists.now c.args.i in
    omega (arith, c.count-needed.ensures, size-ascending set, ascending-small set)

pub returns-then-out-needed : goal.returns-then-out-needed
returns-then-out-needed c =
    let set = rows c.args.lists.now c.args.i in
    let counted = c.count-needed.ensures ∙ size-ascending set in
    let short = row-short set (length c.args.out.now) (omega (arith, counted, c.if-out-needed.true)) c.count-needed.result counted in
    (short.0, c.requires.1 ∙ short.1)

pub list_numbers-requires : goal.list_numbers-requires
list_numbers-requires c = (c.requires.0, omega (arith, c.count-needed.ensures, size-ascending (rows c.args.lists.now c.args.i), c.if-out-needed.false))

pub overflow_cast-result-2 : goal.overflow_cast-result-2
overflow_cast-result-2 c = omega (arith, c.list_numbers.ensures.0, ascending-small (rows c.args.lists.now c.args.i))

pub returns : goal.returns
returns c =
    let set = rows c.args.lists.now c.args.i in
    let counted = c.count-needed.ensures ∙ size-ascending set in
    let fits = row_fits set (length c.args.out.now) (omega (arith, counted, c.if-out-needed.false)) c.list_numbers.result c.list_numbers.ensures.0 c.args.out.now refl c.requires.1 in
    (fits.0, c.list_numbers.ensures.1 ∙ fits.1)
