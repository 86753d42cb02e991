-- `planning_edges::landings::passes_spilled` meets its contract.
use borrow.Author.Rules.{rules}
use borrow.Author.Tests.{tests}
use Rattle.std.specs.Prelude.{is_some, refl}
use Rattle.std.proofs.Common.{◌∙◌}
use Rattle.std.proofs.lemmas.Iterator.{YieldsList-from_range}
use Rattle.std.proofs.lemmas.Iterator.Search.{any_from_yields_List}
use Rattle.rows.specs.Rows.{rows}
use Rattle.planning.specs.Operands.{among_of, operand_at}
use Rattle.planning_edges.specs.Passing.{passing-some}
use Rattle.planning_edges.proofs.landings.passes_spilled.Goals as goal

pub returns : goal.returns
returns c =
    let s = c.args.spilled.file.bytes.now in
    let row = c.args.spilled.row.now in
    any_from_yields_List (λ place. is_some (among_of (rows row 0) (operand_at s 8 place))) _ _ c.any.result c.any.ensures.ran (YieldsList-from_range c.args.start c.args.end _ refl refl) (λ x b q k. search (rules, tests))
    ∙ passing-some s row c.args.spilled.reading c.args.start c.args.end c.requires.0 c.requires.1
