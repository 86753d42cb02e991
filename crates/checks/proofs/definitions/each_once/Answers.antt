-- `checks::definitions::each_once` meets its contract.
use Rattle.std.proofs.Common.{rules, tests, eqb, take, ◌∙◌}
use Rattle.std.proofs.lemmas.Iterator.{YieldsList-from_slice}
use Rattle.std.proofs.lemmas.Iterator.Search.{all_from_yields_List}
use Rattle.checks.proofs.Upward.{all-by-place}
use Rattle.checks.proofs.definitions.each_once.Goals as goal

pub returns : goal.returns
returns c =
    let t = c.args.counts.now in
    let n = c.args.values in
    all_from_yields_List (λ x. eqb x 1) _ _ _ c.all.ensures.ran (YieldsList-from_slice (take n t) cc) (λ x b q k. search (rules, tests))
    ∙ all-by-place (λ x. eqb x 1) t n c.requires
