-- `stackslots::sizes::has_slot_sizes` meets its contract.
use borrow.Author.Rules.{rules}
use native.Mathlib.Omega.{arith}
use mathlib.Core.Path.{ap, refl, ◌∙◌}
use Rattle.std.specs.List.{list_all, range_with_len}
use Rattle.std.proofs.lemmas.Iterator.{YieldsList-from_range}
use Rattle.std.proofs.lemmas.Iterator.Search.{all_from_yields_List}
use Rattle.rules.specs.File.{function_in}
use Rattle.stackslots.specs.Sizes.{slot_sized}
use Rattle.stackslots.proofs.Sizing.{sized-all}
use Rattle.stackslots.proofs.sizes.has_slot_sizes.Goals as goal

pub returns : goal.returns
returns c =
    let f = function_in c.args.spilled.file.bytes.now in
    all_from_yields_List (slot_sized f) _ _ _ c.all.ensures.ran (YieldsList-from_range 0 c.args.values c.args.values refl (omega arith)) (λ x b q k. search rules)
    ∙ ap (λ n. list_all (slot_sized f) (range_with_len 0 n)) c.requires.0 ∙ sized-all f
