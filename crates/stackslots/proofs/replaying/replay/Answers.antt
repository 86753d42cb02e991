-- `stackslots::replaying::replay` meets its contract.
use borrow.Author.Rules.{rules}
use mathlib.Core.Path.{◌≡◌, ap, ◌∙◌}
use lib.ListN.{length, replicate}
use Rattle.rules.specs.Limits.{largest_values}
use Rattle.holders.specs.declared.Holder.{Holder}
use Rattle.holders.specs.Table.{nobody, holders_after}
use Rattle.stackslots.proofs.Replays.{replay-done}
use Rattle.stackslots.proofs.replaying.replay.Goals as goal

pub returns : goal.returns
returns c =
    let blank : c.default-holders.result ≡ nobody = search rules in
    let table = c.replay.ensures ∙ ap (λ (h : Holder). holders_after c.args.file.bytes.now c.args.steps.now c.find_places.new.places (length c.args.steps.now) (replicate largest_values h)) blank in
    replay-done c.requires.0 c.find_places.ensures.found c.replay.new.table table c.args.sizes.now _ c.sizes_of.ensures c.requires.2 _ _ _ (search rules) (search rules) (search rules)
