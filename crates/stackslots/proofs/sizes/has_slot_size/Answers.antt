-- `stackslots::sizes::has_slot_size` meets its contract.
use mathlib.Core.Bool.{not}
use mathlib.Core.Path.{sym, ap, ◌∙◌}
use Rattle.rules.specs.File.{function_in}
use Rattle.rules.specs.Lists.{has, NumberSet}
use Rattle.rules.specs.Records.{slot_sizes}
use Rattle.std.specs.Option.{is_some}
use Rattle.stackslots.proofs.Classes.{class-known}
use Rattle.stackslots.proofs.Sizing.{sized-fine, sized-other}
use Rattle.stackslots.proofs.sizes.has_slot_size.Goals as goal

pub returns-then-is_some : goal.returns-then-is_some
returns-then-is_some c =
    let is = c.is_some.ensures ∙ ap is_some c.new.ensures ∙ class-known c.size_of.result ∙ ap (λ n. has n slot_sizes) c.size_of.ensures in
    c.if-is_some.true ∙ sized-fine (function_in c.args.spilled.file.bytes.now) c.args.v (sym is ∙ c.if-is_some.true)

pub returns-else-is_some : goal.returns-else-is_some
returns-else-is_some c =
    let is = c.is_some.ensures ∙ ap is_some c.new.ensures ∙ class-known c.size_of.result ∙ ap (λ n. has n slot_sizes) c.size_of.ensures in
    let in_row = ap (λ (t : NumberSet). t c.args.v) c.args.spilled.reading.is_row in
    ap not (c.contains.ensures ∙ in_row) ∙ sized-other (function_in c.args.spilled.file.bytes.now) c.args.v (sym is ∙ c.if-is_some.false)
