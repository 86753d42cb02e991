-- `soundness::unsound` meets its contract.
use Rattle.soundness.specs.Soundness.{sound-by-records}
use Rattle.soundness.specs.Fitting.{fitting}
use Rattle.soundness.specs.Standing.{standing}
use Rattle.soundness.specs.Tails.{standing-tails}
use Rattle.rules.specs.File.{function_in}
use Rattle.rules.specs.Records.{records}
use mathlib.Core.Path.{◌≡◌, sym, ap, subst, ◌∙◌}
use mathlib.Core.Bool.{true, false, not, ◌&&◌}
use lib.Dec.{T}
use Rattle.soundness.proofs.unsound.Goals as goal

pub edges_fit-requires : goal.edges_fit-requires
edges_fit-requires c =
    let s = c.args.blocks.file.bytes.now in
    let yes : standing 2 (records s) ≡ true = sym c.requires ∙ c.if-not-stands.false in
    standing-tails s c.args.blocks.given.in_order (subst T (sym yes) tt)

pub returns-then-not-stands : goal.returns-then-not-stands
returns-then-not-stands c =
    let s = c.args.blocks.file.bytes.now in
    let no : standing 2 (records s) ≡ false = sym c.requires ∙ c.if-not-stands.true in
    ap not (c.if-not-stands.true ∙ sym (ap (λ b. b && fitting (function_in s) (records s)) no) ∙ sound-by-records (records s) c.args.blocks.given.in_order)

pub returns-else-not-stands : goal.returns-else-not-stands
returns-else-not-stands c =
    let s = c.args.blocks.file.bytes.now in
    let yes : standing 2 (records s) ≡ true = sym c.requires ∙ c.if-not-stands.false in
    ap not (c.edges_fit.ensures ∙ sym (ap (λ b. b && fitting (function_in s) (records s)) yes) ∙ sound-by-records (records s) c.args.blocks.given.in_order)
