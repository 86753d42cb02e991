-- `soundness::fitting::argument_fits` meets its contract.
use Rattle.soundness.proofs.FittingCases.{fits_word, fits-value}
use Rattle.rules.specs.File.{function_in}
use mathlib.Core.Path.{sym, ap, ap₂, ◌∙◌}
use mathlib.Core.Bool.{not}
use lib.Dec.{eqb}
use borrow.Author.Tests.{ne_eqb}
use Rattle.soundness.proofs.fitting.argument_fits.Goals as goal

pub returns-then-a-ne0 : goal.returns-then-a-ne0
returns-then-a-ne0 c =
    let A = c.args in
    ap not (ne_eqb A.a.second 0 c.if-a-ne0.true) ∙ sym (fits_word (function_in A.file.bytes.now) A.a A.p.second c.if-a-ne0.true)

pub returns-else-a-ne0 : goal.returns-else-a-ne0
returns-else-a-ne0 c =
    let A = c.args in
    ap₂ eqb c.size_of.ensures c.size_of-else-a-ne0.ensures ∙ sym (fits-value (function_in A.file.bytes.now) A.a A.p.second c.if-a-ne0.false)
