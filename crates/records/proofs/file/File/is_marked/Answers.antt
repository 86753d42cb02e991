-- `records::file::File::is_marked` meets its contract.
use Rattle.records.specs.Values.{mark_in, mark-in-place}
use mathlib.Core.Bool.{true, false}
use mathlib.Core.Path.{sym, ap, subst, ◌∙◌}
use lib.Dec.{T, eqb}
use borrow.Author.Tests.{eq-eqb, ne_eqb}
use Rattle.records.proofs.file.File.is_marked.Goals as goal

pub returns-then-w-eq-VALUE : goal.returns-then-w-eq-VALUE
returns-then-w-eq-VALUE c =
    let w = c.words_from-w.result in
    sym (ap (λ b. elim b [ true ↦ eqb w.third 1 | false ↦ false ]) (eq-eqb w.kind 1 c.if-w-eq-VALUE.true))
    ∙ ap mark_in c.words_from-w.ensures ∙ sym (mark-in-place c.args.self.bytes.now (subst (λ b. T b) (sym c.args.self.in_order) tt) c.args.v)

pub returns-else-w-eq-VALUE : goal.returns-else-w-eq-VALUE
returns-else-w-eq-VALUE c =
    let w = c.words_from-w.result in
    let n = ne_eqb w.kind 1 c.if-w-eq-VALUE.false in
    n ∙ sym (ap (λ b. elim b [ true ↦ eqb w.third 1 | false ↦ false ]) n)
    ∙ ap mark_in c.words_from-w.ensures ∙ sym (mark-in-place c.args.self.bytes.now (subst (λ b. T b) (sym c.args.self.in_order) tt) c.args.v)
