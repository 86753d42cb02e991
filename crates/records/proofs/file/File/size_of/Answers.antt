-- `records::file::File::size_of` meets its contract.
use Rattle.records.specs.Values.{size_in, size-in-place}
use mathlib.Core.Bool.{true, false}
use mathlib.Core.Path.{sym, ap, subst, ◌∙◌}
use lib.Dec.{T}
use borrow.Author.Tests.{eq-eqb, ne_eqb}
use Rattle.records.proofs.file.File.size_of.Goals as goal

pub returns-then-w-eq-VALUE : goal.returns-then-w-eq-VALUE
returns-then-w-eq-VALUE c =
    let w = c.words_from-w.result in
    sym (ap (λ b. elim b [ true ↦ w.second | false ↦ 0 ]) (eq-eqb w.kind 1 c.if-w-eq-VALUE.true))
    ∙ ap size_in c.words_from-w.ensures ∙ sym (size-in-place c.args.self.bytes.now (subst (λ b. T b) (sym c.args.self.in_order) tt) c.args.v)

pub returns-else-w-eq-VALUE : goal.returns-else-w-eq-VALUE
returns-else-w-eq-VALUE c =
    let w = c.words_from-w.result in
    sym (ap (λ b. elim b [ true ↦ w.second | false ↦ 0 ]) (ne_eqb w.kind 1 c.if-w-eq-VALUE.false))
    ∙ ap size_in c.words_from-w.ensures ∙ sym (size-in-place c.args.self.bytes.now (subst (λ b. T b) (sym c.args.self.in_order) tt) c.args.v)
