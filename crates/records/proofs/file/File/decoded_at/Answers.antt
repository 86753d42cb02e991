-- `records::file::File::decoded_at` meets its contract.
use Rattle.records.specs.InTable.{read_as, record-at}
use Rattle.rules.specs.declared.Words.{Words}
use lib.Dec.{T}
use mathlib.Core.Path.{sym, subst, ap, ◌∙◌}
use Rattle.records.proofs.file.File.decoded_at.Goals as goal

pub returns : goal.returns
returns c =
    let s = c.args.self.bytes.now in
    let k = c.args.k in
    c.read_words.ensures
    ∙ ap (λ (w : Words). read_as w.kind w.second w.third w.fourth) c.four_words-w.ensures
    ∙ sym (record-at s (subst T (sym c.args.self.in_order) tt) k c.requires)
