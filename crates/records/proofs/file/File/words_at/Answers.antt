-- `records::file::File::words_at` meets its contract.
use Rattle.records.specs.InTable.{words-at}
use lib.Dec.{T}
use mathlib.Core.Path.{sym, subst, ◌∙◌}
use Rattle.records.proofs.file.File.words_at.Goals as goal

pub returns : goal.returns
returns c =
    c.four_words.ensures
    ∙ sym (words-at c.args.self.bytes.now (subst T (sym c.args.self.in_order) tt) c.args.k c.requires)
