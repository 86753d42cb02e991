-- `records::file::File::words_from` meets its contract.
use Rattle.records.specs.Places.{record-there, record-beyond}
use Rattle.rules.specs.Records.{encode}
use mathlib.Core.Path.{sym, ap, ◌∙◌}
use borrow.Author.Rules.{rules}
use Rattle.records.proofs.file.File.words_from.Goals as goal

pub returns-then-k-record_count : goal.returns-then-k-record_count
returns-then-k-record_count c = c.words_at.ensures ∙ ap encode (sym (record-there c.args.self.bytes.now c.args.k (search rules)))

pub returns-else-k-record_count : goal.returns-else-k-record_count
returns-else-k-record_count c = c.words.ensures ∙ ap encode (sym (record-beyond c.args.self.bytes.now c.args.k (search rules)))
