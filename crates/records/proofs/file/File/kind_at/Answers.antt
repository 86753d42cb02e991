-- `records::file::File::kind_at` meets its contract.
use Rattle.records.specs.InTable.{words-at}
use Rattle.records.specs.Kinds.{kind-small}
use Rattle.rules.specs.declared.Words.{Words}
use Rattle.rules.specs.Records.{kind, record_at}
use native.Mathlib.Omega.{arith}
use lib.Dec.{T, ltb→lt}
use mathlib.Core.Path.{◌≡◌, sym, subst, ap, ◌∙◌}
use Rattle.records.proofs.file.File.kind_at.Goals as goal

pub returns : goal.returns
returns c =
    let s = c.args.self.bytes.now in
    let k = c.args.k in
    let e : c.word_at.result ≡ kind (record_at s k) = c.word_at.ensures ∙ sym (ap (λ (w : Words). w.kind) (words-at s (subst T (sym c.args.self.in_order) tt) k c.requires)) in
    let l = ltb→lt (kind (record_at s k)) 16 (kind-small (record_at s k)) in
    (e, omega arith)
