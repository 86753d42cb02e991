-- `listing::runs::run_end` meets its contract.
use Rattle.std.proofs.Common.{◌≡◌, rules, tests}
use Rattle.std.proofs.lemmas.Iterator.{first_from_Range}
use Rattle.rules.specs.Records.{kind, record_at}
use Rattle.listing.proofs.Running.{run-found}
use Rattle.listing.proofs.runs.run_end.Goals as goal

pub returns : goal.returns
returns c =
    let s = c.args.file.bytes.now in
    let k = c.args.kind in
    let found =
    first_from_Range _ _ _ c.find.result (λ i. kind (record_at s i) ≡ k → ⊥) (λ i. kind (record_at s i) ≡ k) c.find.ensures.ran
    (λ x q h. search (rules, tests)) (λ x q h. search (rules, tests)) in
    rw c.unwrap_or.ensures (run-found s k c.args.from c.args.end c.requires.0 c.requires.1 c.find.result found)
