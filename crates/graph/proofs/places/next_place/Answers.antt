-- `graph::places::next_place` meets its contract.
use Prim.Native.Nat.{ℕ}
use borrow.Author.Rules.{rules}
use borrow.Author.Tests.{tests}
use mathlib.Core.Path.{◌≡◌}
use Rattle.rules.specs.Records.{kind, record_at}
use Rattle.std.proofs.lemmas.Iterator.{first_from_Range}
use Rattle.graph.proofs.Finding.{found-or}
use Rattle.graph.proofs.places.next_place.Goals as goal

pub returns : goal.returns
returns c =
    let is : ℕ → Type 0 = λ i. kind (record_at c.args.file.bytes.now i) ≡ c.args.kind in
    let first = first_from_Range _ _ _ _ is (λ i. is i → ⊥) c.find.ensures.ran (λ x q k. search (rules, tests)) (λ x q k. search (rules, tests)) in
    found-or c.args.file.bytes.now c.args.kind c.args.from c.args.end c.requires.0 c.requires.1 c.find.result first c.unwrap_or.ensures
