-- `graph::edges::next_edge` meets its contract.
use Rattle.std.proofs.Common.{◌≡◌, ◌+◌, Some, sym, ap, ◌∙◌, arith, rules, tests}
use Rattle.std.proofs.lemmas.Iterator.{first_from_Range}
use Rattle.rules.specs.Records.{kind, record_at}
use Rattle.rules.specs.declared.Words.{Words}
use Rattle.graph.proofs.Looking.{FirstPlace, edge_from-none, edge_from-first}
use Rattle.graph.proofs.edges.next_edge.Goals as goal
use Rattle.graph.proofs.edges.next_edge.Goals.{After-find}

-- what is found is the place of the first edge
found : (c : After-find) → FirstPlace c.args.file.bytes.now c.args.from c.args.end c.find.result
found c =
    first_from_Range _ _ _ c.find.result (λ i. kind (record_at c.args.file.bytes.now i) ≡ 7) (λ i. kind (record_at c.args.file.bytes.now i) ≡ 7 → ⊥)
    c.find.ensures.ran (λ x q h. search (rules, tests)) (λ x q h. search (rules, tests))

pub returns-in_err-at : goal.returns-in_err-at
returns-in_err-at c =
    c.from_residual.ensures
    ∙ sym (edge_from-none _ _ _ c.requires.0 c.requires.1 (rw c.in_err-at.was at (found (goal.at.returns-in_err-at c).After-find)))

pub words_at-requires : goal.words_at-requires
words_at-requires c =
    let at = rw c.in_ok-at.was at (found (goal.at.words_at-requires c).After-find) in
    omega (arith, at.1, c.requires.1)

pub overflow_add-result : goal.overflow_add-result
overflow_add-result c =
    let at = rw c.in_ok-at.was at (found (goal.at.overflow_add-result c).After-find) in
    omega (arith, at.1, c.ranges.end.fits)

pub returns : goal.returns
returns c =
    let at = rw c.in_ok-at.was at (found (goal.at.returns c).After-find) in
    ap (λ (w : Words). Some (record { target = w.second; behind = c.in_ok-at.at + 1 })) c.words_at.ensures
    ∙ sym (edge_from-first _ _ _ _ c.requires.1 at)
