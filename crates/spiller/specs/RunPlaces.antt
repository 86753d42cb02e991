-- The three runs of an instruction's records by the places of their kinds.
use Rattle.std.specs.Prelude.{ℕ, ◌≡◌, refl, List, [], ◌∷◌, ◌++◌, map, length, eqb}
use Rattle.std.proofs.Common.{ap, ap₂, ◌∙◌, append-nil, arith}
use Rattle.rules.specs.File.{Cut, of_kind, edge_of, edges_of}
use Rattle.rules.specs.declared.Record.{Record}
use Rattle.graph.specs.Between.{between}
use Rattle.graph.specs.Sections.{places, sections_at, cut-between}
use Rattle.listing.specs.Parted.{Parted, of_kind-other}
use Rattle.planning_edges.specs.Edges.{edges_between}
use Rattle.planning_edges.specs.ReadBack.{length-places}
use Rattle.planning_edges.specs.Spans.{edge_places, places-parted}

-- where none of a kind stands
pub places-none : (k p : ℕ) (rs : List Record) → of_kind k rs ≡ [] → places (eqb k) p rs ≡ []
places-none k p rs e = empty-by (places (eqb k) p rs) (length-places k p rs ∙ ap length e)
  where
    empty-by : (ps : List ℕ) → length ps ≡ 0 → ps ≡ []
    empty-by [] h = refl
    empty-by (x ∷ ps) h = absurd (omega (arith, h))

-- WHERE EACH KIND STANDS
module _ (s : List ℕ) (start end a b : ℕ) (x : Parted s start end a b) where
  -- arguments before place a,
  pub argument-places : places (eqb 6) start (between s start end) ≡ places (eqb 6) start (between s start a)
  argument-places =
      let middle = x.middle in
      let high = x.high in
      places-parted s (eqb 6) start a end x.low (omega arith) x.in_file
      ∙ ap (λ (ps : List ℕ). places (eqb 6) start (between s start a) ++ ps) (places-none 6 a (between s a end) x.no_arguments)
      ∙ append-nil (places (eqb 6) start (between s start a))

  -- results between a and b,
  pub result-places : places (eqb 5) start (between s start end) ≡ places (eqb 5) a (between s a b)
  result-places =
      let middle = x.middle in
      let high = x.high in
      places-parted s (eqb 5) start a end x.low (omega arith) x.in_file
      ∙ ap₂ (λ (ps qs : List ℕ). ps ++ qs) (places-none 5 start (between s start a) (of_kind-other 5 6 tt (between s start a) x.arguments))
      (places-parted s (eqb 5) a b end x.middle x.high x.in_file
      ∙ ap (λ (ps : List ℕ). places (eqb 5) a (between s a b) ++ ps) (places-none 5 b (between s b end) x.no_results)
      ∙ append-nil (places (eqb 5) a (between s a b)))

  -- and edges behind b
  pub edges-there : edge_places s start end ≡ edge_places s b end
  edges-there =
      let middle = x.middle in
      let high = x.high in
      places-parted s (eqb 7) start a end x.low (omega arith) x.in_file
      ∙ ap₂ (λ (ps qs : List ℕ). ps ++ qs) (places-none 7 start (between s start a) (of_kind-other 7 6 tt (between s start a) x.arguments))
      (places-parted s (eqb 7) a b end x.middle x.high x.in_file
      ∙ ap (λ (ps : List ℕ). ps ++ edge_places s b end) (places-none 7 a (between s a b) (of_kind-other 7 5 tt (between s a b) x.results)))

  pub edges_are : edges_of (between s start end) ≡ edges_between s b end
  edges_are =
      let low = x.low in
      let middle = x.middle in
      let high = x.high in
      ap (λ (c : Cut). map edge_of c.sections) (cut-between s (eqb 7) start end (omega arith) x.in_file)
      ∙ ap (λ (ps : List ℕ). map edge_of (sections_at s end ps)) edges-there
