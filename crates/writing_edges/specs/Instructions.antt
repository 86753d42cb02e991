-- The parts of an instruction by place: its loads, its operands and its edges, as the runs over its records write them.
use Rattle.std.specs.Prelude.{ℕ, ◌≤◌, ◌≡◌, refl, eqb}
use Rattle.std.proofs.Common.{ap, ◌∙◌}
use Rattle.std.proofs.Math.Path.{ap₂}
use mathlib.Core.List.{List, [], ◌∷◌, map}
use Rattle.rules.specs.Lists.{zip_with, concat_zip}
use Rattle.rules.specs.Tree.{Edge}
use Rattle.rules.specs.Records.{record_count}
use Rattle.rules.specs.File.{Cut, named, edge_of, edges_of, item_records, function_in}
use Rattle.rules.specs.Graph.{size_of}
use Rattle.rules.specs.Plan.{EdgePlan}
use Rattle.rules.specs.Rewriting.{operand, store_items, load_items}
use Rattle.rules.specs.declared.Record.TheVariants as record'
use Rattle.graph.specs.Between.{between}
use Rattle.graph.specs.Sections.{first_or, cut-between}
use Rattle.numbering.specs.Beside.{places_between, mades_between, edge_plan_at, edge_plans_at}
use Rattle.writing_edges.specs.declared.edges.EdgePart.{EdgePart}
use Rattle.writing.specs.declared.parts.Part.TheVariants as part
use Rattle.writing.specs.Parts.{slot_in, items_records, part_records, part_at}
use Rattle.writing.specs.Places.{from_to}
use Rattle.writing_edges.specs.Zips.{concat_map-concat_zip, map-zip_with, map-concat}
use Rattle.writing_edges.specs.ByPlace.{beside_at, zip-by-place, each-by-place, sections-by-place}
use Rattle.writing_edges.specs.Edges.{edge_records_of, edge_part, edge_part_at}

plans-beside : (s numbers : List ℕ) (q : ℕ) (ps : List ℕ) → edge_plans_at s numbers q ps ≡ beside_at (edge_plan_at s numbers) q ps
plans-beside s numbers q [] = refl
plans-beside s numbers q (p ∷ ps) = ap (λ (t : List EdgePlan). edge_plan_at s numbers p (first_or q ps) ∷ t) (plans-beside s numbers q ps)

module _ (s numbers slots : List ℕ) (p q : ℕ) (l : p ≤ q) (m : q ≤ record_count s) where
  -- the loads before an instruction for its arguments
  pub loads-by-place :
      items_records (concat_zip (load_items (size_of (function_in s)) (slot_in slots)) (named 6 (between s p q)) (mades_between s numbers 6 p q))
      ≡ from_to (part_at s numbers slots 6 part.Load) p q
  unfolding part_records
  loads-by-place =
      concat_map-concat_zip item_records (load_items (size_of (function_in s)) (slot_in slots)) (named 6 (between s p q)) (mades_between s numbers 6 p q)
      ∙ zip-by-place s 6 (λ w. w.second) numbers (λ v n. items_records (load_items (size_of (function_in s)) (slot_in slots) v n)) p q l m

  -- the stores behind the definitions of kind k
  pub stores-by-place :
      (k : ℕ)
      → items_records (concat_zip (store_items (size_of (function_in s)) (slot_in slots)) (named k (between s p q)) (mades_between s numbers k p q))
      ≡ from_to (part_at s numbers slots k part.Store) p q
  unfolding part_records
  stores-by-place k =
      concat_map-concat_zip item_records (store_items (size_of (function_in s)) (slot_in slots)) (named k (between s p q)) (mades_between s numbers k p q)
      ∙ zip-by-place s k (λ w. w.second) numbers (λ v n. items_records (store_items (size_of (function_in s)) (slot_in slots) v n)) p q l m

  -- its arguments with the operands replaced
  pub arguments-by-place :
      map record'.Argument (zip_with operand (named 6 (between s p q)) (mades_between s numbers 6 p q))
      ≡ from_to (part_at s numbers slots 6 part.Argument) p q
  unfolding part_records
  arguments-by-place =
      map-zip_with record'.Argument operand (named 6 (between s p q)) (mades_between s numbers 6 p q)
      ∙ zip-by-place s 6 (λ w. w.second) numbers (λ v n. record'.Argument (operand v n) ∷ []) p q l m

  -- its results and contexts, and a block's parameters, as they are
  pub results-by-place : map record'.Result (named 5 (between s p q)) ≡ from_to (part_at s numbers slots 5 part.Result) p q
  unfolding part_records
  results-by-place = map-concat record'.Result (named 5 (between s p q)) ∙ each-by-place s 5 (λ w. w.second) (λ v. record'.Result v ∷ []) p q l m

  pub contexts-by-place : map record'.Context (named 9 (between s p q)) ≡ from_to (part_at s numbers slots 9 part.Context) p q
  unfolding part_records
  contexts-by-place = map-concat record'.Context (named 9 (between s p q)) ∙ each-by-place s 9 (λ w. w.second) (λ v. record'.Context v ∷ []) p q l m

  pub parameters-by-place : map record'.Parameter (named 3 (between s p q)) ≡ from_to (part_at s numbers slots 3 part.Parameter) p q
  unfolding part_records
  parameters-by-place = map-concat record'.Parameter (named 3 (between s p q)) ∙ each-by-place s 3 (λ w. w.second) (λ v. record'.Parameter v ∷ []) p q l m

  -- what a part has for its edges
  pub edges-by-place :
      (a : EdgePart)
      → concat_zip (edge_records_of s numbers slots a) (edges_of (between s p q)) (edge_plans_at s numbers q (places_between s numbers 7 p q))
      ≡ from_to (edge_part_at s numbers slots a q) p q
  unfolding edge_part_at edge_part
  edges-by-place a =
      ap₂ (λ (es : List Edge) (ns : List EdgePlan). concat_zip (edge_records_of s numbers slots a) es ns)
      (ap (λ (c : Cut). map edge_of c.sections) (cut-between s (eqb 7) p q l m)) (plans-beside s numbers q (places_between s numbers 7 p q))
      ∙ sections-by-place s 7 edge_of (edge_plan_at s numbers) (edge_records_of s numbers slots a) q p l m
