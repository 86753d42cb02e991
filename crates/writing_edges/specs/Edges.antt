-- What is written for an edge: its loads before the instruction, the edge itself, its landing. A tag beside an edge's record
-- says whether it has a landing, and which.
use Prim.Native.Nat.{ℕ, zero, suc, ◌+◌, ◌-◌, ◌<◌, ◌≤◌}
use Rattle.std.specs.Prelude.{◌≡◌, false, get_or, eqb}
use Rattle.std.proofs.Math.Path.{refl, sym, ap, ap₂}
use Rattle.std.proofs.Common.{◌∙◌, add-one, eqb→eq}
use mathlib.Core.List.{List, [], ◌∷◌, ◌++◌, map, append-nil}
use native.Mathlib.Omega.{arith}
use Rattle.std.proofs.Math.Dec.{not_T}
use Rattle.rules.specs.Lists.{concat_map, zip_with, concat_zip}
use Rattle.rules.specs.Tree.{Edge, Item, jump}
use Rattle.rules.specs.Records.{encode, kind, edge_argument, record_at, record_count}
use Rattle.rules.specs.File.{of_kind, edge_of, edge_records, item_records, block_records, function_in}
use Rattle.rules.specs.Graph.{size_of}
use Rattle.rules.specs.Plan.{Made, EdgePlan}
use Rattle.rules.specs.Rewriting.{edge_operand, words_among, rewritten_edge, landing_parameters, landed_argument, edge_load_items, edge_loads, landings}
use Rattle.rules.specs.declared.EdgeArgument.{EdgeArgument}
use Rattle.rules.specs.declared.EdgeArgument.TheVariants as passes
use Rattle.rules.specs.declared.Record.{Record}
use Rattle.rules.specs.declared.Record.TheVariants as record'
use Rattle.rules.specs.declared.Words.{Words}
use Rattle.lists.specs.Maps.{map-concat_map, concat_map-append}
use Rattle.lists.specs.Tests.{eq→eqb, chosen, left_out}
use Rattle.numbering.specs.Beside.{made, mades_between, edge_plan_at}
use Rattle.writing_edges.specs.declared.edges.EdgePart.{EdgePart}
use Rattle.writing_edges.specs.declared.edges.EdgePart.TheVariants as edge
use Rattle.writing.specs.declared.parts.Part.{Part}
use Rattle.writing.specs.declared.parts.Part.TheVariants as part
use Rattle.graph.specs.Next.{next_place}
use Rattle.writing.specs.Parts.{slot_in, items_records, part_records, part_at}
use Rattle.writing.specs.Places.{from_to}
use Rattle.writing.specs.Steps.{Only}
use Rattle.writing_edges.specs.Zips.{map-concat_zip, concat_map-concat_zip, map-zip_with}
use Rattle.writing_edges.specs.ByPlace.{on_kind, section_from, zip-by-place, each-by-place}

-- the words among edge arguments, one argument at a time
words-each : (xs : List EdgeArgument) → words_among xs ≡ concat_map (λ x. words_among (x ∷ [])) xs
words-each [] = refl
words-each (passes.Value _ ∷ xs) = words-each xs
words-each (passes.Returned index ∷ xs) = ap (λ t. passes.Returned index ∷ t) (words-each xs)
words-each (passes.Exception index ∷ xs) = ap (λ t. passes.Exception index ∷ t) (words-each xs)

module _ (s numbers slots : List ℕ) where
  -- the edge whose record stands at place p, and whose arguments end before place q
  abbrev pub edge_at : ℕ → ℕ → Edge
  edge_at p q = edge_of (section_from s p q)

  -- what a part has for an edge with its plan
  unfoldable pub edge_records_of : EdgePart → Edge → EdgePlan → List Record
  edge_records_of edge.Loads e n = items_records (edge_loads (size_of (function_in s)) (slot_in slots) e n)
  edge_records_of edge.Itself e n = edge_records (rewritten_edge e n)
  edge_records_of edge.Landing e n = concat_map block_records (landings (size_of (function_in s)) (slot_in slots) e n)

  -- that of the edge at a place
  unfoldable pub edge_part : EdgePart → ℕ → ℕ → List Record
  edge_part a p q = edge_records_of a (edge_at p q) (edge_plan_at s numbers p q)

  -- that of the record at a place, among records that end before place q
  unfoldable pub edge_part_at : EdgePart → ℕ → ℕ → List Record
  edge_part_at a q = on_kind s 7 (λ i. edge_part a i (next_place s 7 (suc i) q))

  -- what a part has for the arguments of the edge at place p
  abbrev pub passing : Part → ℕ → ℕ → List Record
  passing a p q = from_to (part_at s numbers slots 8 a) (p + 1) q

  -- an edge to a block, and what a part has for its arguments
  abbrev pub edge_and : ℕ → Part → ℕ → ℕ → List Record
  edge_and target a p q = record'.Edge target ∷ from_to (part_at s numbers slots 8 a) p q

  -- a landing: its block with a parameter for each word; loads, and the jump with its edge
  abbrev pub landing_head : ℕ → ℕ → ℕ → List Record
  landing_head number p q = record'.Block false number ∷ passing part.LandingParameter p q

  abbrev pub landing_jump : ℕ → ℕ → List Record
  landing_jump p q = record'.Jump ∷ edge_and (encode (record_at s p)).second part.Landed (p + 1) q

  abbrev pub landing_items : ℕ → ℕ → List Record
  landing_items p q = passing part.PassedLoad p q ++ landing_jump p q

  abbrev pub landing_and : ℕ → ℕ → ℕ → List Record
  landing_and number p q = landing_head number p q ++ landing_items p q

  module _ (p q : ℕ) (l : p < q) (m : q ≤ record_count s) where
    argument : Words → EdgeArgument
    argument w = edge_argument w.second w.third

    xs : List EdgeArgument
    xs = map argument (of_kind 8 (section_from s p q).body)

    ns : List Made
    ns = mades_between s numbers 8 (suc p) q

    behind : (a : Part) → from_to (part_at s numbers slots 8 a) (suc p) q ≡ passing a p q
    behind a = ap (λ (i : ℕ). from_to (part_at s numbers slots 8 a) i q) (sym (add-one p))

    loads-are : items_records (concat_zip (edge_load_items (size_of (function_in s)) (slot_in slots)) xs ns) ≡ passing part.PassedLoad p q
    unfolding part_records argument xs ns
    loads-are =
        concat_map-concat_zip item_records (edge_load_items (size_of (function_in s)) (slot_in slots)) xs ns
        ∙ zip-by-place s 8 argument numbers (λ x n. items_records (edge_load_items (size_of (function_in s)) (slot_in slots) x n)) (suc p) q l m
        ∙ behind part.PassedLoad

    passed-are : map record'.EdgeArgument (zip_with edge_operand xs ns) ≡ passing part.Passed p q
    unfolding part_records argument xs ns
    passed-are =
        map-zip_with record'.EdgeArgument edge_operand xs ns
        ∙ zip-by-place s 8 argument numbers (λ x n. record'.EdgeArgument (edge_operand x n) ∷ []) (suc p) q l m ∙ behind part.Passed

    words_are : map record'.EdgeArgument (words_among xs) ≡ passing part.Word p q
    unfolding part_records argument xs
    words_are =
        ap (map record'.EdgeArgument) (words-each xs) ∙ map-concat_map record'.EdgeArgument (λ (x : EdgeArgument). words_among (x ∷ [])) xs
        ∙ each-by-place s 8 argument (λ x. map record'.EdgeArgument (words_among (x ∷ []))) (suc p) q l m ∙ behind part.Word

    parameters-are : map record'.Parameter (concat_zip landing_parameters xs ns) ≡ passing part.LandingParameter p q
    unfolding part_records argument xs ns
    parameters-are =
        map-concat_zip record'.Parameter landing_parameters xs ns
        ∙ zip-by-place s 8 argument numbers (λ x n. map record'.Parameter (landing_parameters x n)) (suc p) q l m ∙ behind part.LandingParameter

    landed-are : map record'.EdgeArgument (zip_with landed_argument xs ns) ≡ passing part.Landed p q
    unfolding part_records argument xs ns
    landed-are =
        map-zip_with record'.EdgeArgument landed_argument xs ns
        ∙ zip-by-place s 8 argument numbers (λ x n. record'.EdgeArgument (landed_argument x n) ∷ []) (suc p) q l m ∙ behind part.Landed

    -- by the edge's tag
    abbrev by_tag : EdgePart → ℕ → List Record
    by_tag a tag = edge_records_of a (edge_at p q) (record { landing = made tag; arguments = mades_between s numbers 8 (suc p) q })

    by-tag : (a : EdgePart) → edge_part a p q ≡ by_tag a (get_or numbers p 0)
    unfolding edge_part
    by-tag a = refl

    module _ (e : get_or numbers p 0 ≡ 0) where
      -- without a landing: its loads before the instruction,
      pub loads-none : edge_part edge.Loads p q ≡ passing part.PassedLoad p q
      unfolding edge_records_of argument xs ns
      loads-none = by-tag edge.Loads ∙ ap (by_tag edge.Loads) e ∙ loads-are

      -- the edge with its operands replaced,
      pub itself-none : edge_part edge.Itself p q ≡ edge_and (encode (record_at s p)).second part.Passed (p + 1) q
      unfolding edge_records_of argument xs ns
      itself-none =
          by-tag edge.Itself ∙ ap (by_tag edge.Itself) e
          ∙ ap (λ (t : List Record). record'.Edge (encode (record_at s p)).second ∷ t) passed-are

      -- and no landing
      pub landing-none : edge_part edge.Landing p q ≡ []
      unfolding edge_records_of
      landing-none = by-tag edge.Landing ∙ ap (by_tag edge.Landing) e

    module _ (h : get_or numbers p 0 ≡ 0 → ⊥) where
      -- with one: nothing is loaded before the instruction,
      pub loads-some : edge_part edge.Loads p q ≡ []
      unfolding edge_records_of
      loads-some = by-tag edge.Loads ∙ go (get_or numbers p 0) h
        where
          go : (tag : ℕ) → (tag ≡ 0 → ⊥) → by_tag edge.Loads tag ≡ []
          go zero h = absurd (h refl)
          go (suc b) h = refl

      -- the edge is led to it with only the words,
      pub itself-some : edge_part edge.Itself p q ≡ edge_and (get_or numbers p 0 - 1) part.Word (p + 1) q
      unfolding edge_records_of argument xs
      itself-some = by-tag edge.Itself ∙ go (get_or numbers p 0) h
        where
          go : (tag : ℕ) → (tag ≡ 0 → ⊥) → by_tag edge.Itself tag ≡ edge_and (tag - 1) part.Word (p + 1) q
          go zero h = absurd (h refl)
          go (suc b) h =
              let e : b ≡ suc b - 1 = omega arith in
              ap₂ (λ (x : ℕ) (t : List Record). record'.Edge x ∷ t) e words_are

      -- and the landing
      pub landing-some : edge_part edge.Landing p q ≡ landing_and (get_or numbers p 0 - 1) p q
      unfolding edge_records_of argument xs ns
      landing-some = by-tag edge.Landing ∙ go (get_or numbers p 0) h
        where
          items : List Item
          items = concat_zip (edge_load_items (size_of (function_in s)) (slot_in slots)) xs ns

          last : Edge
          last = record { target = (encode (record_at s p)).second; arguments = zip_with landed_argument xs ns }

          inside : concat_map item_records (items ++ (jump last ∷ [])) ≡ passing part.PassedLoad p q ++ (record'.Jump ∷ edge_and (encode (record_at s p)).second part.Landed (p + 1) q)
          inside =
              concat_map-append item_records items (jump last ∷ [])
              ∙ ap₂ (λ (a b : List Record). a ++ b) loads-are
              (append-nil (item_records (jump last)) ∙ ap (λ (t : List Record). record'.Jump ∷ (record'.Edge (encode (record_at s p)).second ∷ t)) landed-are)

          go : (tag : ℕ) → (tag ≡ 0 → ⊥) → by_tag edge.Landing tag ≡ landing_and (tag - 1) p q
          go zero h = absurd (h refl)
          go (suc b) h =
              let e : b ≡ suc b - 1 = omega arith in
              append-nil (record'.Block false b ∷ (map record'.Parameter (concat_zip landing_parameters xs ns) ++ concat_map item_records (items ++ (jump last ∷ []))))
              ∙ ap₂ (λ (x : ℕ) (t : List Record). record'.Block false x ∷ t) e (ap₂ (λ (a b : List Record). a ++ b) parameters-are inside)

  -- the record at a place is an edge, which ends before the next one
  pub edge_here :
      (a : EdgePart) (i q next : ℕ) → kind (record_at s i) ≡ 7 → next ≡ next_place s 7 (i + 1) q → edge_part_at a q i ≡ edge_part a i next
  unfolding edge_part_at
  edge_here a i q next e n =
      chosen (eqb (kind (record_at s i)) 7) (edge_part a i (next_place s 7 (suc i) q)) [] (eq→eqb e)
      ∙ ap (edge_part a i) (ap (λ (x : ℕ). next_place s 7 x q) (sym (add-one i)) ∙ sym n)

  -- or another record
  pub edge_other : (a : EdgePart) (q : ℕ) → Only s 7 (edge_part_at a q)
  unfolding edge_part_at
  edge_other a q i h =
      left_out (eqb (kind (record_at s i)) 7) (edge_part a i (next_place s 7 (suc i) q)) []
      (not_T (eqb (kind (record_at s i)) 7) (λ t. h (eqb→eq (kind (record_at s i)) 7 t)))
