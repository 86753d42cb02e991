-- A planned block: the rules' tree for it, by the numbers beside its records, is what its runs write.
use Rattle.std.specs.Prelude.{ℕ, suc, ◌+◌, ◌<◌, ◌≤◌, ◌≡◌, refl, Bool, true, false, T, eqb}
use Rattle.std.proofs.Math.Path.{sym, ap, ap₂}
use Rattle.std.proofs.Common.{◌∙◌, arith, add-one, eqb→eq}
use Rattle.std.proofs.Math.Option.{Option, none, some}
use mathlib.Core.List.{List, [], ◌∷◌, ◌++◌, map, append_assoc}
use Rattle.std.proofs.Math.ListN.{length, get_or}
use Rattle.std.proofs.lemmas.List.{length-map}
use Rattle.rules.specs.Lists.{or_else, concat_map, zip_with, concat_zip}
use Rattle.rules.specs.Tree.{Item, Instruction, Block, Function}
use Rattle.rules.specs.Records.{kind, record_at, record_count, records}
use Rattle.rules.specs.File.{ordered, instruction_of, block_of, item_records, block_records, function_in}
use Rattle.rules.specs.Graph.{block_at, size_of}
use Rattle.rules.specs.Liveness.{lists_of, lists, listed_instructions}
use Rattle.rules.specs.Plan.{InstructionPlan}
use Rattle.rules.specs.Rewriting.{store_items, instruction_items, landings, rewritten_block}
use Rattle.rules.specs.declared.Record.{Record}
use Rattle.lists.specs.Maps.{concat_map-append}
use Rattle.graph.specs.Sections.{first_or, sections_at, length-sections_at}
use Rattle.graph.specs.Blocks.{place_of, section_of, place-le, place-less, block_at-by-place, instructions-by-place, block-head}
use Rattle.numbering.specs.Beside.{instruction_plan_at, instruction_plans_at, block_plan_at}
use Rattle.listing.specs.ByBlock.{lists_below, list-in-block}
use Rattle.listing.specs.Crossings.{listed}
use Rattle.listing.specs.Stepping.{heads_from}
use Rattle.writing_edges.specs.declared.edges.EdgePart.TheVariants as edge
use Rattle.writing.specs.declared.parts.Part.TheVariants as part
use Rattle.writing.specs.Parts.{slot_in, items_records}
use Rattle.graph.specs.Next.{next_place, next_place-bounds}
use Rattle.writing.specs.Places.{from_to, from_to-same}
use Rattle.writing_edges.specs.Zips.{concat_map-concat_zip}
use Rattle.writing_edges.specs.ByPlace.{on_kind, section_from, beside_at, sectioned, sections-by-place}
use Rattle.writing_edges.specs.Edges.{edge_records_of}
use Rattle.writing_edges.specs.Instructions.{stores-by-place, parameters-by-place, edges-by-place}
use Rattle.writing_instructions.specs.Instruction.{instruction_at, instruction-by-place}
use Rattle.writing_instructions.specs.Remade.{block-remade}
use Rattle.writing_instructions.specs.Runs.{parts_run, edges_run, instruction_run}
use Rattle.layout.specs.BlockRuns.{number_at, landing_part_at, instruction_if, instruction_part_at, block_run, number_same}
use Rattle.layout.specs.Numbered.{Numbered, numbered-from, length-block-heads, number-place, list-row}

-- what agrees at a record of a kind
kind-same :
    (s : List ℕ) (k : ℕ) (g h : ℕ → List Record) (i : ℕ) → (kind (record_at s i) ≡ k → g i ≡ h i) → on_kind s k g i ≡ on_kind s k h i
kind-same s k g h i e = go (eqb (kind (record_at s i)) k) (λ t. e (eqb→eq (kind (record_at s i)) k t))
  where
    go : (b : Bool) → (T b → g i ≡ h i) → ◌≡◌ {A = List Record} (elim b [ true ↦ g i | false ↦ [] ]) (elim b [ true ↦ h i | false ↦ [] ])
    go true e = e tt
    go false e = refl

-- two lists taken together with a third
drop-lists :
    {A B C D : Type 0} (g : A → C → List D) (xs : List A) (ys : List B) (ns : List C) → length ys ≡ length xs
    → concat_zip (λ (x : A × B) n. g x.0 n) (zip_with (λ x y. (x, y)) xs ys) ns ≡ concat_zip g xs ns
drop-lists g [] ys ns e = refl
drop-lists g (x ∷ xs) [] ns e = absurd (omega arith)
drop-lists g (x ∷ xs) (y ∷ ys) [] e = refl
drop-lists {D = D} g (x ∷ xs) (y ∷ ys) (n ∷ ns) e = ap (λ (t : List D). g x n ++ t) (drop-lists g xs ys ns (omega arith))

plans-beside : (s numbers : List ℕ) (q : ℕ) (ps : List ℕ) → instruction_plans_at s numbers q ps ≡ beside_at (instruction_plan_at s numbers) q ps
plans-beside s numbers q [] = refl
plans-beside s numbers q (p ∷ ps) = ap (λ (t : List InstructionPlan). instruction_plan_at s numbers p (first_or q ps) ∷ t) (plans-beside s numbers q ps)

-- the parts of a block, one behind the other
regroup : (r : Record) (a b c d : List Record) → (r ∷ (a ++ (b ++ c))) ++ d ≡ ((((r ∷ []) ++ a) ++ b) ++ c) ++ d
regroup r a b c d = ap (λ (t : List Record). (r ∷ t) ++ d) (sym (append_assoc a b c))

module _ (s numbers slots : List ℕ) where
  abbrev f : Function
  f = function_in s

  abbrev size : ℕ → ℕ
  size = size_of f

  abbrev slot : ℕ → ℕ
  slot = slot_in slots

  abbrev values : ℕ
  values = length f.values

  -- the list and the plan of the instruction at a place
  abbrev plan_at : ℕ → ℕ → List ℕ × InstructionPlan
  plan_at p q = (or_else [] (get_or (lists f) (number_at s p) none), instruction_plan_at s numbers p q)

  abbrev written : Instruction → List ℕ × InstructionPlan → List Record
  written i x = items_records (instruction_items size slot (i, some x.0) x.1)

  abbrev parts : ℕ → List ℕ → List Instruction
  parts q ps = map instruction_of (sections_at s q ps)

  -- instructions with their lists, where the lists are those of their numbers
  zip-lists :
      (q first : ℕ) (ps : List ℕ) (ls : List (Option (List ℕ))) → length ls ≡ length ps → Numbered s first ps
      → ((k : ℕ) → k < length ls → get_or ls k none ≡ get_or (lists f) (first + k) none)
      → items_records (concat_zip (instruction_items size slot) (zip_with (λ i l. (i, l)) (parts q ps) ls) (instruction_plans_at s numbers q ps))
      ≡ concat_zip written (parts q ps) (beside_at plan_at q ps)
  zip-lists q first [] ls e n h = refl
  zip-lists q first (p ∷ ps) [] e n h = absurd (omega arith)
  zip-lists q first (p ∷ ps) (l ∷ ls) e n h =
      let i = instruction_of (section_from s p (first_or q ps)) in
      let plan = instruction_plan_at s numbers p (first_or q ps) in
      let later : List Item = concat_zip (instruction_items size slot) (zip_with (λ i l. (i, l)) (parts q ps) ls) (instruction_plans_at s numbers q ps) in
      let at : first + 0 ≡ number_at s p = omega (arith, n.0) in
      let same : l ≡ get_or (lists f) (number_at s p) none = h 0 (omega arith) ∙ ap (λ (k : ℕ). get_or (lists f) k none) at in
      concat_map-append item_records (instruction_items size slot (i, l) plan) later
      ∙ ap₂ (λ (a b : List Record). a ++ b)
      (ap (λ (x : Option (List ℕ)). items_records (instruction_items size slot (i, some (or_else [] x)) plan)) same)
      (zip-lists q (suc first) ps ls (omega arith) n.1
      (λ k m. let next : first + suc k ≡ suc first + k = omega arith in h (suc k) (omega arith) ∙ ap (λ (j : ℕ). get_or (lists f) j none) next))

  module _ (p q : ℕ) (l : p ≤ q) (m : q ≤ record_count s) (ls : List (Option (List ℕ))) (long : length ls ≡ length (heads_from s p q)) where
    -- THE INSTRUCTIONS from place p on
    instructions-run :
        ((k : ℕ) → k < length ls → get_or ls k none ≡ get_or (lists f) (number_at s p + k) none)
        → items_records (concat_zip (instruction_items size slot) (zip_with (λ i l. (i, l)) (parts q (heads_from s p q)) ls) (instruction_plans_at s numbers q (heads_from s p q)))
        ≡ from_to (instruction_part_at s numbers slots values (listed f) q) p q
    unfolding instruction_at instruction_if
    instructions-run h =
        zip-lists q (number_at s p) (heads_from s p q) ls long (numbered-from s q m p l) h
        ∙ sections-by-place s 4 instruction_of plan_at written q p l m
        ∙ from_to-same (on_kind s 4 (sectioned s 4 instruction_of plan_at written q)) (instruction_part_at s numbers slots values (listed f) q) p q
        (λ i a b.
        kind-same s 4 (sectioned s 4 instruction_of plan_at written q) (λ j. instruction_run s numbers slots (listed f (number_at s i)) values j (next_place s 4 (j + 1) q)) i
        (λ four.
        let next = next_place s 4 (suc i) q in
        let within = next_place-bounds s 4 (suc i) q b m in
        ap (λ (list : List ℕ). instruction_at s numbers slots list i next) (list-row f (number_at s i))
        ∙ instruction-by-place s numbers slots (listed f (number_at s i)) values i next (omega (arith, within.0)) (omega (arith, within.1, m)) four
        ∙ ap (λ (j : ℕ). instruction_run s numbers slots (listed f (number_at s i)) values i (next_place s 4 j q)) (sym (add-one i))))

    -- AND THEIR LANDINGS
    abbrev landed : Instruction → InstructionPlan → List Record
    landed i n = concat_map block_records (concat_zip (landings size slot) i.edges n.edges)

    landings-run :
        concat_map block_records
        (concat_zip (λ (x : Instruction × Option (List ℕ)) (n : InstructionPlan). concat_zip (landings size slot) x.0.edges n.edges) (zip_with (λ i l. (i, l)) (parts q (heads_from s p q)) ls)
        (instruction_plans_at s numbers q (heads_from s p q)))
        ≡ from_to (landing_part_at s numbers slots q) p q
    unfolding landing_part_at edge_records_of
    landings-run =
        let ps = heads_from s p q in
        let is = parts q ps in
        let ns = instruction_plans_at s numbers q ps in
        concat_map-concat_zip block_records
        (λ (x : Instruction × Option (List ℕ)) (n : InstructionPlan). concat_zip (landings size slot) x.0.edges n.edges) (zip_with (λ i l. (i, l)) is ls) ns
        ∙ drop-lists landed is ls ns (long ∙ sym (length-map (sections_at s q ps) instruction_of ∙ length-sections_at s q ps))
        ∙ ap (concat_zip landed is) (plans-beside s numbers q ps)
        ∙ sections-by-place s 4 instruction_of (instruction_plan_at s numbers) landed q p l m
        ∙ from_to-same (on_kind s 4 (sectioned s 4 instruction_of (instruction_plan_at s numbers) landed q)) (landing_part_at s numbers slots q) p q
        (λ i a b.
        kind-same s 4 (sectioned s 4 instruction_of (instruction_plan_at s numbers) landed q) (λ j. edges_run s numbers slots edge.Landing (j + 1) (next_place s 4 (j + 1) q)) i
        (λ four.
        let next = next_place s 4 (suc i) q in
        let within = next_place-bounds s 4 (suc i) q b m in
        let one = instruction_of (section_from s i next) in
        let plan = instruction_plan_at s numbers i next in
        concat_map-concat_zip block_records (landings size slot) one.edges plan.edges
        ∙ edges-by-place s numbers slots (suc i) next within.0 (omega (arith, within.1, m)) edge.Landing
        ∙ ap (λ (j : ℕ). edges_run s numbers slots edge.Landing j (next_place s 4 j q)) (sym (add-one i))))

  -- THE BLOCK
  pub block-planned :
      T (ordered 0 (records s)) → (b : ℕ) → b < length f.blocks
      → concat_map block_records (rewritten_block size slot (block_at f b) (listed_instructions f b) (block_plan_at s numbers b))
      ≡ block_run s numbers slots values (listed f) (place_of s b) (place_of s (suc b))
  unfolding block_run
  block-planned h b l =
      let p = place_of s b in
      let q = place_of s (suc b) in
      let less = place-less s b l in
      let inside = place-le s (suc b) l in
      let ls = lists_of f b in
      let n = block_plan_at s numbers b in
      let long : length ls ≡ length (heads_from s (suc p) q) = sym (length-block-heads s h b l) in
      let first : number_at s (suc p) ≡ length (lists_below f b) =
      ap (number_at s) (sym (add-one p))
      ∙ number_same s p (λ e. let two = block-head s b l in absurd (omega (arith, e, two)))
      ∙ number-place s h b (omega arith) in
      let items =
      instructions-run (suc p) q less inside ls long
      (λ k m. list-in-block f b l k m ∙ ap (λ (j : ℕ). get_or (lists f) (j + k) none) (sym first)) in
      let stores : List Item = concat_zip (store_items size slot) (block_of (section_of s b)).parameters n.parameters in
      let is : List Item = concat_zip (instruction_items size slot) (zip_with (λ i l. (i, l)) (parts q (heads_from s (suc p) q)) ls) n.instructions in
      ap₂ (λ (x : Block) (is : List Instruction). concat_map block_records (rewritten_block size slot x (zip_with (λ i l. (i, l)) is ls) n))
      (block_at-by-place s b l) (instructions-by-place s h b l)
      ∙ (λ j.
      (sym (block-remade (record_at s p) (block-head s b l)) j
      ∷ (parameters-by-place s numbers slots (suc p) q less inside j ++ concat_map-append item_records stores is j))
      ++ landings-run (suc p) q less inside ls long j)
      ∙ (λ j.
      (record_at s p ∷ (parts_run s numbers slots 3 part.Parameter (suc p) q ++ (stores-by-place s numbers slots (suc p) q less inside 3 j ++ items j)))
      ++ from_to (landing_part_at s numbers slots q) (suc p) q)
      ∙ regroup (record_at s p) (parts_run s numbers slots 3 part.Parameter (suc p) q) (parts_run s numbers slots 3 part.Store (suc p) q)
      (from_to (instruction_part_at s numbers slots values (listed f) q) (suc p) q) (from_to (landing_part_at s numbers slots q) (suc p) q)
      ∙ ap
      (λ (k : ℕ).
      ((((record_at s p ∷ []) ++ parts_run s numbers slots 3 part.Parameter k q) ++ parts_run s numbers slots 3 part.Store k q)
      ++ from_to (instruction_part_at s numbers slots values (listed f) q) k q)
      ++ from_to (landing_part_at s numbers slots q) k q)
      (sym (add-one p))
