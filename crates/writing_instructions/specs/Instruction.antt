-- The rules' tree for one instruction is what its runs write.
use Rattle.std.specs.Prelude.{ℕ, suc, ◌<◌, ◌≤◌, ◌≡◌}
use Rattle.std.proofs.Math.Path.{sym, ap}
use Rattle.std.proofs.Common.{◌∙◌, add-one}
use Rattle.std.proofs.Math.Option.{some}
use mathlib.Core.List.{List, [], ◌∷◌, ◌++◌, append_assoc}
use Rattle.rules.specs.Lists.{NumberSet, members, concat_map, zip_with, concat_zip}
use Rattle.rules.specs.Tree.{Item, Instruction, instruction}
use Rattle.rules.specs.Records.{kind, record_at, record_count}
use Rattle.rules.specs.File.{instruction_of, edge_records, item_records, function_in}
use Rattle.rules.specs.Graph.{size_of}
use Rattle.rules.specs.Plan.{InstructionPlan}
use Rattle.rules.specs.Rewriting.{store_items, load_items, edge_loads, rewritten_edge, rewritten_instruction, instruction_items}
use Rattle.rules.specs.declared.Record.{Record}
use Rattle.rules.specs.declared.Record.TheVariants as record'
use Rattle.lists.specs.Maps.{concat_map-append}
use Rattle.numbering.specs.Beside.{instruction_plan_at}
use Rattle.writing_edges.specs.declared.edges.EdgePart.TheVariants as edge
use Rattle.writing.specs.declared.parts.Part.TheVariants as part
use Rattle.writing.specs.Parts.{slot_in, items_records}
use Rattle.writing_edges.specs.Zips.{concat_map-concat_zip, concat_map-zip_with}
use Rattle.writing_edges.specs.ByPlace.{section_from}
use Rattle.writing_edges.specs.Edges.{edge_records_of}
use Rattle.writing_edges.specs.Instructions.{loads-by-place, stores-by-place, arguments-by-place, results-by-place, contexts-by-place, edges-by-place}
use Rattle.writing_instructions.specs.Entries.{entries_below, entries-by-value}
use Rattle.writing_instructions.specs.Remade.{instruction-remade}
use Rattle.writing_instructions.specs.Runs.{parts_run, edges_run, loads_run, operands_run, exits_run, instruction_run}

-- the parts of an instruction, one behind the other
regroup :
    (l el : List Record) (r : Record) (a b e c m st : List Record)
    → l ++ (el ++ ((r ∷ (a ++ (b ++ (e ++ (c ++ m))))) ++ st)) ≡ ((l ++ el) ++ ((((r ∷ []) ++ (a ++ b)) ++ (e ++ c)) ++ m)) ++ st
regroup l el r a b e c m st =
    let tail : a ++ (b ++ (e ++ (c ++ m))) ≡ ((a ++ b) ++ (e ++ c)) ++ m =
    ap (λ (t : List Record). a ++ (b ++ t)) (sym (append_assoc e c m)) ∙ sym (append_assoc a b ((e ++ c) ++ m)) ∙ sym (append_assoc (a ++ b) (e ++ c) m) in
    ap (λ (t : List Record). l ++ (el ++ ((r ∷ t) ++ st))) tail
    ∙ sym (append_assoc l el ((r ∷ (((a ++ b) ++ (e ++ c)) ++ m)) ++ st))
    ∙ sym (append_assoc (l ++ el) (r ∷ (((a ++ b) ++ (e ++ c)) ++ m)) st)

module _ (s numbers slots : List ℕ) where
  -- the records of the instruction at place p, whose records end before place q, with its list
  unfoldable pub instruction_at : List ℕ → ℕ → ℕ → List Record
  instruction_at list p q =
      items_records (instruction_items (size_of (function_in s)) (slot_in slots) (instruction_of (section_from s p q), some list) (instruction_plan_at s numbers p q))

  module _ (set : NumberSet) (values p q : ℕ) (l : p < q) (m : q ≤ record_count s) (four : kind (record_at s p) ≡ 4) where
    i : Instruction
    i = instruction_of (section_from s p q)

    n : InstructionPlan
    n = instruction_plan_at s numbers p q

    abbrev size : ℕ → ℕ
    size = size_of (function_in s)

    abbrev slot : ℕ → ℕ
    slot = slot_in slots

    loaded : items_records (concat_zip (edge_loads size slot) i.edges n.edges) ≡ edges_run s numbers slots edge.Loads (suc p) q
    unfolding i n edge_records_of
    loaded =
        concat_map-concat_zip item_records (edge_loads size slot) i.edges n.edges ∙ edges-by-place s numbers slots (suc p) q l m edge.Loads

    led : concat_map edge_records (zip_with rewritten_edge i.edges n.edges) ≡ edges_run s numbers slots edge.Itself (suc p) q
    unfolding i n edge_records_of
    led = concat_map-zip_with edge_records rewritten_edge i.edges n.edges ∙ edges-by-place s numbers slots (suc p) q l m edge.Itself

    itself : List Record → List Record → List Record → List Record → List Record → List Record
    itself a b e c k = record_at s p ∷ (a ++ (b ++ (e ++ (c ++ k))))

    head : record'.Instruction i.safepoint i.terminator i.tag ≡ record_at s p
    unfolding i
    head = sym (instruction-remade (record_at s p) four)

    written : item_records (instruction (rewritten_instruction size slot i (members values set) n))
        ≡ itself (parts_run s numbers slots 6 part.Argument (suc p) q) (parts_run s numbers slots 5 part.Result (suc p) q)
        (edges_run s numbers slots edge.Itself (suc p) q) (parts_run s numbers slots 9 part.Context (suc p) q) (entries_below size slot set values)
    unfolding i n itself
    written =
        λ j.
        head j
        ∷ (arguments-by-place s numbers slots (suc p) q l m j
        ++ (results-by-place s numbers slots (suc p) q l m j
        ++ (led j ++ (contexts-by-place s numbers slots (suc p) q l m j ++ entries-by-value size slot set values j))))

    -- run by run, from the place behind it
    abbrev run_from : ℕ → List Record
    run_from k =
        (loads_run s numbers slots k q
        ++ ((((record_at s p ∷ []) ++ operands_run s numbers slots k q) ++ exits_run s numbers slots k q)
        ++ entries_below (size_of (function_in s)) (slot_in slots) set values))
        ++ parts_run s numbers slots 5 part.Store k q

    -- THE INSTRUCTION by its runs.
    pub instruction-by-place : instruction_at (members values set) p q ≡ instruction_run s numbers slots set values p q
    unfolding instruction_at instruction_run i n itself
    instruction-by-place =
        let before : List Item = concat_zip (load_items size slot) i.arguments n.arguments in
        let edges : List Item = concat_zip (edge_loads size slot) i.edges n.edges in
        let one : Item = instruction (rewritten_instruction size slot i (members values set) n) in
        let behind : List Item = concat_zip (store_items size slot) i.results n.results in
        concat_map-append item_records before (edges ++ (one ∷ behind))
        ∙ ap (λ (t : List Record). items_records before ++ t) (concat_map-append item_records edges (one ∷ behind))
        ∙ (λ j.
        loads-by-place s numbers slots (suc p) q l m j
        ++ (loaded j ++ (written j ++ stores-by-place s numbers slots (suc p) q l m 5 j)))
        ∙ regroup (parts_run s numbers slots 6 part.Load (suc p) q) (edges_run s numbers slots edge.Loads (suc p) q) (record_at s p)
        (parts_run s numbers slots 6 part.Argument (suc p) q) (parts_run s numbers slots 5 part.Result (suc p) q)
        (edges_run s numbers slots edge.Itself (suc p) q) (parts_run s numbers slots 9 part.Context (suc p) q)
        (entries_below (size_of (function_in s)) (slot_in slots) set values) (parts_run s numbers slots 5 part.Store (suc p) q)
        ∙ ap run_from (sym (add-one p))
