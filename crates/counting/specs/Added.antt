-- HOW MANY RECORDS REWRITING ADDS to a block, by the numbers planned for it. A number beside an operand or a definition
-- stands for two items (an address with its load or store) or, in a landing, for a parameter and what is passed for it; a
-- landing itself for three records (block, jump, edge). With them comes a map entry for each listed value.
use Rattle.std.specs.Prelude.{ℕ, suc, ◌+◌, ◌≡◌, refl, Bool, true, false, not, length}
use Rattle.std.proofs.Common.{sym, subst, ◌∙◌}
use Rattle.std.proofs.Math.Path.{ap}
use Rattle.std.proofs.Math.Option.{Option, none, some}
use mathlib.Core.List.{List, [], ◌∷◌, ◌++◌, map}
use native.Mathlib.Omega.{arith}
use Rattle.std.proofs.Math.ListN.{length-append}
use Rattle.std.proofs.lemmas.List.{length-map}
use Rattle.rules.specs.Lists.{is_none, or_else, concat_map, zip_with, concat_zip}
use Rattle.rules.specs.Tree.{Edge, Instruction, Item, instruction, jump, Block, Function}
use Rattle.rules.specs.Graph.{block_at}
use Rattle.rules.specs.Liveness.{listed_instructions}
use Rattle.rules.specs.File.{edge_records, item_records, block_records}
use Rattle.rules.specs.Plan.{Made, EdgePlan, InstructionPlan, BlockPlan}
use Rattle.rules.specs.Rewriting.{operand, edge_operand, words_among, rewritten_edge, landing_parameters, landed_argument, store_items, load_items}
use Rattle.rules.specs.Rewriting.{edge_load_items, edge_loads, landings, map_entry, rewritten_instruction, instruction_items, rewritten_block}
use Rattle.rules.specs.declared.EdgeArgument.{EdgeArgument}
use Rattle.rules.specs.declared.EdgeArgument.TheVariants as passes
use Rattle.rules.specs.declared.Record.TheVariants as record'
use Rattle.lists.specs.Maps.{concat_map-append}
use Rattle.lists.specs.Members.{◌∈◌, here, there}
use Rattle.lists.specs.Pairs.{Each}
use Rattle.fixpoint.specs.Sums.{sum}
use Rattle.agreement.specs.Numbers.{Numbered}
use Rattle.agreement.specs.Plans.{Defined, OperandsNumbered, EdgeNumbered, InstructionNumbered, BlockNumbered}

-- what a number stands for: two records
abbrev pub made_adds : Made → ℕ
made_adds none = 0
made_adds (some _) = 2

-- a landing: three
abbrev pub landing_adds : Option ℕ → ℕ
landing_adds none = 0
landing_adds (some _) = 3

abbrev pub edge_adds : EdgePlan → ℕ
edge_adds n = landing_adds n.landing + sum made_adds n.arguments

abbrev pub instruction_adds : InstructionPlan → ℕ
instruction_adds n = sum made_adds n.arguments + sum made_adds n.results + sum edge_adds n.edges

unfoldable pub block_adds : BlockPlan → ℕ
block_adds n = sum made_adds n.parameters + sum instruction_adds n.instructions

-- the map entries of an instruction's list
abbrev pub entry_count : Option (List ℕ) → ℕ
entry_count list = length (or_else [] list)

-- how many records items are
abbrev items_length : List Item → ℕ
items_length is = length (concat_map item_records is)

items-append : (xs ys : List Item) → items_length (xs ++ ys) ≡ items_length xs + items_length ys
items-append xs ys =
    ap length (concat_map-append item_records xs ys) ∙ length-append (concat_map item_records xs) (concat_map item_records ys)

-- how many records blocks are
abbrev pub blocks_length : List Block → ℕ
blocks_length bs = length (concat_map block_records bs)

blocks-append : (xs ys : List Block) → blocks_length (xs ++ ys) ≡ blocks_length xs + blocks_length ys
blocks-append xs ys =
    ap length (concat_map-append block_records xs ys) ∙ length-append (concat_map block_records xs) (concat_map block_records ys)

module _ (f : Function) (limit : ℕ) (size slot : ℕ → ℕ) where
  -- DEFINITIONS are stored.
  stores-length :
      (vs : List ℕ) (ns : List Made) → Each (Defined f limit) vs ns → items_length (concat_zip (store_items size slot) vs ns) ≡ sum made_adds ns
  stores-length [] [] h = refl
  stores-length [] (_ ∷ _) h = absurd h
  stores-length (_ ∷ _) [] h = absurd h
  stores-length (v ∷ vs) (none ∷ ns) h = omega (arith, stores-length vs ns h.1)
  stores-length (v ∷ vs) (some a ∷ ns) h = omega (arith, stores-length vs ns h.1)

  -- ARGUMENTS are loaded before the instruction, and stay as many.
  loads-length :
      (lo hi : ℕ) (vs : List ℕ) (ns : List Made) → Numbered f false lo hi (map passes.Value vs) ns
      → items_length (concat_zip (load_items size slot) vs ns) ≡ sum made_adds ns
  loads-length lo hi [] [] h = refl
  loads-length lo hi [] (_ ∷ _) h = absurd h
  loads-length lo hi (_ ∷ _) [] h = absurd h
  loads-length lo hi (v ∷ vs) (none ∷ ns) h = omega (arith, loads-length lo hi vs ns h.1)
  loads-length lo hi (v ∷ vs) (some a ∷ ns) h = omega (arith, loads-length (suc (suc a)) hi vs ns h.2)

  arguments-length :
      (lo hi : ℕ) (vs : List ℕ) (ns : List Made) → Numbered f false lo hi (map passes.Value vs) ns → length (zip_with operand vs ns) ≡ length vs
  arguments-length lo hi [] [] h = refl
  arguments-length lo hi [] (_ ∷ _) h = absurd h
  arguments-length lo hi (_ ∷ _) [] h = absurd h
  arguments-length lo hi (v ∷ vs) (none ∷ ns) h = ap suc (arguments-length lo hi vs ns h.1)
  arguments-length lo hi (v ∷ vs) (some a ∷ ns) h = ap suc (arguments-length (suc (suc a)) hi vs ns h.2)

  -- EDGES. What an edge without a landing passes: its values are loaded before the instruction, its words have no number.
  passed_length :
      (lo hi : ℕ) (xs : List EdgeArgument) (ns : List Made) → Numbered f false lo hi xs ns
      → items_length (concat_zip (edge_load_items size slot) xs ns) + length (zip_with edge_operand xs ns) ≡ length xs + sum made_adds ns
  passed_length lo hi [] [] h = refl
  passed_length lo hi [] (_ ∷ _) h = absurd h
  passed_length lo hi (passes.Value v ∷ xs) [] h = absurd h
  passed_length lo hi (passes.Returned k ∷ xs) [] h = absurd h
  passed_length lo hi (passes.Exception k ∷ xs) [] h = absurd h
  passed_length lo hi (passes.Value v ∷ xs) (none ∷ ns) h = omega (arith, passed_length lo hi xs ns h.1)
  passed_length lo hi (passes.Value v ∷ xs) (some a ∷ ns) h = omega (arith, passed_length (suc (suc a)) hi xs ns h.2)
  passed_length lo hi (passes.Returned k ∷ xs) (none ∷ ns) h = omega (arith, passed_length lo hi xs ns h.1)
  passed_length lo hi (passes.Returned k ∷ xs) (some p ∷ ns) h = absurd h.0
  passed_length lo hi (passes.Exception k ∷ xs) (none ∷ ns) h = omega (arith, passed_length lo hi xs ns h.1)
  passed_length lo hi (passes.Exception k ∷ xs) (some p ∷ ns) h = absurd h.0

  -- What one with a landing passes: its words twice, to the landing and on from there, with a parameter between.
  landed-length :
      (lo hi : ℕ) (xs : List EdgeArgument) (ns : List Made) → Numbered f true lo hi xs ns
      → length (words_among xs) + length (concat_zip landing_parameters xs ns) + items_length (concat_zip (edge_load_items size slot) xs ns)
      + length (zip_with landed_argument xs ns)
      ≡ length xs + sum made_adds ns
  landed-length lo hi [] [] h = refl
  landed-length lo hi [] (_ ∷ _) h = absurd h
  landed-length lo hi (passes.Value v ∷ xs) [] h = absurd h
  landed-length lo hi (passes.Returned k ∷ xs) [] h = absurd h
  landed-length lo hi (passes.Exception k ∷ xs) [] h = absurd h
  landed-length lo hi (passes.Value v ∷ xs) (none ∷ ns) h = omega (arith, landed-length lo hi xs ns h.1)
  landed-length lo hi (passes.Value v ∷ xs) (some a ∷ ns) h = omega (arith, landed-length (suc (suc a)) hi xs ns h.2)
  landed-length lo hi (passes.Returned k ∷ xs) (none ∷ ns) h = absurd h.0
  landed-length lo hi (passes.Returned k ∷ xs) (some p ∷ ns) h = omega (arith, landed-length (suc p) hi xs ns h.2)
  landed-length lo hi (passes.Exception k ∷ xs) (none ∷ ns) h = absurd h.0
  landed-length lo hi (passes.Exception k ∷ xs) (some p ∷ ns) h = omega (arith, landed-length (suc p) hi xs ns h.2)

  -- an edge with what is loaded for it and with its landing
  abbrev edge_length : Edge → EdgePlan → ℕ
  edge_length e n =
      items_length (edge_loads size slot e n) + length (edge_records (rewritten_edge e n)) + blocks_length (landings size slot e n)

  edge-length : (safepoint : Bool) (e : Edge) (n : EdgePlan) → EdgeNumbered f limit safepoint e n → edge_length e n ≡ length (edge_records e) + edge_adds n
  edge-length safepoint e n h = go n.landing h.3
    where
      xs : List EdgeArgument
      xs = e.arguments

      ns : List Made
      ns = n.arguments

      go : (b : Option ℕ) → OperandsNumbered f limit safepoint xs b ns h.0 h.1
          → edge_length e (record { landing = b; arguments = ns }) ≡ length (edge_records e) + (landing_adds b + sum made_adds ns)
      go none g =
          omega (
            arith,
            passed_length h.0 h.1 xs ns g.0,
            length-map (zip_with edge_operand xs ns) record'.EdgeArgument,
            length-map xs record'.EdgeArgument,
          )
      go (some b) g =
          let params = concat_zip landing_parameters xs ns in
          let loads = concat_zip (edge_load_items size slot) xs ns in
          let last : Edge = record { target = e.target; arguments = zip_with landed_argument xs ns } in
          omega (
            arith,
            landed-length h.0 h.1 xs ns g,
            length-map (words_among xs) record'.EdgeArgument,
            length-map xs record'.EdgeArgument,
            length-map params record'.Parameter,
            length-map (zip_with landed_argument xs ns) record'.EdgeArgument,
            items-append loads (jump last ∷ []),
            length-append (map record'.Parameter params) (concat_map item_records (loads ++ (jump last ∷ []))),
            length-append (edge_records last) [],
            length-append (record'.Block false b ∷ (map record'.Parameter params ++ concat_map item_records (loads ++ (jump last ∷ [])))) [],
          )

  edges-length :
      (safepoint : Bool) (es : List Edge) (ns : List EdgePlan) → Each (EdgeNumbered f limit safepoint) es ns
      → items_length (concat_zip (edge_loads size slot) es ns) + length (concat_map edge_records (zip_with rewritten_edge es ns))
      + blocks_length (concat_zip (landings size slot) es ns)
      ≡ length (concat_map edge_records es) + sum edge_adds ns
  edges-length safepoint [] [] h = refl
  edges-length safepoint [] (_ ∷ _) h = absurd h
  edges-length safepoint (_ ∷ _) [] h = absurd h
  edges-length safepoint (e ∷ es) (n ∷ ns) h =
      omega (
        arith,
        edge-length safepoint e n h.0,
        edges-length safepoint es ns h.1,
        items-append (edge_loads size slot e n) (concat_zip (edge_loads size slot) es ns),
        blocks-append (landings size slot e n) (concat_zip (landings size slot) es ns),
        length-append (edge_records (rewritten_edge e n)) (concat_map edge_records (zip_with rewritten_edge es ns)),
        length-append (edge_records e) (concat_map edge_records es),
      )

  -- INSTRUCTIONS, with their loads and stores, their map entries and their landings.
  abbrev Listed : Type 0
  Listed = Instruction × Option (List ℕ)

  abbrev landings_behind : Listed → InstructionPlan → List Block
  landings_behind x n = concat_zip (landings size slot) x.0.edges n.edges

  instruction-length :
      (x : Listed) (n : InstructionPlan) → x.0.entries ≡ [] → InstructionNumbered f limit x n
      → items_length (instruction_items size slot x n) + blocks_length (landings_behind x n)
      ≡ length (item_records (instruction x.0)) + instruction_adds n + entry_count x.1
  instruction-length x n e h =
      let i = x.0 in
      let list = or_else [] x.1 in
      let loads = concat_zip (load_items size slot) i.arguments n.arguments in
      let passed = concat_zip (edge_loads size slot) i.edges n.edges in
      let itself = rewritten_instruction size slot i list n in
      let stores = concat_zip (store_items size slot) i.results n.results in
      let numbered = edges-length (not (is_none x.1)) i.edges n.edges h.edges in
      omega (
        arith,
        items-append loads (passed ++ (instruction itself ∷ stores)),
        items-append passed (instruction itself ∷ stores),
        length-append (item_records (instruction itself)) (concat_map item_records stores),
        loads-length h.first h.last i.arguments n.arguments h.arguments,
        stores-length i.results n.results h.results,
        numbered,
        parts-length itself,
        parts-length i,
        ap length e,
        length-map list (map_entry size slot),
        arguments-length h.first h.last i.arguments n.arguments h.arguments,
      )
    where
      -- an instruction's records, part by part
      parts-length : (i : Instruction)
          → length (item_records (instruction i))
          ≡ 1 + length i.arguments + length i.results + length (concat_map edge_records i.edges) + length i.contexts + length i.entries
      parts-length i =
          let arguments = map record'.Argument i.arguments in
          let results = map record'.Result i.results in
          let edges = concat_map edge_records i.edges in
          let contexts = map record'.Context i.contexts in
          let entries = map (λ x. record'.MapEntry x.slot x.size) i.entries in
          omega (
            arith,
            length-append arguments (results ++ (edges ++ (contexts ++ entries))),
            length-append results (edges ++ (contexts ++ entries)),
            length-append edges (contexts ++ entries),
            length-append contexts entries,
            length-map i.arguments record'.Argument,
            length-map i.results record'.Result,
            length-map i.contexts record'.Context,
            length-map i.entries (λ x. record'.MapEntry x.slot x.size),
          )

  -- no instruction of a file that is read has map entries
  abbrev pub Plain : List Listed → Type 0
  Plain xs = (x : Listed) → x ∈ xs → x.0.entries ≡ []

  instructions-length :
      (xs : List Listed) (ns : List InstructionPlan) → Plain xs → Each (InstructionNumbered f limit) xs ns
      → items_length (concat_zip (instruction_items size slot) xs ns) + blocks_length (concat_zip landings_behind xs ns)
      ≡ items_length (map instruction (map (λ (x : Listed). x.0) xs)) + sum instruction_adds ns + sum (λ (x : Listed). entry_count x.1) xs
  instructions-length [] [] plain h = refl
  instructions-length [] (_ ∷ _) plain h = absurd h
  instructions-length (_ ∷ _) [] plain h = absurd h
  instructions-length (x ∷ xs) (n ∷ ns) plain h =
      omega (
        arith,
        instruction-length x n (plain x (here refl)) h.0,
        instructions-length xs ns (λ y m. plain y (there m)) h.1,
        items-append (instruction_items size slot x n) (concat_zip (instruction_items size slot) xs ns),
        blocks-append (landings_behind x n) (concat_zip landings_behind xs ns),
        length-append (item_records (instruction x.0)) (concat_map item_records (map instruction (map (λ (x : Listed). x.0) xs))),
      )

  -- A BLOCK that is rewritten, with its landings.
  pub block-length :
      (b : Block) (t : ℕ) (n : BlockPlan) → BlockNumbered f limit t n → b.parameters ≡ (block_at f t).parameters
      → b.items ≡ map instruction (map (λ (x : Listed). x.0) (listed_instructions f t)) → Plain (listed_instructions f t)
      → blocks_length (rewritten_block size slot b (listed_instructions f t) n)
      ≡ length (block_records b) + block_adds n + sum (λ (x : Listed). entry_count x.1) (listed_instructions f t)
  unfolding block_adds
  block-length b t n h parameters items plain =
      let xs = listed_instructions f t in
      let stores = concat_zip (store_items size slot) b.parameters n.parameters in
      let inside = concat_zip (instruction_items size slot) xs n.instructions in
      let behind = concat_zip landings_behind xs n.instructions in
      omega (
        arith,
        instructions-length xs n.instructions plain h.instructions,
        stores-length b.parameters n.parameters (subst (λ (vs : List ℕ). Each (Defined f limit) vs n.parameters) (sym parameters) h.parameters),
        items-append stores inside,
        length-append (map record'.Parameter b.parameters) (concat_map item_records (stores ++ inside)),
        length-append (map record'.Parameter b.parameters) (concat_map item_records b.items),
        length-append (block_records (record { cold = b.cold; number = b.number; parameters = b.parameters; items = stores ++ inside })) (concat_map block_records behind),
        ap items_length items,
      )
