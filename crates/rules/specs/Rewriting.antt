-- Rewriting: the function that is written, from the function read, the planned numbers and the slots.
use Rattle.std.specs.Prelude.{ℕ, suc, true, false, List, [], ◌∷◌, ◌++◌, map, eqb}
use Rattle.std.proofs.Math.Option.{Option, none, some}
use Rattle.rules.specs.Lists.{or_else, concat_map, zip_with, concat_zip}
use Rattle.rules.specs.Tree.{Edge, MapEntry, Instruction, Item, instruction, slot_address, store, load, jump, Block, Function}
use Rattle.rules.specs.Graph.{size_of, reachable}
use Rattle.rules.specs.Liveness.{listed_instructions}
use Rattle.rules.specs.Plan.{Made, EdgePlan, InstructionPlan, BlockPlan, planned}
use Rattle.rules.specs.declared.EdgeArgument.{EdgeArgument}
use Rattle.rules.specs.declared.EdgeArgument.TheVariants as passes

-- the operand in place of v: the value loaded, which is numbered behind its address
abbrev pub operand : ℕ → Made → ℕ
operand v none = v
operand v (some address) = suc address

abbrev pub edge_operand : EdgeArgument → Made → EdgeArgument
edge_operand (passes.Value v) n = passes.Value (operand v n)
edge_operand (passes.Returned index) _ = passes.Returned index
edge_operand (passes.Exception index) _ = passes.Exception index

-- the returned and exception words among edge arguments
abbrev pub words_among : List EdgeArgument → List EdgeArgument
words_among [] = []
words_among (passes.Value _ ∷ xs) = words_among xs
words_among (passes.Returned index ∷ xs) = passes.Returned index ∷ words_among xs
words_among (passes.Exception index ∷ xs) = passes.Exception index ∷ words_among xs

-- an edge with its operands replaced, or led to its landing with only the words
abbrev pub edge_to : Option ℕ → Edge → List Made → Edge
edge_to none e ns = record { target = e.target; arguments = zip_with edge_operand e.arguments ns }
edge_to (some b) e ns = record { target = b; arguments = words_among e.arguments }

abbrev pub rewritten_edge : Edge → EdgePlan → Edge
rewritten_edge e n = edge_to n.landing e n.arguments

-- the parameters that a landing has for an edge argument: one for a word
abbrev pub landing_parameters : EdgeArgument → Made → List ℕ
landing_parameters (passes.Value _) _ = []
landing_parameters (passes.Returned _) none = []
landing_parameters (passes.Returned _) (some parameter) = parameter ∷ []
landing_parameters (passes.Exception _) none = []
landing_parameters (passes.Exception _) (some parameter) = parameter ∷ []

-- what a landing passes on for an edge argument
abbrev pub landed_argument : EdgeArgument → Made → EdgeArgument
landed_argument (passes.Value v) n = passes.Value (operand v n)
landed_argument (passes.Returned index) none = passes.Returned index
landed_argument (passes.Returned _) (some parameter) = passes.Value parameter
landed_argument (passes.Exception index) none = passes.Exception index
landed_argument (passes.Exception _) (some parameter) = passes.Value parameter

-- what writing reads: the size and the slot of a value
module _ (size slot : ℕ → ℕ) where
  -- rule 1: behind the definition of v
  abbrev pub store_items : ℕ → Made → List Item
  store_items v none = []
  store_items v (some address) = slot_address address (slot v) ∷ store v address ∷ []

  -- rule 3: before the use of v
  abbrev pub load_items : ℕ → Made → List Item
  load_items v none = []
  load_items v (some address) = slot_address address (slot v) ∷ load (suc address) address (size v) ∷ []

  abbrev pub edge_load_items : EdgeArgument → Made → List Item
  edge_load_items (passes.Value v) n = load_items v n
  edge_load_items (passes.Returned _) _ = []
  edge_load_items (passes.Exception _) _ = []

  -- what an edge without a landing asks to be loaded before its instruction
  abbrev pub edge_loads : Edge → EdgePlan → List Item
  edge_loads e n = elim n.landing [ none ↦ concat_zip edge_load_items e.arguments n.arguments | some _ ↦ [] ]

  -- rule 2: a landing has a parameter for each word, loads, and a jump to the edge's target; its cold word is 0
  abbrev pub landing_of : Edge → List Made → ℕ → Block
  landing_of e ns b =
      record {
        cold = false;
        number = b;
        parameters = concat_zip landing_parameters e.arguments ns;
        items =
            concat_zip edge_load_items e.arguments ns
            ++ (jump (record { target = e.target; arguments = zip_with landed_argument e.arguments ns }) ∷ []);
      }

  abbrev pub landings : Edge → EdgePlan → List Block
  landings e n = elim n.landing [ none ↦ [] | some b ↦ landing_of e n.arguments b ∷ [] ]

  -- rule 2: a map entry for each listed value
  abbrev pub map_entry : ℕ → MapEntry
  map_entry v = record { slot = slot v; size = size v }

  abbrev pub rewritten_instruction : Instruction → List ℕ → InstructionPlan → Instruction
  rewritten_instruction i list n =
      record {
        safepoint = i.safepoint;
        terminator = i.terminator;
        tag = i.tag;
        arguments = zip_with operand i.arguments n.arguments;
        results = i.results;
        edges = zip_with rewritten_edge i.edges n.edges;
        contexts = i.contexts;
        entries = map map_entry list;
      }

  -- loads, the instruction with its map, stores
  abbrev pub instruction_items : Instruction × Option (List ℕ) → InstructionPlan → List Item
  instruction_items x n =
      let i = x.0 in
      concat_zip load_items i.arguments n.arguments
      ++ (concat_zip edge_loads i.edges n.edges
      ++ (instruction (rewritten_instruction i (or_else [] x.1) n) ∷ concat_zip store_items i.results n.results))

  -- a block: its parameters' stores before everything else, then its instructions; behind it its landings, in the order of edges
  abbrev pub rewritten_block : Block → List (Instruction × Option (List ℕ)) → BlockPlan → List Block
  rewritten_block b is n =
      record {
        cold = b.cold;
        number = b.number;
        parameters = b.parameters;
        items =
            concat_zip store_items b.parameters n.parameters
            ++ concat_zip instruction_items is n.instructions;
      }
      ∷ concat_zip (λ x m. concat_zip landings x.0.edges m.edges) is n.instructions

module _ (f : Function) (pointer : ℕ) where
  -- the number that a value's slot has in the end
  abbrev pub slot_number : ℕ → ℕ
  slot_number v = or_else 0 ((planned f pointer).1.slots.slot_of v)

  -- a block with the numbers planned for it, by the blocks' order; an unreachable block is copied
  abbrev pub laid : List ℕ → List BlockPlan → Block → List Block
  laid [] _ b = b ∷ []
  laid (_ ∷ _) [] b = b ∷ []
  laid (x ∷ xs) (n ∷ ns) b =
      elim (eqb x b.number) [
        | true ↦ rewritten_block (size_of f) slot_number b (listed_instructions f x) n
        | false ↦ laid xs ns b
      ]

  -- the rewritten function: the file's blocks in their order, each with its landings behind it
  unfoldable pub rewritten : Function
  rewritten =
      record {
        values = (planned f pointer).1.values;
        slots = (planned f pointer).1.slots.made;
        blocks = concat_map (laid (reachable f) (planned f pointer).0) f.blocks;
      }
