-- The order of a file's records, the tree that they are, and the records of a tree.
use Rattle.std.specs.Prelude.{ℕ, Bool, true, false, ◌&&◌, cond, List, [], ◌∷◌, ◌++◌, map, get_or, leb, eqb}
use Rattle.rules.specs.Lists.{concat_map, has}
use Rattle.rules.specs.Tree.{Edge, Instruction, Item, instruction, slot_address, store, load, jump, Block, Function}
use Rattle.rules.specs.Records.{encode, kind, is_safepoint, is_terminator, edge_argument, records}
use Rattle.rules.specs.declared.Words.{Words}
use Rattle.rules.specs.declared.Record.{Record}
use Rattle.rules.specs.declared.Record.TheVariants as record'

-- Which kinds of an input may stand behind a kind, by its number; place 0 is the start of the file.
unfoldable pub followers : List (List ℕ)
followers =
    (1 ∷ 2 ∷ [])  -- the start: values, then blocks
    ∷ (1 ∷ 2 ∷ [])  -- a value
    ∷ (3 ∷ 4 ∷ [])  -- a block: its parameters, then instructions, one or more
    ∷ (3 ∷ 4 ∷ [])  -- a parameter
    ∷ (6 ∷ 5 ∷ 7 ∷ 9 ∷ 4 ∷ 2 ∷ [])  -- an instruction: its arguments, results, edges, contexts; the next one, or a block
    ∷ (5 ∷ 7 ∷ 9 ∷ 4 ∷ 2 ∷ [])  -- a result
    ∷ (6 ∷ 5 ∷ 7 ∷ 9 ∷ 4 ∷ 2 ∷ [])  -- an argument
    ∷ (8 ∷ 7 ∷ 9 ∷ 4 ∷ 2 ∷ [])  -- an edge: its arguments
    ∷ (8 ∷ 7 ∷ 9 ∷ 4 ∷ 2 ∷ [])  -- an edge argument
    ∷ (9 ∷ 4 ∷ 2 ∷ [])  -- a context
    ∷ []

-- kind k may stand behind kind p
unfoldable pub follows : ℕ → ℕ → Bool
unfolding followers
follows p k = has k (get_or followers p [])

-- The order of a file, read on behind a record of kind p: each record may follow, and the file ends inside an instruction.
abbrev pub ordered : ℕ → List Record → Bool
ordered p [] = leb 4 p
ordered p (r ∷ rs) = follows p (kind r) && ordered (kind r) rs

-- A record that opens a part of the file, and the records of that part. Words are read off a record by `encode`, so that
-- one table serves reading and writing.
pub record Section : Type 0 where
  pub head : Record
  pub body : List Record

-- records cut in front of each that opens a part
pub record Cut : Type 0 where
  pub front : List Record
  pub sections : List Section

abbrev pub cut : (ℕ → Bool) → List Record → Cut
cut opens [] = record { front = []; sections = [] }
cut opens (r ∷ rs) =
    let c = cut opens rs in
    elim (opens (kind r)) [
      | true ↦ record { front = []; sections = record { head = r; body = c.front } ∷ c.sections }
      | false ↦ record { front = r ∷ c.front; sections = c.sections }
    ]

-- the words of the records of kind k
abbrev pub of_kind : ℕ → List Record → List Words
of_kind k [] = []
of_kind k (r ∷ rs) = elim (eqb (kind r) k) [ true ↦ encode r ∷ of_kind k rs | false ↦ of_kind k rs ]

-- the numbers that the records of kind k name
abbrev pub named : ℕ → List Record → List ℕ
named k rs = map (λ w. w.second) (of_kind k rs)

-- Records to a tree. Where they are out of order refusal 4 is given, and nothing asks what tree they are.
abbrev pub edge_of : Section → Edge
edge_of s =
    record {
      target = (encode s.head).second;
      arguments = map (λ w. edge_argument w.second w.third) (of_kind 8 s.body);
    }

abbrev pub edges_of : List Record → List Edge
edges_of rs = map edge_of (cut (eqb 7) rs).sections

abbrev pub instruction_of : Section → Instruction
instruction_of s =
    let w = encode s.head in
    record {
      safepoint = is_safepoint w.second;
      terminator = is_terminator w.second;
      tag = w.third;
      arguments = named 6 s.body;
      results = named 5 s.body;
      edges = edges_of s.body;
      contexts = named 9 s.body;
      entries = map (λ x. record { slot = x.second; size = x.third }) (of_kind 11 s.body);
    }

-- a jump leads along the edge behind it
abbrev pub first_edge : List Edge → Edge
first_edge [] = record { target = 0; arguments = [] }
first_edge (e ∷ _) = e

abbrev pub item_of : Section → Item
item_of s =
    let w = encode s.head in
    cond (eqb w.kind 4) (instruction (instruction_of s))
    (cond (eqb w.kind 12) (slot_address w.second w.third)
    (cond (eqb w.kind 13) (store w.second w.third)
    (cond (eqb w.kind 14) (load w.second w.third w.fourth)
    (jump (first_edge (edges_of s.body))))))

abbrev pub opens_item : ℕ → Bool
opens_item k = has k (4 ∷ 12 ∷ 13 ∷ 14 ∷ 15 ∷ [])

abbrev pub block_of : Section → Block
block_of s =
    let w = encode s.head in
    record {
      cold = eqb w.second 1;
      number = w.third;
      parameters = named 3 s.body;
      items = map item_of (cut opens_item s.body).sections;
    }

unfoldable pub function : List Record → Function
function rs =
    record {
      values = map (λ w. record { size = w.second; marked = eqb w.third 1 }) (of_kind 1 rs);
      slots = named 10 rs;
      blocks = map block_of (cut (eqb 2) rs).sections;
    }

-- A tree to records.
abbrev pub edge_records : Edge → List Record
edge_records e = record'.Edge e.target ∷ map record'.EdgeArgument e.arguments

abbrev pub item_records : Item → List Record
item_records (instruction i) =
    record'.Instruction i.safepoint i.terminator i.tag
    ∷ (map record'.Argument i.arguments ++ (map record'.Result i.results ++ (concat_map edge_records i.edges
    ++ (map record'.Context i.contexts ++ map (λ x. record'.MapEntry x.slot x.size) i.entries))))
item_records (slot_address result slot) = record'.SlotAddress result slot ∷ []
item_records (store value address) = record'.Store value address ∷ []
item_records (load result address size) = record'.Load result address size ∷ []
item_records (jump e) = record'.Jump ∷ edge_records e

abbrev pub block_records : Block → List Record
block_records b =
    record'.Block b.cold b.number ∷ (map record'.Parameter b.parameters ++ concat_map item_records b.items)

unfoldable pub function_records : Function → List Record
function_records f =
    map (λ x. record'.Value x.size x.marked) f.values
    ++ (map record'.Slot f.slots ++ concat_map block_records f.blocks)

-- the function of a file
abbrev pub function_in : List ℕ → Function
function_in s = function (records s)
