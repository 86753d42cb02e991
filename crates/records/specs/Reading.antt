-- A tree is read back from its records: `function (function_records f) ≡ f`, for every tree f.
use Rattle.std.specs.Prelude.{ℕ, ◌+◌, ◌*◌, ◌≡◌, refl, Bool, true, false, not, ◌&&◌, List, [], ◌∷◌, ◌++◌, map, T, eqb}
use Rattle.std.proofs.Common.{sym, ap, ap₂, ◌∙◌, append-nil, append_assoc}
use Rattle.rules.specs.Lists.{all, concat_map}
use Rattle.rules.specs.Tree.{Value, Edge, MapEntry, Instruction, Item, instruction, slot_address, store, load, jump, Block, Function}
use Rattle.rules.specs.Records.{encode, kind, bit, is_safepoint, is_terminator, edge_argument}
use Rattle.rules.specs.declared.Words.{Words}
use Rattle.rules.specs.File.{Section, Cut, cut, of_kind, named, edge_of, edges_of, instruction_of, first_edge, item_of, opens_item, block_of, function, edge_records, item_records, block_records, function_records}
use Rattle.rules.specs.declared.EdgeArgument.{EdgeArgument}
use Rattle.rules.specs.declared.EdgeArgument.TheVariants as passes
use Rattle.rules.specs.declared.Record.{Record}
use Rattle.rules.specs.declared.Record.TheVariants as record'
use Rattle.lists.specs.Tests.{and_intro, and_left, and_right, passes_at}
use Rattle.lists.specs.Maps.{map_back, concat_map-same}
use Rattle.records.specs.Kinds.{Kinds, kinds-append, kinds-map, kinds-concat_map, kinds-weaken, kind-edge_argument, of_kind-append, of_kind-none, of_kind-map, of_kind-skip, of_kind-stop, cut-front, cut-closed, cut-section, cut-sections}

-- a flag is read back from its word
bit-back : (b : Bool) → eqb (bit b) 1 ≡ b
bit-back true = refl
bit-back false = refl

safepoint-back : (s t : Bool) → is_safepoint (bit s + 2 * bit t) ≡ s
safepoint-back true true = refl
safepoint-back true false = refl
safepoint-back false true = refl
safepoint-back false false = refl

terminator-back : (s t : Bool) → is_terminator (bit s + 2 * bit t) ≡ t
terminator-back true true = refl
terminator-back true false = refl
terminator-back false true = refl
terminator-back false false = refl

-- the numbers that records of one kind name
named_back : (k : ℕ) (c : ℕ → Record) → ((x : ℕ) → T (eqb (kind (c x)) k)) → ((x : ℕ) → (encode (c x)).second ≡ x) → (xs : List ℕ) → named k (map c xs) ≡ xs
named_back k c h w xs = ap (map (λ (x : Words). x.second)) (of_kind-map k c h xs) ∙ map_back (λ (x : Words). x.second) (λ x. encode (c x)) w xs

-- an argument is read back from its words
pub edge_argument-back : (x : EdgeArgument) → edge_argument (encode (record'.EdgeArgument x)).second (encode (record'.EdgeArgument x)).third ≡ x
edge_argument-back (passes.Value _) = refl
edge_argument-back (passes.Returned _) = refl
edge_argument-back (passes.Exception _) = refl

-- neither an edge nor an edge argument
abbrev neither : ℕ → Bool
neither j = not (eqb 7 j) && not (eqb j 8)

not-edge : (j : ℕ) → T (neither j) → T (not (eqb 7 j))
not-edge j h = and_left (not (eqb 7 j)) (not (eqb j 8)) h

not-argument : (j : ℕ) → T (neither j) → T (not (eqb j 8))
not-argument j h = and_right (not (eqb 7 j)) (not (eqb j 8)) h

-- Edges are read back from between records that are neither edges nor edge arguments. The last edge's section has what
-- stands behind it too, where no record is an edge argument.
edges-back : (es : List Edge) (behind : List Record) → Kinds neither behind
    → (map edge_of (cut (eqb 7) (concat_map edge_records es ++ behind)).sections ≡ es) × (of_kind 8 (cut (eqb 7) (concat_map edge_records es ++ behind)).front ≡ [])
edges-back [] behind k =
    let c = cut-closed (eqb 7) behind (kinds-weaken neither (λ j. not (eqb 7 j)) not-edge behind k) in (
      ap (λ (d : Cut). map edge_of d.sections) c,
      ap (λ (d : Cut). of_kind 8 d.front) c ∙ of_kind-none 8 behind (kinds-weaken neither (λ j. not (eqb j 8)) not-argument behind k),
    )
edges-back (e ∷ es) behind k =
    let passed = map record'.EdgeArgument e.arguments in
    let rest = concat_map edge_records es ++ behind in
    let ih = edges-back es behind k in
    let words : of_kind 8 (passed ++ (cut (eqb 7) rest).front) ≡ map (λ x. encode (record'.EdgeArgument x)) e.arguments =
    of_kind-append 8 passed (cut (eqb 7) rest).front
    ∙ ap₂ (λ (x y : List Words). x ++ y) (of_kind-map 8 record'.EdgeArgument (λ x. kind-edge_argument (λ j. eqb j 8) x tt) e.arguments) ih.1
    ∙ append-nil (map (λ x. encode (record'.EdgeArgument x)) e.arguments) in
    let arguments : map (λ (w : Words). edge_argument w.second w.third) (of_kind 8 (passed ++ (cut (eqb 7) rest).front)) ≡ e.arguments =
    ap (map (λ (w : Words). edge_argument w.second w.third)) words
    ∙ map_back (λ (w : Words). edge_argument w.second w.third) (λ x. encode (record'.EdgeArgument x)) edge_argument-back e.arguments in (
      ap (λ (rs : List Record). map edge_of (cut (eqb 7) (record'.Edge e.target ∷ rs)).sections) (append_assoc passed (concat_map edge_records es) behind)
          ∙ ap (λ (d : Cut). map edge_of d.sections)
          (cut-section (eqb 7) (record'.Edge e.target) passed rest tt (kinds-map (λ j. not (eqb 7 j)) record'.EdgeArgument (λ x. kind-edge_argument (λ j. not (eqb 7 j)) x tt) e.arguments))
          ∙ ap₂ (λ (x : List EdgeArgument) (y : List Edge). record { target = e.target; arguments = x } ∷ y) arguments ih.0,
      refl,
    )

-- the kinds of the records in an instruction's body, and of all records of an item
abbrev body_kinds : List ℕ
body_kinds = 5 ∷ 6 ∷ 7 ∷ 8 ∷ 9 ∷ 11 ∷ []

abbrev item_kinds : List ℕ
item_kinds = 4 ∷ 5 ∷ 6 ∷ 7 ∷ 8 ∷ 9 ∷ 11 ∷ 12 ∷ 13 ∷ 14 ∷ 15 ∷ []

edge-kinds : (p : ℕ → Bool) → T (p 7) → T (p 8) → (e : Edge) → Kinds p (edge_records e)
edge-kinds p seven eight e =
    and_intro (p 7) (all (λ r. p (kind r)) (map record'.EdgeArgument e.arguments)) seven
    (kinds-map p record'.EdgeArgument (λ x. kind-edge_argument p x eight) e.arguments)

-- the parts of an instruction's body
module _ (i : Instruction) where
  abbrev argument_records : List Record
  argument_records = map record'.Argument i.arguments

  abbrev result_records : List Record
  result_records = map record'.Result i.results

  abbrev edges_records : List Record
  edges_records = concat_map edge_records i.edges

  abbrev context_records : List Record
  context_records = map record'.Context i.contexts

  abbrev entry_records : List Record
  entry_records = map (λ x. record'.MapEntry x.slot x.size) i.entries

  abbrev behind_edges : List Record
  behind_edges = context_records ++ entry_records

  abbrev from_edges : List Record
  from_edges = edges_records ++ behind_edges

  abbrev body_records : List Record
  body_records = argument_records ++ (result_records ++ from_edges)

  -- what a test that passes their kinds says of the parts
  module _ (p : ℕ → Bool) where
    argument-kinds : T (p 6) → Kinds p argument_records
    argument-kinds h = kinds-map p record'.Argument (λ _. h) i.arguments

    result-kinds : T (p 5) → Kinds p result_records
    result-kinds h = kinds-map p record'.Result (λ _. h) i.results

    edges-kinds : T (p 7) → T (p 8) → Kinds p edges_records
    edges-kinds seven eight = kinds-concat_map p edge_records (edge-kinds p seven eight) i.edges

    context-kinds : T (p 9) → Kinds p context_records
    context-kinds h = kinds-map p record'.Context (λ _. h) i.contexts

    entry-kinds : T (p 11) → Kinds p entry_records
    entry-kinds h = kinds-map p (λ (x : MapEntry). record'.MapEntry x.slot x.size) (λ _. h) i.entries

    behind-kinds : T (p 9) → T (p 11) → Kinds p behind_edges
    behind-kinds nine eleven = kinds-append p context_records entry_records (context-kinds nine) (entry-kinds eleven)

    from-kinds : T (p 7) → T (p 8) → T (p 9) → T (p 11) → Kinds p from_edges
    from-kinds seven eight nine eleven =
        kinds-append p edges_records behind_edges (edges-kinds seven eight) (behind-kinds nine eleven)

    body-kinds : T (all p body_kinds) → Kinds p body_records
    body-kinds h =
        kinds-append p argument_records (result_records ++ from_edges) (argument-kinds (passes_at p body_kinds h 6 tt))
        (kinds-append p result_records from_edges (result-kinds (passes_at p body_kinds h 5 tt))
        (from-kinds (passes_at p body_kinds h 7 tt) (passes_at p body_kinds h 8 tt) (passes_at p body_kinds h 9 tt) (passes_at p body_kinds h 11 tt)))

-- every part of an instruction is read back from its body
module _ (i : Instruction) where
  abbrev second : Words → ℕ
  second w = w.second

  arguments-back : named 6 (body_records i) ≡ i.arguments
  arguments-back =
      ap (map second)
      (of_kind-stop 6 (argument_records i) (result_records i ++ from_edges i)
      (kinds-append (λ j. not (eqb j 6)) (result_records i) (from_edges i) (result-kinds i (λ j. not (eqb j 6)) tt) (from-kinds i (λ j. not (eqb j 6)) tt tt tt tt)))
      ∙ named_back 6 record'.Argument (λ _. tt) (λ _. refl) i.arguments

  results-back : named 5 (body_records i) ≡ i.results
  results-back =
      ap (map second)
      (of_kind-skip 5 (argument_records i) (result_records i ++ from_edges i) (argument-kinds i (λ j. not (eqb j 5)) tt)
      ∙ of_kind-stop 5 (result_records i) (from_edges i) (from-kinds i (λ j. not (eqb j 5)) tt tt tt tt))
      ∙ named_back 5 record'.Result (λ _. tt) (λ _. refl) i.results

  edges_of-back : edges_of (body_records i) ≡ i.edges
  edges_of-back =
      ap (λ (c : Cut). map edge_of c.sections)
      (cut-front (eqb 7) (argument_records i) (result_records i ++ from_edges i) (argument-kinds i (λ j. not (eqb 7 j)) tt))
      ∙ ap (λ (c : Cut). map edge_of c.sections) (cut-front (eqb 7) (result_records i) (from_edges i) (result-kinds i (λ j. not (eqb 7 j)) tt))
      ∙ (edges-back i.edges (behind_edges i) (behind-kinds i neither tt tt)).0

  -- the records of a kind that stands behind the edges
  of_kind-behind : (k : ℕ) → T (all (λ j. not (eqb j k)) (5 ∷ 6 ∷ 7 ∷ 8 ∷ [])) → of_kind k (body_records i) ≡ of_kind k (behind_edges i)
  of_kind-behind k h =
      let at = passes_at (λ j. not (eqb j k)) (5 ∷ 6 ∷ 7 ∷ 8 ∷ []) h in
      of_kind-skip k (argument_records i) (result_records i ++ from_edges i) (argument-kinds i (λ j. not (eqb j k)) (at 6 tt))
      ∙ of_kind-skip k (result_records i) (from_edges i) (result-kinds i (λ j. not (eqb j k)) (at 5 tt))
      ∙ of_kind-skip k (edges_records i) (behind_edges i) (edges-kinds i (λ j. not (eqb j k)) (at 7 tt) (at 8 tt))

  contexts-back : named 9 (body_records i) ≡ i.contexts
  contexts-back =
      ap (map second) (of_kind-behind 9 tt ∙ of_kind-stop 9 (context_records i) (entry_records i) (entry-kinds i (λ j. not (eqb j 9)) tt))
      ∙ named_back 9 record'.Context (λ _. tt) (λ _. refl) i.contexts

  abbrev entry_of : Words → MapEntry
  entry_of w = record { slot = w.second; size = w.third }

  entries-back : map entry_of (of_kind 11 (body_records i)) ≡ i.entries
  entries-back =
      ap (map entry_of)
      (of_kind-behind 11 tt ∙ of_kind-skip 11 (context_records i) (entry_records i) (context-kinds i (λ j. not (eqb j 11)) tt)
      ∙ of_kind-map 11 (λ (x : MapEntry). record'.MapEntry x.slot x.size) (λ _. tt) i.entries)
      ∙ map_back entry_of (λ (x : MapEntry). encode (record'.MapEntry x.slot x.size)) (λ _. refl) i.entries

  abbrev instruction_record : Record
  instruction_record = record'.Instruction i.safepoint i.terminator i.tag

  instruction-back : instruction_of (record { head = instruction_record; body = body_records i }) ≡ i
  instruction-back =
      λ k. record {
        safepoint = safepoint-back i.safepoint i.terminator k;
        terminator = terminator-back i.safepoint i.terminator k;
        tag = i.tag;
        arguments = arguments-back k;
        results = results-back k;
        edges = edges_of-back k;
        contexts = contexts-back k;
        entries = entries-back k;
      }

-- an item's records: the one that opens it, and its body
abbrev item_head : Item → Record
item_head (instruction i) = instruction_record i
item_head (slot_address result slot) = record'.SlotAddress result slot
item_head (store value address) = record'.Store value address
item_head (load result address size) = record'.Load result address size
item_head (jump e) = record'.Jump

abbrev item_body : Item → List Record
item_body (instruction i) = body_records i
item_body (slot_address _ _) = []
item_body (store _ _) = []
item_body (load _ _ _) = []
item_body (jump e) = edge_records e

item_records-split : (x : Item) → item_records x ≡ item_head x ∷ item_body x
item_records-split (instruction i) = refl
item_records-split (slot_address _ _) = refl
item_records-split (store _ _) = refl
item_records-split (load _ _ _) = refl
item_records-split (jump e) = refl

item_head-opens : (x : Item) → T (opens_item (kind (item_head x)))
item_head-opens (instruction i) = tt
item_head-opens (slot_address _ _) = tt
item_head-opens (store _ _) = tt
item_head-opens (load _ _ _) = tt
item_head-opens (jump e) = tt

item_body-kinds : (p : ℕ → Bool) → T (all p body_kinds) → (x : Item) → Kinds p (item_body x)
item_body-kinds p h (instruction i) = body-kinds i p h
item_body-kinds p h (slot_address _ _) = tt
item_body-kinds p h (store _ _) = tt
item_body-kinds p h (load _ _ _) = tt
item_body-kinds p h (jump e) = edge-kinds p (passes_at p body_kinds h 7 tt) (passes_at p body_kinds h 8 tt) e

item_head-kind : (p : ℕ → Bool) → T (all p item_kinds) → (x : Item) → T (p (kind (item_head x)))
item_head-kind p h (instruction i) = passes_at p item_kinds h 4 tt
item_head-kind p h (slot_address _ _) = passes_at p item_kinds h 12 tt
item_head-kind p h (store _ _) = passes_at p item_kinds h 13 tt
item_head-kind p h (load _ _ _) = passes_at p item_kinds h 14 tt
item_head-kind p h (jump e) = passes_at p item_kinds h 15 tt

items-kinds : (p : ℕ → Bool) → T (all p item_kinds) → T (all p body_kinds) → (xs : List Item) → Kinds p (concat_map item_records xs)
items-kinds p h k xs =
    kinds-concat_map p item_records
    (λ x. rw (item_records-split x) (and_intro (p (kind (item_head x))) (all (λ r. p (kind r)) (item_body x)) (item_head-kind p h x) (item_body-kinds p k x)))
    xs

-- a jump is read back with its edge
jump_back : (e : Edge) → jump (first_edge (edges_of (edge_records e))) ≡ jump e
jump_back e =
    ap (λ (rs : List Record). jump (first_edge (edges_of rs))) (sym (append-nil (edge_records e)) ∙ sym (append-nil (edge_records e ++ [])))
    ∙ ap (λ (es : List Edge). jump (first_edge es)) (edges-back (e ∷ []) [] tt).0

item_back : (x : Item) → item_of (record { head = item_head x; body = item_body x }) ≡ x
item_back (instruction i) = ap instruction (instruction-back i)
item_back (slot_address _ _) = refl
item_back (store _ _) = refl
item_back (load _ _ _) = refl
item_back (jump e) = jump_back e

-- a block's records: the one that opens it, and its body
abbrev block_head : Block → Record
block_head b = record'.Block b.cold b.number

abbrev parameter_records : Block → List Record
parameter_records b = map record'.Parameter b.parameters

abbrev block_body : Block → List Record
block_body b = parameter_records b ++ concat_map item_records b.items

block_body-kinds : (p : ℕ → Bool) → T (all p (3 ∷ item_kinds)) → T (all p body_kinds) → (b : Block) → Kinds p (block_body b)
block_body-kinds p h k b =
    kinds-append p (parameter_records b) (concat_map item_records b.items)
    (kinds-map p record'.Parameter (λ _. and_left (p 3) (all p item_kinds) h) b.parameters)
    (items-kinds p (and_right (p 3) (all p item_kinds) h) k b.items)

-- an item's section
abbrev item_section : Item → Section
item_section x = record { head = item_head x; body = item_body x }

items_back : (b : Block) → map item_of (cut opens_item (block_body b)).sections ≡ b.items
items_back b =
    ap (λ (c : Cut). map item_of c.sections)
    (cut-front opens_item (parameter_records b) (concat_map item_records b.items) (kinds-map (λ j. not (opens_item j)) record'.Parameter (λ _. tt) b.parameters))
    ∙ ap (λ (rs : List Record). map item_of (cut opens_item rs).sections) (concat_map-same item_records (λ x. item_head x ∷ item_body x) item_records-split b.items)
    ∙ ap (λ (c : Cut). map item_of c.sections)
    (cut-sections opens_item item_head item_body item_head-opens (item_body-kinds (λ j. not (opens_item j)) tt) b.items)
    ∙ map_back item_of item_section item_back b.items

parameters-back : (b : Block) → named 3 (block_body b) ≡ b.parameters
parameters-back b =
    ap (map (λ (w : Words). w.second))
    (of_kind-stop 3 (parameter_records b) (concat_map item_records b.items) (items-kinds (λ j. not (eqb j 3)) tt tt b.items))
    ∙ named_back 3 record'.Parameter (λ _. tt) (λ _. refl) b.parameters

block_back : (b : Block) → block_of (record { head = block_head b; body = block_body b }) ≡ b
block_back b =
    λ k. record { cold = bit-back b.cold k; number = b.number; parameters = parameters-back b k; items = items_back b k }

-- a function's records in front of its blocks, and its blocks
module _ (f : Function) where
  abbrev value_records : List Record
  value_records = map (λ x. record'.Value x.size x.marked) f.values

  abbrev slot_records : List Record
  slot_records = map record'.Slot f.slots

  abbrev blocks_records : List Record
  blocks_records = concat_map block_records f.blocks

  value-kinds : (p : ℕ → Bool) → T (p 1) → Kinds p value_records
  value-kinds p h = kinds-map p (λ (x : Value). record'.Value x.size x.marked) (λ _. h) f.values

  slot-kinds : (p : ℕ → Bool) → T (p 10) → Kinds p slot_records
  slot-kinds p h = kinds-map p record'.Slot (λ _. h) f.slots

  blocks-kinds : (p : ℕ → Bool) → T (all p (2 ∷ 3 ∷ item_kinds)) → T (all p body_kinds) → Kinds p blocks_records
  blocks-kinds p h k =
      kinds-concat_map p block_records
      (λ b. and_intro (p 2) (all (λ r. p (kind r)) (block_body b)) (and_left (p 2) (all p (3 ∷ item_kinds)) h)
      (block_body-kinds p (and_right (p 2) (all p (3 ∷ item_kinds)) h) k b))
      f.blocks

  abbrev value_of : Words → Value
  value_of w = record { size = w.second; marked = eqb w.third 1 }

  values-back : map value_of (of_kind 1 (value_records ++ (slot_records ++ blocks_records))) ≡ f.values
  values-back =
      ap (map value_of)
      (of_kind-stop 1 value_records (slot_records ++ blocks_records)
      (kinds-append (λ j. not (eqb j 1)) slot_records blocks_records (slot-kinds (λ j. not (eqb j 1)) tt) (blocks-kinds (λ j. not (eqb j 1)) tt tt))
      ∙ of_kind-map 1 (λ (x : Value). record'.Value x.size x.marked) (λ _. tt) f.values)
      ∙ map_back value_of (λ (x : Value). encode (record'.Value x.size x.marked))
      (λ x. λ k. record { size = x.size; marked = bit-back x.marked k }) f.values

  slots-back : named 10 (value_records ++ (slot_records ++ blocks_records)) ≡ f.slots
  slots-back =
      ap (map (λ (w : Words). w.second))
      (of_kind-skip 10 value_records (slot_records ++ blocks_records) (value-kinds (λ j. not (eqb j 10)) tt)
      ∙ of_kind-stop 10 slot_records blocks_records (blocks-kinds (λ j. not (eqb j 10)) tt tt))
      ∙ named_back 10 record'.Slot (λ _. tt) (λ _. refl) f.slots

  blocks-back : map block_of (cut (eqb 2) (value_records ++ (slot_records ++ blocks_records))).sections ≡ f.blocks
  blocks-back =
      ap (λ (c : Cut). map block_of c.sections) (cut-front (eqb 2) value_records (slot_records ++ blocks_records) (value-kinds (λ j. not (eqb 2 j)) tt))
      ∙ ap (λ (c : Cut). map block_of c.sections) (cut-front (eqb 2) slot_records blocks_records (slot-kinds (λ j. not (eqb 2 j)) tt))
      ∙ ap (λ (c : Cut). map block_of c.sections)
      (cut-sections (eqb 2) block_head block_body (λ _. tt) (block_body-kinds (λ j. not (eqb 2 j)) tt tt) f.blocks)
      ∙ map_back block_of (λ b. record { head = block_head b; body = block_body b }) block_back f.blocks

  -- reading what was encoded gives the same tree
  pub function-back : function (function_records f) ≡ f
  unfolding function function_records
  function-back = λ k. record { values = values-back k; slots = slots-back k; blocks = blocks-back k }
