-- A tree whose numbers are words can be written: its records are in the table, and their words have 32 bits.
use Rattle.std.specs.Prelude.{ℕ, ◌+◌, ◌*◌, refl, List, [], ◌∷◌, ◌++◌, map, T, leb}
use Rattle.std.proofs.Common.{arith, leb→le, le→leb}
use Rattle.rules.specs.Lists.{has, concat_map}
use Rattle.rules.specs.Tree.{Value, Edge, MapEntry, Instruction, Item, instruction, slot_address, store, load, jump, Block, Function}
use Rattle.rules.specs.Records.{bit, slot_sizes, encode}
use Rattle.rules.specs.File.{edge_records, item_records, block_records, function_records}
use Rattle.rules.specs.declared.EdgeArgument.{EdgeArgument}
use Rattle.rules.specs.declared.EdgeArgument.TheVariants as passes
use Rattle.rules.specs.declared.Record.{Record}
use Rattle.rules.specs.declared.Record.TheVariants as record'
use Rattle.lists.specs.Tests.{and_intro, passes_at}
use Rattle.lists.specs.Members.{◌∈◌, here, there}
use Rattle.records.specs.Writing.{IsWord, in_table, Writable, AllWritable}
use Rattle.demand3.specs.SlotTables.{ValueSize}
use Rattle.demand3.specs.Words.{bit-small, log-small}

-- LISTS that can be written
writable-append : (xs ys : List Record) → AllWritable xs → AllWritable ys → AllWritable (xs ++ ys)
writable-append [] ys a b = b
writable-append (x ∷ xs) ys a b = (a.0, writable-append xs ys a.1 b)

module _ {A : Type 0} where
  writable-map : (c : A → Record) (xs : List A) → ((x : A) → x ∈ xs → Writable (c x)) → AllWritable (map c xs)
  writable-map c [] h = tt
  writable-map c (x ∷ xs) h = (h x (here refl), writable-map c xs (λ y m. h y (there m)))

  writable-concat_map : (g : A → List Record) (xs : List A) → ((x : A) → x ∈ xs → AllWritable (g x)) → AllWritable (concat_map g xs)
  writable-concat_map g [] h = tt
  writable-concat_map g (x ∷ xs) h =
      writable-append (g x) (concat_map g xs) (h x (here refl)) (writable-concat_map g xs (λ y m. h y (there m)))

-- every number of a list is a word
abbrev pub AllWords : List ℕ → Type 0
AllWords vs = (v : ℕ) → v ∈ vs → IsWord v

-- PARTS whose numbers are words
abbrev pub FineArgument : EdgeArgument → Type 0
FineArgument x = IsWord (encode (record'.EdgeArgument x)).third

-- an edge
pub record FineEdge (e : Edge) : Type 0 where
  pub target : IsWord e.target
  pub arguments : (x : EdgeArgument) → x ∈ e.arguments → FineArgument x

-- an instruction
pub record FineInstruction (i : Instruction) : Type 0 where
  pub tag : IsWord i.tag
  pub arguments : AllWords i.arguments
  pub results : AllWords i.results
  pub edges : (e : Edge) → e ∈ i.edges → FineEdge e
  pub contexts : AllWords i.contexts
  pub entries : (x : MapEntry) → x ∈ i.entries → IsWord x.slot × IsWord x.size

-- an item
abbrev pub FineItem : Item → Type 0
FineItem (instruction i) = FineInstruction i
FineItem (slot_address r s) = IsWord r × IsWord s
FineItem (store v a) = IsWord v × IsWord a
FineItem (load r a size) = IsWord r × IsWord a × IsWord size
FineItem (jump e) = FineEdge e

-- a block
pub record FineBlock (b : Block) : Type 0 where
  pub number : IsWord b.number
  pub parameters : AllWords b.parameters
  pub items : (x : Item) → x ∈ b.items → FineItem x

-- a function whose values have a value's size, and its slots a slot's
pub record FineFunction (f : Function) : Type 0 where
  pub values : (x : Value) → x ∈ f.values → ValueSize x.size
  pub slots : (k : ℕ) → k ∈ f.slots → T (has k slot_sizes)
  pub blocks : (b : Block) → b ∈ f.blocks → FineBlock b

-- THEIR RECORDS
no : IsWord 0
no = omega arith

-- a record of the table whose words fit
plain : (r : Record) → T (in_table r) → IsWord (encode r).second → IsWord (encode r).third → IsWord (encode r).fourth → Writable r
plain r t a b c = record { table = t; second = a; third = b; fourth = c }

argument-writable : (x : EdgeArgument) → FineArgument x → Writable (record'.EdgeArgument x)
argument-writable (passes.Value v) h = plain _ tt (omega arith) h no
argument-writable (passes.Returned k) h = plain _ tt (omega arith) h no
argument-writable (passes.Exception k) h = plain _ tt (omega arith) h no

edge-writable : (e : Edge) → FineEdge e → AllWritable (edge_records e)
edge-writable e h =
    (plain _ tt h.target no no, writable-map record'.EdgeArgument e.arguments (λ x m. argument-writable x (h.arguments x m)))

instruction-writable : (i : Instruction) → FineInstruction i → AllWritable (item_records (instruction i))
instruction-writable i h =
    let flags : IsWord (bit i.safepoint + 2 * bit i.terminator) =
    omega (arith, bit-small i.safepoint, bit-small i.terminator) in (
      plain _ tt flags h.tag no,
      writable-append (map record'.Argument i.arguments) _
          (writable-map record'.Argument i.arguments (λ v m. plain _ tt (h.arguments v m) no no))
          (writable-append (map record'.Result i.results) _
          (writable-map record'.Result i.results (λ v m. plain _ tt (h.results v m) no no))
          (writable-append (concat_map edge_records i.edges) _
          (writable-concat_map edge_records i.edges (λ e m. edge-writable e (h.edges e m)))
          (writable-append (map record'.Context i.contexts) _
          (writable-map record'.Context i.contexts (λ v m. plain _ tt (h.contexts v m) no no))
          (writable-map (λ x. record'.MapEntry x.slot x.size) i.entries
          (λ x m. plain _ tt (h.entries x m).0 (h.entries x m).1 no))))),
    )

item-writable : (x : Item) → FineItem x → AllWritable (item_records x)
item-writable (instruction i) h = instruction-writable i h
item-writable (slot_address r s) h = (plain _ tt h.0 h.1 no, tt)
item-writable (store v a) h = (plain _ tt h.0 h.1 no, tt)
item-writable (load r a size) h = (plain _ tt h.0 h.1 h.2, tt)
item-writable (jump e) h = (plain _ tt no no no, edge-writable e h)

block-writable : (b : Block) → FineBlock b → AllWritable (block_records b)
block-writable b h = (
  plain _ tt (omega (arith, bit-small b.cold)) h.number no,
  writable-append (map record'.Parameter b.parameters) (concat_map item_records b.items)
      (writable-map record'.Parameter b.parameters (λ v m. plain _ tt (h.parameters v m) no no))
      (writable-concat_map item_records b.items (λ x m. item-writable x (h.items x m))),
)

slot-writable : (k : ℕ) → T (has k slot_sizes) → IsWord k → Writable (record'.Slot k)
slot-writable k t l = plain _ t l (log-small k) no

-- a slot's size is small
slot_small : (k : ℕ) → T (has k slot_sizes) → IsWord k
slot_small k t = let l = leb→le k 16 (passes_at (λ j. leb j 16) slot_sizes tt k t) in omega (arith, l)

-- A fine tree can be written.
pub function-writable : (f : Function) → FineFunction f → AllWritable (function_records f)
unfolding function_records
function-writable f h =
    writable-append (map (λ x. record'.Value x.size x.marked) f.values) _
    (writable-map (λ x. record'.Value x.size x.marked) f.values
    (λ x m.
    let size = h.values x m in
    plain _ (and_intro (leb 1 x.size) (leb x.size 64) (le→leb 1 x.size size.0) (le→leb x.size 64 size.1))
    (omega (arith, size.1)) (omega (arith, bit-small x.marked)) no))
    (writable-append (map record'.Slot f.slots) (concat_map block_records f.blocks)
    (writable-map record'.Slot f.slots (λ k m. slot-writable k (h.slots k m) (slot_small k (h.slots k m))))
    (writable-concat_map block_records f.blocks (λ b m. block-writable b (h.blocks b m))))
