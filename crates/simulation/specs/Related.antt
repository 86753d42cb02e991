-- When a function is another one rewritten: a static relation between two trees, for which Simulation.antt proves that
-- the two runs agree. The second tree is the first with added slot addresses, stores, loads, map entries and landings; and
-- on every path from block 0 each word that is read is surely the word meant. It does not say who wrote the second tree.
use Rattle.std.specs.Prelude.{ℕ, ◌+◌, ◌≡◌, ◌⊎◌, Bool, true, false, not, List, [], ◌∷◌, map, length, T, eqb}
use Rattle.std.proofs.Math.Option.{Option, none, some}
use Rattle.rules.specs.Lists.{count, has}
use Rattle.rules.specs.Tree.{Edge, MapEntry, Instruction, Item, instruction, slot_address, store, load, jump, Block, Function}
use Rattle.rules.specs.Graph.{block_at, is_marked, instructions_among}
use Rattle.rules.specs.Demand3.{every_instruction}
use Rattle.rules.specs.declared.EdgeArgument.{EdgeArgument}
pub use Rattle.lists.specs.Pairs.{Each, Paired}
use Rattle.simulation.specs.Ghost.{Meaning, address, word, Ghost, nothing_known, loaded_through, past, defining}
use Rattle.simulation.specs.Ghost.{stepping, passing, jumping, meant, binding}

-- BLOCKS BY NUMBER, as a run finds them: the block, and the number of its first instruction.
abbrev pub numbers : List Block → List ℕ
numbers bs = map (λ b. b.number) bs

abbrev pub found : ℕ → ℕ → List Block → Option (ℕ × Block)
found first t [] = none
found first t (b ∷ bs) =
    elim (eqb b.number t) [
      | true ↦ some (first, b)
      | false ↦ found (first + count every_instruction (instructions_among b.items)) t bs
    ]

-- block b has number t
abbrev pub IsBlock : Function → ℕ → Block → Type 0
IsBlock f t b = (first : ℕ) × (found 0 t f.blocks ≡ some (first, b))

-- SHAPE. Where the original is while the rewritten function is at some items: at items of its own, or on an edge.
pub data Place : Type 0 where
  at : List Item → Place
  crossing : Edge → Place

-- the instruction i with other arguments, as many edges, and map entries
abbrev pub replaced : Instruction → List ℕ → List Edge → List MapEntry → Instruction
replaced i arguments edges entries =
    record {
      safepoint = i.safepoint;
      terminator = i.terminator;
      tag = i.tag;
      arguments = arguments;
      results = i.results;
      edges = edges;
      contexts = i.contexts;
      entries = entries;
    }

abbrev pub is_added : Item → Bool
is_added (instruction _) = false
is_added (slot_address _ _) = true
is_added (store _ _) = true
is_added (load _ _ _) = true
is_added (jump _) = false

-- the items of a block are the original's instructions and added ones; those of a landing are added ones and its jump
pub data Shape : Place → List Item → Type 0 where
  done : Shape (at []) []
  kept : (i : Instruction) (arguments : List ℕ) (edges : List Edge) (entries : List MapEntry) {is js : List Item}
      → length edges ≡ length i.edges → Shape (at is) js
      → Shape (at (instruction i ∷ is)) (instruction (replaced i arguments edges entries) ∷ js)
  added : (x : Item) {p : Place} {js : List Item} → T (is_added x) → Shape p js → Shape p (x ∷ js)
  lands : (e e' : Edge) → Shape (crossing e) (jump e' ∷ [])

-- the block b with other items
abbrev pub refilled : Block → List Item → Block
refilled b items = record { cold = b.cold; number = b.number; parameters = b.parameters; items = items }

-- the blocks are the original's, in their order, and landings, whose numbers the original does not have
pub data Laid (original : List ℕ) : List Block → List Block → Type 0 where
  done : Laid original [] []
  block : (b : Block) {items : List Item} {bs bs' : List Block}
      → Shape (at b.items) items → Laid original bs bs' → Laid original (b ∷ bs) (refilled b items ∷ bs')
  landing : (l : Block) {bs bs' : List Block}
      → T (not (has l.number original)) → ((e : Edge) → Shape (crossing e) l.items) → Laid original bs bs'
      → Laid original bs (l ∷ bs')

-- PATHS of the rewritten function g from block 0, each with the place of the original f and with its ghost.
pub data Reached (f g : Function) : Place → List Item → Ghost → Type 0 where
  start : {b b' : Block} → IsBlock f 0 b → IsBlock g 0 b'
      → Reached f g (at b.items) b'.items (defining b'.parameters nothing_known)
  added : {p : Place} {x : Item} {js : List Item} {γ : Ghost} → T (is_added x) → Reached f g p (x ∷ js) γ
      → Reached f g p js (past x γ)
  onward : {i j : Instruction} {is js : List Item} {γ : Ghost}
      → Reached f g (at (instruction i ∷ is)) (instruction j ∷ js) γ → Reached f g (at is) js (stepping (is_marked f) j γ)
  -- by an edge to a block of the original
  direct : {i j : Instruction} {is js : List Item} {γ : Ghost} {e e' : Edge} {b b' : Block}
      → Reached f g (at (instruction i ∷ is)) (instruction j ∷ js) γ → Paired e e' i.edges j.edges
      → IsBlock f e'.target b → IsBlock g e'.target b'
      → Reached f g (at b.items) b'.items (defining b'.parameters (stepping (is_marked f) j γ))
  -- by an edge to a landing, and out of it by its jump
  landing : {i j : Instruction} {is js : List Item} {γ : Ghost} {e e' : Edge} {l : Block}
      → Reached f g (at (instruction i ∷ is)) (instruction j ∷ js) γ → Paired e e' i.edges j.edges
      → T (not (has e'.target (numbers f.blocks))) → IsBlock g e'.target l
      → Reached f g (crossing e) l.items
      (binding l.parameters (map (passing (stepping (is_marked f) j γ)) e'.arguments) (stepping (is_marked f) j γ))
  landed : {e e' : Edge} {js : List Item} {γ : Ghost} {b b' : Block}
      → Reached f g (crossing e) (jump e' ∷ js) γ → IsBlock f e'.target b → IsBlock g e'.target b'
      → Reached f g (at b.items) b'.items (defining b'.parameters γ)

-- WHAT IS READ
abbrev pub IsWord : Meaning → Type 0
IsWord m = (v : ℕ) × (m ≡ word v)

abbrev pub IsAddress : Meaning → Type 0
IsAddress m = (s : ℕ) × (m ≡ address s)

-- an edge leads where the original's edge e leads, with arguments of the meanings meant
pub record Passes (f : Function) (mean : EdgeArgument → Meaning) (e e' : Edge) : Type 0 where
  pub target : e'.target ≡ e.target
  pub in-file : T (has e.target (numbers f.blocks))
  pub arguments : Each (λ a a'. mean a' ≡ meant a) e.arguments e'.arguments

-- an edge leads to a landing
pub record Lands (f g : Function) (e' : Edge) : Type 0 where
  pub new : T (not (has e'.target (numbers f.blocks)))
  pub in-file : T (has e'.target (numbers g.blocks))

pub record Related (f g : Function) : Type 0 where
  -- g is f with added items and landings only
  pub laid : Laid (numbers f.blocks) f.blocks g.blocks
  -- there is a block 0, and the blocks that stand first have the same parameters
  pub begins : T (has 0 (numbers f.blocks))
  pub first : (block_at g 0).parameters ≡ (block_at f 0).parameters
  -- a store is of a word that is set and fresh, to the slot of an address
  pub stores : {p : Place} {x a : ℕ} {js : List Item} {γ : Ghost}
      → Reached f g p (store x a ∷ js) γ → IsWord (γ.words x) × IsAddress (γ.words a)
  -- a load is from the slot of an address, which surely holds a value
  pub loads : {p : Place} {r a size : ℕ} {js : List Item} {γ : Ghost}
      → Reached f g p (load r a size ∷ js) γ → IsAddress (γ.words a) × IsWord (loaded_through (γ.words a) γ.slots)
  -- an instruction reads what the original's reads
  pub arguments : {i j : Instruction} {is js : List Item} {γ : Ghost}
      → Reached f g (at (instruction i ∷ is)) (instruction j ∷ js) γ
      → Each (λ v x. γ.words x ≡ word v) i.arguments j.arguments
  -- each of its edges leads where the original's does, or to a landing
  pub edges : {i j : Instruction} {is js : List Item} {γ : Ghost}
      → Reached f g (at (instruction i ∷ is)) (instruction j ∷ js) γ
      → Each (λ e e'. Passes f (passing (stepping (is_marked f) j γ)) e e' ⊎ Lands f g e') i.edges j.edges
  -- and a landing's jump leads where the original's edge does
  pub jumps : {e e' : Edge} {js : List Item} {γ : Ghost} → Reached f g (crossing e) (jump e' ∷ js) γ → Passes f (jumping γ) e e'
