-- How two functions are found to be related by what holds where blocks are entered: if it holds where block 0 is entered first,
-- and each block, entered where it holds, reads what it may and leaves only into blocks where it holds again, then it holds
-- on every path. What holds is any property of a block's number and a ghost.
use Rattle.std.specs.Prelude.{ℕ, ◌≡◌, ◌⊎◌, not, List, [], ◌∷◌, ◌++◌, map, T}
use Rattle.std.proofs.Common.{sym, subst, inl, inr, ⊎_elim, T_not}
use Rattle.std.proofs.Math.Option.{Option, none, some}
use Rattle.rules.specs.Lists.{has}
use Rattle.rules.specs.Tree.{Edge, Instruction, Item, instruction, slot_address, store, load, jump, Block, Function}
use Rattle.rules.specs.Graph.{block_at, is_marked}
use Rattle.rules.specs.declared.EdgeArgument.{EdgeArgument}
use Rattle.lists.specs.Members.{not-∈-nil, ∈-elim}
use Rattle.simulation.specs.Ghost.{Meaning, word, Ghost, nothing_known, loaded_through, past, defining}
use Rattle.simulation.specs.Ghost.{stepping, passing, jumping, binding}
use Rattle.simulation.specs.Related.{Each, Paired, numbers, IsBlock, Place, at, crossing, is_added, Laid}
use Rattle.simulation.specs.Related.{Reached, start, onward, direct, landed, IsWord, IsAddress, Passes, Lands, Related}
use Rattle.simulation.specs.Blocks.{found-has}
use Rattle.simulation.specs.Checking.{head_of, behind}

-- ADDED ITEMS
-- an item reads what it may: a store a word, through an address; a load through the address of a slot that holds a word
abbrev pub Reads : Item → Ghost → Type 0
Reads (instruction _) γ = Unit
Reads (slot_address _ _) γ = Unit
Reads (store x a) γ = IsWord (γ.words x) × IsAddress (γ.words a)
Reads (load _ a _) γ = IsAddress (γ.words a) × IsWord (loaded_through (γ.words a) γ.slots)
Reads (jump _) γ = Unit

-- behind several items
abbrev pub past_all : List Item → Ghost → Ghost
past_all [] γ = γ
past_all (x ∷ xs) γ = past_all xs (past x γ)

-- all are added, and each reads what it may
abbrev pub ReadsAll : List Item → Ghost → Type 0
ReadsAll [] γ = Unit
ReadsAll (x ∷ xs) γ = T (is_added x) × Reads x γ × ReadsAll xs (past x γ)

-- members at one place of two lists that are related member by member are related
pub each-paired : {A B : Type 0} (R : A → B → Type 0) (xs : List A) (ys : List B) → Each R xs ys
    → (x : A) (y : B) → Paired x y xs ys → R x y
each-paired R [] ys r x y m = absurd (not-∈-nil m)
each-paired R (a ∷ xs) [] r x y m = absurd (not-∈-nil m)
each-paired {A} {B} R (a ∷ xs) (b ∷ ys) r x y m =
    ∈-elim (λ e. subst (λ (z : A × B). R z.0 z.1) (sym e) r.0) (each-paired R xs ys r.1 x y) m

module _ (f g : Function) (Entry : ℕ → Ghost → Type 0) where
  -- an edge that leads where the original's does, into a block that may be entered so
  abbrev pub Leads : (EdgeArgument → Meaning) → Edge → Edge → Ghost → Type 0
  Leads mean e e' γ = Passes f mean e e' × Entry e'.target γ

  -- a landing's items, on the original's edge e
  abbrev pub Crosses : Edge → List Item → Ghost → Type 0
  Crosses e [] γ = Unit
  Crosses e (instruction _ ∷ js) γ = Unit
  Crosses e (slot_address r s ∷ js) γ = Crosses e js (past (slot_address r s) γ)
  Crosses e (store x a ∷ js) γ = Reads (store x a) γ × Crosses e js (past (store x a) γ)
  Crosses e (load r a size ∷ js) γ = Reads (load r a size) γ × Crosses e js (past (load r a size) γ)
  Crosses e (jump e' ∷ js) γ = Leads (jumping γ) e e' γ

  -- an edge into a landing, which leads on
  abbrev pub LandsWell : Edge → Edge → Ghost → Type 0
  LandsWell e e' γ =
      Lands f g e'
      × ((l : Block) → IsBlock g e'.target l
      → Crosses e l.items (binding l.parameters (map (passing γ) e'.arguments) γ))

  -- an edge, either way
  abbrev pub Goes : Ghost → Edge → Edge → Type 0
  Goes γ e e' = Leads (passing γ) e e' γ ⊎ LandsWell e e' γ

  -- an instruction in place of the original's
  abbrev pub Performs : Option Instruction → Instruction → Ghost → Type 0
  Performs none j γ = Unit
  Performs (some i) j γ =
      Each (λ v x. γ.words x ≡ word v) i.arguments j.arguments × Each (Goes (stepping (is_marked f) j γ)) i.edges j.edges

  -- a block's items, where the original is at its own
  abbrev pub Follows : List Item → List Item → Ghost → Type 0
  Follows is [] γ = Unit
  Follows is (instruction j ∷ js) γ = Performs (head_of is) j γ × Follows (behind is) js (stepping (is_marked f) j γ)
  Follows is (slot_address r s ∷ js) γ = Follows is js (past (slot_address r s) γ)
  Follows is (store x a ∷ js) γ = Reads (store x a) γ × Follows is js (past (store x a) γ)
  Follows is (load r a size ∷ js) γ = Reads (load r a size) γ × Follows is js (past (load r a size) γ)
  Follows is (jump _ ∷ js) γ = Unit

  -- added items in front of others
  pub follows-behind : (is xs js : List Item) (γ : Ghost) → ReadsAll xs γ → Follows is js (past_all xs γ) → Follows is (xs ++ js) γ
  follows-behind is [] js γ r h = h
  follows-behind is (instruction _ ∷ xs) js γ r h = absurd r.0
  follows-behind is (slot_address _ _ ∷ xs) js γ r h = follows-behind is xs js _ r.2 h
  follows-behind is (store _ _ ∷ xs) js γ r h = (r.1, follows-behind is xs js _ r.2 h)
  follows-behind is (load _ _ _ ∷ xs) js γ r h = (r.1, follows-behind is xs js _ r.2 h)
  follows-behind is (jump _ ∷ xs) js γ r h = absurd r.0

  pub crosses-behind : (e : Edge) (xs js : List Item) (γ : Ghost) → ReadsAll xs γ → Crosses e js (past_all xs γ)
      → Crosses e (xs ++ js) γ
  crosses-behind e [] js γ r h = h
  crosses-behind e (instruction _ ∷ xs) js γ r h = absurd r.0
  crosses-behind e (slot_address _ _ ∷ xs) js γ r h = crosses-behind e xs js _ r.2 h
  crosses-behind e (store _ _ ∷ xs) js γ r h = (r.1, crosses-behind e xs js _ r.2 h)
  crosses-behind e (load _ _ _ ∷ xs) js γ r h = (r.1, crosses-behind e xs js _ r.2 h)
  crosses-behind e (jump _ ∷ xs) js γ r h = absurd r.0

  -- PATHS
  abbrev Stands : Place → List Item → Ghost → Type 0
  Stands (at is) js γ = Follows is js γ
  Stands (crossing e) js γ = Crosses e js γ

  stands-added : (p : Place) (x : Item) (js : List Item) (γ : Ghost) → T (is_added x) → Stands p (x ∷ js) γ
      → Reads x γ × Stands p js (past x γ)
  stands-added p (instruction _) js γ t h = absurd t
  stands-added (at is) (slot_address r s) js γ t h = (tt, h)
  stands-added (crossing e) (slot_address r s) js γ t h = (tt, h)
  stands-added (at is) (store x a) js γ t h = h
  stands-added (crossing e) (store x a) js γ t h = h
  stands-added (at is) (load r a size) js γ t h = h
  stands-added (crossing e) (load r a size) js γ t h = h
  stands-added p (jump _) js γ t h = absurd t

  -- an edge that leads to a block of the original does not land, and one that lands leads to none
  leads-direct : {γ : Ghost} {e e' : Edge} {b : Block} → IsBlock f e'.target b → Goes γ e e' → Entry e'.target γ
  leads-direct k (inl h) = h.1
  leads-direct {e' = e'} {b = b} k (inr h) =
      absurd (T_not (has e'.target (numbers f.blocks)) h.0.new (found-has 0 e'.target f.blocks (k.0, b) k.1))

  leads-landing : {γ : Ghost} {e e' : Edge} → T (not (has e'.target (numbers f.blocks))) → Goes γ e e' → LandsWell e e' γ
  leads-landing {e = e} {e' = e'} new (inl h) =
      absurd (T_not (has e'.target (numbers f.blocks)) new
      (subst (λ t. T (has t (numbers f.blocks))) (sym h.0.target) h.0.in-file))
  leads-landing new (inr h) = h

  -- what holds of the entries
  pub record Kept : Type 0 where
    pub starts : Entry 0 nothing_known
    pub enters : (t : ℕ) (γ : Ghost) → Entry t γ → (b b' : Block) → IsBlock f t b → IsBlock g t b'
        → Follows b.items b'.items (defining b'.parameters γ)

  module _ (kept : Kept) where
    stands : {p : Place} {js : List Item} {γ : Ghost} → Reached f g p js γ → Stands p js γ
    stands (start {b} {b'} k k') = kept.enters 0 nothing_known kept.starts b b' k k'
    stands (Reached.added {p} {x} {js} {γ} t r) = (stands-added p x js γ t (stands r)).1
    stands (onward r) = (stands r).1
    stands (direct {i} {j} {is} {js} {γ} {e} {e'} {b} {b'} r pair k k') =
        let γ' = stepping (is_marked f) j γ in
        kept.enters e'.target γ' (leads-direct {γ = γ'} {e = e} {e' = e'} {b = b} k (each-paired (Goes γ') i.edges j.edges (stands r).0.1 e e' pair)) b b' k k'
    stands (Reached.landing {i} {j} {is} {js} {γ} {e} {e'} {l} r pair new k) =
        let γ' = stepping (is_marked f) j γ in
        (leads-landing {γ = γ'} {e = e} {e' = e'} new (each-paired (Goes γ') i.edges j.edges (stands r).0.1 e e' pair)).1 l k
    stands (landed {e} {e'} {js} {γ} {b} {b'} r k k') = kept.enters e'.target γ (stands r).1 b b' k k'

    each_goes : (γ : Ghost) (es es' : List Edge) → Each (Goes γ) es es' → Each (λ e e'. Passes f (passing γ) e e' ⊎ Lands f g e') es es'
    each_goes γ [] [] r = tt
    each_goes γ [] (_ ∷ _) r = absurd r
    each_goes γ (_ ∷ _) [] r = absurd r
    each_goes γ (e ∷ es) (e' ∷ es') r = (⊎_elim (λ h. inl h.0) (λ h. inr h.0) r.0, each_goes γ es es' r.1)

    -- So the functions are related, where they are laid alike.
    pub entries-related : Laid (numbers f.blocks) f.blocks g.blocks → T (has 0 (numbers f.blocks))
        → (block_at g 0).parameters ≡ (block_at f 0).parameters → Related f g
    entries-related laid begins first =
        record {
          laid = laid;
          begins = begins;
          first = first;
          stores = λ {p} {x} {a} {js} {γ} r. (stands-added p (store x a) js γ tt (stands r)).0;
          loads = λ {p} {r} {a} {size} {js} {γ} reached. (stands-added p (load r a size) js γ tt (stands reached)).0;
          arguments = λ r. (stands r).0.0;
          edges = λ {i} {j} {is} {js} {γ} r. each_goes (stepping (is_marked f) j γ) i.edges j.edges (stands r).0.1;
          jumps = λ r. (stands r).0;
        }
