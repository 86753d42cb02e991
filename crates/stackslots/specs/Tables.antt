-- WHAT THE TABLES OF SLOTS STAND FOR. The noted steps are gone through over lent tables of numbers: by value the tag of its
-- slot, and the free lists of the five classes in one flat array. A node of a list is a step that freed a slot: it holds
-- that slot, by its value, and the tag of the node before it on the list. A tag is 0 for none, and one more than the number.
use Rattle.std.specs.Prelude.{ℕ, suc, ◌/◌, ◌%◌, ◌<◌, ◌≤◌, ◌≡◌, true, false, cond, List, [], ◌∷◌, length, get_or, take, T, eqb}
use Rattle.std.proofs.Math.Option.{Option, none, some}
use Rattle.rules.specs.Lists.{is_none, has}
use Rattle.rules.specs.Tree.{Function}
use Rattle.rules.specs.Records.{slot_sizes, records}
use Rattle.rules.specs.File.{ordered, function_in}
use Rattle.rules.specs.Graph.{size_of}
use Rattle.rules.specs.Slots.{StackSlots}
use Rattle.demand3.specs.SlotTables.{SlotsGood}
use Rattle.slots.specs.Classes.{index, bytes}
use Rattle.slots.specs.declared.SlotSize.{SlotSize}
use Rattle.graph.specs.Zeros.{Zeros}
use Rattle.rows.specs.Rows.{row_values}
use Rattle.numbering.specs.Beside.{made, tag}
use Rattle.planning.specs.Standing.{slots_by}
use Rattle.stackslots.specs.declared.freelists.StackSlots.{StackSlots as StackSlots'}

-- By class the tag of the list's last node, by node the tag of the older one, by value the tag of its slot; and how many
-- slots are made.
pub record SlotTables : Type 0 where
  pub heads : List ℕ
  pub older : List ℕ
  pub tags : List ℕ
  pub made : ℕ

abbrev pub slot_tables : List ℕ → List ℕ → List ℕ → ℕ → SlotTables
slot_tables heads older tags made = record { heads = heads; older = older; tags = tags; made = made }

-- those of the Rust's struct
abbrev pub tables : StackSlots' → SlotTables
tables slots = slot_tables slots.heads.now slots.older.now slots.tags.now slots.made

-- which stand where they stood: each of its references is the one that it was made of
pub record SameLent (old new : StackSlots') : Type 0 where
  pub heads : new.heads.ghost_name ≡ old.heads.ghost_name
  pub older : new.older.ghost_name ≡ old.older.ghost_name
  pub tags : new.tags.ghost_name ≡ old.tags.ghost_name

-- the value that a step names
abbrev pub value_of : List ℕ → ℕ → ℕ
value_of steps i = get_or steps i 0 / 2

-- the number that is noted of a step, by the tag of its value's slot before it and behind it
abbrev pub place_number : ℕ → ℕ → ℕ → ℕ
place_number step before after = cond (eqb (step % 2) 0) (cond (eqb before 0) after 0) before

-- the slot that a value has now, where it had none
abbrev pub new_slot : Option ℕ → Option ℕ → Option ℕ
new_slot none now = now
new_slot (some _) now = none

-- A FREE LIST, from a node on: of the first n steps, the slots of their values, last freed first.
abbrev pub Freed : (steps : List ℕ) → ℕ → (older tags : List ℕ) → ℕ → List ℕ → Type 0
Freed steps n older tags tag [] = tag ≡ 0
Freed steps n older tags tag (slot ∷ rest) =
    (node : ℕ)
    × (tag ≡ suc node)
    × (node < n)
    × (get_or tags (value_of steps node) 0 ≡ suc slot)
    × Freed steps n older tags (get_or older node 0) rest

-- THE TABLES STAND FOR SLOTS, after n steps.
pub record Stands (steps : List ℕ) (n : ℕ) (p : StackSlots) (t : SlotTables) : Type 0 where
  pub counted : t.made ≡ length p.made
  pub slots : (v : ℕ) → made (get_or t.tags v 0) ≡ p.slot_of v
  pub free : (c : SlotSize) → Freed steps n t.older t.tags (get_or t.heads (index c) 0) (p.free (bytes c))
  pub good : SlotsGood row_values p

-- every value that has a slot has a place in the tables, and a size that a slot can have
abbrev pub Fitting : Function → StackSlots → Type 0
Fitting f p = (v : ℕ) → is_none (p.slot_of v) ≡ false → (v < row_values) × T (has (size_of f v) slot_sizes)

-- there is a place for each class, for n nodes, and for each value
pub record Room (n : ℕ) (t : SlotTables) : Type 0 where
  pub heads : 5 ≤ length t.heads
  pub older : n ≤ length t.older
  pub tags : row_values ≤ length t.tags

-- the tables keep their lengths
pub record SameLong (t t' : SlotTables) : Type 0 where
  pub heads : length t'.heads ≡ length t.heads
  pub older : length t'.older ≡ length t.older
  pub tags : length t'.tags ≡ length t.tags

module _ (s steps : List ℕ) where
  -- the slots after i steps
  abbrev pub slots_after : ℕ → StackSlots
  slots_after i = slots_by (function_in s) steps i

  -- before step i
  pub record Turn (i : ℕ) (t : SlotTables) : Type 0 where
    pub in_order : ordered 0 (records s) ≡ true
    pub in_steps : i < length steps
    pub stands : Stands steps i (slots_after i) t
    pub room : Room (suc i) t
    pub fitting : Fitting (function_in s) (slots_after (suc i))

  -- behind it
  pub record Turned (i : ℕ) (t t' : SlotTables) : Type 0 where
    pub stands : Stands steps (suc i) (slots_after (suc i)) t'
    pub long : SameLong t t'

  -- the slot that step i takes or gives back, none where it changes nothing
  abbrev pub placed : ℕ → Option ℕ
  placed i =
      cond (eqb (get_or steps i 0 % 2) 0) (new_slot ((slots_after i).slot_of (value_of steps i)) ((slots_after (suc i)).slot_of (value_of steps i)))
      ((slots_after i).slot_of (value_of steps i))

  -- what is lent for count steps: room, with empty lists, and no value that has a slot
  pub record Lent (count : ℕ) (heads older tags : List ℕ) : Type 0 where
    pub in_order : ordered 0 (records s) ≡ true
    pub in_steps : count ≤ length steps
    pub room : Room count (slot_tables heads older tags 0)
    pub empty_heads : Zeros heads
    pub empty_tags : Zeros tags
    pub fitting : Fitting (function_in s) (slots_after count)

  -- THE PLACES FOUND: which slot each step is about, and how many are made.
  pub record PlacesFound (count : ℕ) (heads older tags places : List ℕ) (r : ℕ) (heads' older' tags' places' : List ℕ) : Type 0 where
    pub counted : r ≡ length (slots_after count).made
    pub tagged : (v : ℕ) → made (get_or tags' v 0) ≡ (slots_after count).slot_of v
    pub good : (i : ℕ) → i ≤ count → SlotsGood row_values (slots_after i)
    pub found : (i : ℕ) → i < count → get_or places' i 0 ≡ tag (placed i)
    pub long : SameLong (slot_tables heads older tags 0) (slot_tables heads' older' tags' r)
    pub places_long : length places' ≡ length places

  -- THE STEPS REPLAYED: the slots made, by size, and each value's slot.
  pub record Replayed (count : ℕ) (heads older tags sizes : List ℕ) (r : ℕ) (heads' older' tags' sizes' : List ℕ) : Type 0 where
    pub slots : take r sizes' ≡ (slots_after count).made
    pub tagged : (v : ℕ) → made (get_or tags' v 0) ≡ (slots_after count).slot_of v
    pub few : r ≤ row_values
    pub long : SameLong (slot_tables heads older tags 0) (slot_tables heads' older' tags' r)
    pub sizes_long : length sizes' ≡ length sizes
