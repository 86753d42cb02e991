-- THE TABLE OF SLOT HOLDERS: entry k says of slot k its size, the value that was given it last, and whether that value holds
-- it still. What taking, giving, one step and all steps make of it.
use Rattle.std.specs.Prelude.{ℕ, zero, suc, ◌/◌, ◌%◌, ◌<◌, ◌≤◌, ◌≡◌, true, false, cond, List, length, set, get_or, eqb}
use Rattle.rules.specs.Records.{records}
use Rattle.rules.specs.File.{ordered, function_in}
use Rattle.rules.specs.Graph.{size_of}
use Rattle.holders.specs.declared.Holder.{Holder}
use Rattle.holders.specs.declared.Change.{Change}
use Rattle.holders.specs.declared.Change.TheVariants as change

-- the entry of a slot that is not made
abbrev pub nobody : Holder
nobody = record { size = 0; owner = 0; held = false }

-- a new slot gets the size of its value, and keeps it
abbrev pub size_taken : Holder → ℕ → ℕ
size_taken h size = cond (eqb h.size 0) size h.size

-- a value of a size takes the slot
abbrev pub taken_by : Holder → ℕ → ℕ → Holder
taken_by h value size = record { size = size_taken h size; owner = value; held = true }

-- a slot is given back, and still tells who had it
abbrev pub given_back : Holder → Holder
given_back h = record { size = h.size; owner = h.owner; held = false }

-- ONE STEP: a value takes the slot, or the slot is given back, or nothing changes. Only taking writes an owner and a size.
abbrev pub changed : Change → List Holder → List Holder
changed (change.Takes at owner size) table = set table at (taken_by (get_or table at nobody) owner size)
changed (change.Gives at owner size) table = set table at (given_back (get_or table at nobody))
changed (change.Nothing owner size) table = table

-- the slot that a step speaks of has an entry
abbrev pub Reaches : Change → List Holder → Type 0
Reaches (change.Takes at owner size) table = at < length table
Reaches (change.Gives at owner size) table = at < length table
Reaches (change.Nothing owner size) table = Unit

-- What a step does: in an even one its value takes a slot, in an odd one it gives the slot back. Its place is one more than the
-- slot's number, 0 where nothing changes. The step's value and that value's size are told in each case.
abbrev pub change_of : ℕ → ℕ → ℕ → Change
change_of step zero size = change.Nothing (step / 2) size
change_of step (suc slot) size = cond (eqb (step % 2) 0) (change.Takes slot (step / 2) size) (change.Gives slot (step / 2) size)

module _ (s steps places : List ℕ) where
  abbrev pub change_at : ℕ → Change
  change_at i = change_of (get_or steps i 0) (get_or places i 0) (size_of (function_in s) (get_or steps i 0 / 2))

  -- THE TABLE after the first steps.
  abbrev pub holders_after : ℕ → List Holder → List Holder
  holders_after zero table = table
  holders_after (suc i) table = changed (change_at i) (holders_after i table)

  -- what the steps need: a file in order, a place for each, and an entry for each slot that a place names
  pub record Replayable (count : ℕ) (table : List Holder) : Type 0 where
    pub in_order : ordered 0 (records s) ≡ true
    pub in_steps : count ≤ length steps
    pub in_places : count ≤ length places
    pub reached : (i : ℕ) → i < count → get_or places i 0 ≤ length table
