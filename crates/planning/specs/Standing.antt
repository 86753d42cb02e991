-- WHAT THE TABLES STAND FOR. Planning's tables are a plan of the rules: its slots are the noted steps replayed, its values
-- the file's and the new ones. Every function says what it does as one step of the rules' planning, `Ran`.
use Rattle.std.specs.Prelude.{ℕ, zero, suc, ◌+◌, ◌*◌, ◌/◌, ◌%◌, ◌<◌, ◌≤◌, ◌≡◌, true, not, cond, List, [], ◌∷◌, ◌++◌, map, length, set, take, eqb}
use Rattle.std.proofs.Math.Option.{none, some}
use Rattle.rules.specs.Limits.{largest_records, largest_values}
use Rattle.rules.specs.Lists.{keep, is_none, up_from, update, NumberSet, adding}
use Rattle.rules.specs.Tree.{Function}
use Rattle.rules.specs.Graph.{size_of}
use Rattle.rules.specs.Slots.{StackSlots, no_slots, give_slot}
use Rattle.rules.specs.Plan.{Plan, Made, Planning}
use Rattle.lists.specs.Lack.{lack, one}
use Rattle.sharing.specs.SlotSteps.{SlotStep, gives, frees, replayed}
use Rattle.rows.specs.Rows.{rows, row_values, HasRow}
use Rattle.numbering.specs.NewValues.{new_values}
use Rattle.planning.specs.declared.Progress.{Progress as Declared}

-- A step as a number: value v is given a slot as 2 v, its slot is freed as 2 v + 1.
abbrev pub step_of : ℕ → SlotStep
step_of n = cond (eqb (n % 2) 0) (gives (n / 2)) (frees (n / 2))

-- the first n of a table of such numbers
unfoldable pub noted : List ℕ → ℕ → List SlotStep
noted steps n = map step_of (take n steps)

-- how far planning has come, as the struct says it,
abbrev pub Progress : Type 0
Progress = Declared

-- and at its start
abbrev pub unplanned : ℕ → ℕ → ℕ → Progress
unplanned pointer values blocks = record { pointer = pointer; given = values; made = 0; blocks = blocks; steps = 0 }

-- the row of values asked for, the steps, and the sizes of new values
pub record Tables : Type 0 where
  pub asked : List ℕ
  pub steps : List ℕ
  pub sizes : List ℕ
  pub progress : Progress

abbrev pub tables : List ℕ → List ℕ → List ℕ → Progress → Tables
tables asked steps sizes progress = record { asked = asked; steps = steps; sizes = sizes; progress = progress }

-- A SLOT ASKED FOR. Where v is asked for the first time it is noted.
pub record Asked (v : ℕ) (asked steps : List ℕ) (count : ℕ) (asked' steps' : List ℕ) (count' : ℕ) : Type 0 where
  pub row : rows asked' ≡ cond (rows asked 0 v) (rows asked) (update 0 (adding (v ∷ []) (rows asked 0)) (rows asked))
  pub step : steps' ≡ cond (rows asked 0 v) steps (set steps count (2 * v))
  pub counted : count' ≡ cond (rows asked 0 v) count (count + 1)
  pub asked_long : length asked' ≡ length asked
  pub steps_long : length steps' ≡ length steps

module _ (f : Function) where
  -- the slots that the noted steps leave
  unfoldable pub slots_by : List ℕ → ℕ → StackSlots
  slots_by steps n = replayed (size_of f) (noted steps n) no_slots

  -- the row tells who has a slot
  abbrev pub Known : List ℕ → List ℕ → ℕ → Type 0
  Known asked steps n = (v : ℕ) → v < row_values → rows asked 0 v ≡ not (is_none ((slots_by steps n).slot_of v))

  -- a slot for each member of a list that has none
  abbrev pub give_all : List ℕ → StackSlots → StackSlots
  give_all [] slots = slots
  give_all (v ∷ vs) slots = give_all vs (give_slot v (size_of f v) slots)

  -- THE PLAN that the tables stand for
  abbrev pub plan_of : Tables → Plan
  plan_of t =
      record {
        slots = slots_by t.steps t.progress.steps;
        values = f.values ++ new_values t.sizes t.progress.made;
        blocks = t.progress.blocks;
      }

  -- The tables know who has been asked for, and have room for k records more: each makes at most two values and frees at
  -- most one slot, and each value that has not been asked for may be once.
  pub record Good (t : Tables) (k : ℕ) : Type 0 where
    pub counted : t.progress.given ≡ length f.values
    pub few : length f.values ≤ largest_values
    pub row : HasRow t.asked 0
    pub known : Known t.asked t.steps t.progress.steps
    pub room_steps : t.progress.steps + lack one row_values (rows t.asked 0) + k ≤ length t.steps
    pub room_sizes : t.progress.made + 2 * k ≤ length t.sizes
    pub small : length t.sizes ≤ 2 * largest_records

  -- what a step keeps that needs room for n records
  pub record Kept (n : ℕ) (t t' : Tables) : Type 0 where
    pub good : (k : ℕ) → Good t (n + k) → Good t' k
    pub pointer : t'.progress.pointer ≡ t.progress.pointer
    pub asked_long : length t'.asked ≡ length t.asked
    pub steps_long : length t'.steps ≡ length t.steps
    pub sizes_long : length t'.sizes ≡ length t.sizes

  -- A STEP of planning
  pub record Ran {A : Type 0} (m : Planning A) (n : ℕ) (t t' : Tables) : Type 0 where
    pub state : plan_of t' ≡ (m (plan_of t)).1
    pub kept : Kept n t t'

-- A number that is made is noted beside its record.
abbrev pub mark : List ℕ → ℕ → Made → List ℕ
mark numbers place none = numbers
mark numbers place (some n) = set numbers place (suc n)

-- one record's step, with the numbers,
abbrev pub step_at : (ℕ → Planning Made) → ℕ → Plan × List ℕ → Plan × List ℕ
step_at g place x = let y = g place x.0 in (y.1, mark x.1 place y.0)

-- and those of n records from a place on, the first one first
unfoldable pub walk : (ℕ → Planning Made) → ℕ → ℕ → Plan × List ℕ → Plan × List ℕ
walk g place zero x = x
walk g place (suc n) x = walk g (suc place) n (step_at g place x)

module _ (f : Function) where
  -- STEPS BESIDE RECORDS
  pub record Walked (g : ℕ → Planning Made) (place n : ℕ) (t : Tables) (numbers : List ℕ) (t' : Tables) (numbers' : List ℕ) : Type 0 where
    pub state : (plan_of f t', numbers') ≡ walk g place n (plan_of f t, numbers)
    pub kept : Kept f n t t'
    pub long : length numbers' ≡ length numbers

-- SLOTS FOR A LIST. The members of the rest are still to be asked for, of all.
pub record Slotting (rest all asked steps : List ℕ) (count : ℕ) (asked' steps' : List ℕ) (count' : ℕ) : Type 0 where
  pub slots : (f : Function) → Known f asked steps count → give_all f rest (slots_by f steps' count') ≡ give_all f all (slots_by f steps count)
  pub known : (f : Function) → Known f asked steps count → Known f asked' steps' count'
  pub room : (k : ℕ) → count + lack one row_values (rows asked 0) + k ≤ length steps → count' + lack one row_values (rows asked' 0) + k ≤ length steps'
  pub grows : (v : ℕ) → rows asked 0 v ≡ true → rows asked' 0 v ≡ true
  pub asked_long : length asked' ≡ length asked
  pub steps_long : length steps' ≡ length steps

-- none are
abbrev pub Slotted : (all asked steps : List ℕ) → ℕ → (asked' steps' : List ℕ) → ℕ → Type 0
Slotted all = Slotting [] all

-- the spilled values of a row from v on, n of them looked at
abbrev pub spilled_from : NumberSet → NumberSet → ℕ → ℕ → List ℕ
spilled_from spilled set v n = keep spilled (keep set (up_from v n))

-- what asking for them reads and writes: rows, and places for the steps
pub record Rows (spilled set : List ℕ) (row : ℕ) (asked steps : List ℕ) (count : ℕ) : Type 0 where
  pub in_spilled : HasRow spilled 0
  pub in_set : HasRow set row
  pub in_asked : HasRow asked 0
  pub room : count + lack one row_values (rows asked 0) + 0 ≤ length steps
