-- Planning: document 01's walk over blocks by ascending index and instructions last first, which gives slots and the
-- numbers of new values and blocks. A number stands beside the operand or definition that it is made for; what is
-- written follows from the numbers and the slots alone (Rewriting.antt).
use Rattle.std.specs.Prelude.{ℕ, suc, false, cond, List, [], ◌∷◌, ◌++◌, map, length}
use Rattle.std.proofs.Math.Option.{Option, none, some}
use Rattle.rules.specs.Lists.{any, keep, zip_with, members}
use Rattle.rules.specs.Tree.{Value, Edge, Instruction, Function}
use Rattle.rules.specs.Graph.{block_at, size_of, values_among, reachable}
use Rattle.rules.specs.Liveness.{process, listed_instructions, is_spilled}
use Rattle.rules.specs.Slots.{StackSlots, no_slots, give_slot, free_slot}
use Rattle.rules.specs.declared.EdgeArgument.{EdgeArgument}
use Rattle.rules.specs.declared.EdgeArgument.TheVariants as passes

-- what has been made so far
pub record Plan : Type 0 where
  pub slots : StackSlots
  pub values : List Value  -- the file's and the new ones
  pub blocks : ℕ  -- how many, landings with the file's

-- the first of the values made for an operand or a definition; none where nothing is made
abbrev pub Made : Type 0
Made = Option ℕ

pub record EdgePlan : Type 0 where
  pub landing : Option ℕ  -- its landing's number, where it gets one
  pub arguments : List Made

pub record InstructionPlan : Type 0 where
  pub arguments : List Made
  pub results : List Made
  pub edges : List EdgePlan

pub record BlockPlan : Type 0 where
  pub parameters : List Made
  pub instructions : List InstructionPlan

-- a step of planning
abbrev pub Planning : Type 0 → Type 0
Planning A = Plan → A × Plan

infixl 10 ◌>>=◌
abbrev pub ◌>>=◌ : {A B : Type 0} → Planning A → (A → Planning B) → Planning B
◌>>=◌ m k = λ p. let r = m p in k r.0 r.1

abbrev pub pure : {A : Type 0} → A → Planning A
pure a = λ p. (a, p)

-- a step for each member, the first one first
abbrev pub for_each : {A B : Type 0} → (A → Planning B) → List A → Planning (List B)
for_each k [] = pure []
for_each k (x ∷ xs) = do
  y ← k x
  ys ← for_each k xs
  pure (y ∷ ys)

-- a step for each member, the last one first
abbrev pub for_each_backward : {A B : Type 0} → (A → Planning B) → List A → Planning (List B)
for_each_backward k [] = pure []
for_each_backward k (x ∷ xs) = do
  ys ← for_each_backward k xs
  y ← k x
  pure (y ∷ ys)

-- new values are unmarked, and new values and blocks are numbered as they are made
abbrev pub new_value : ℕ → Planning ℕ
new_value size p = (
  length p.values,
  record { slots = p.slots; values = p.values ++ (record { size = size; marked = false } ∷ []); blocks = p.blocks },
)

abbrev pub new_block : Planning ℕ
new_block p = (p.blocks, record { slots = p.slots; values = p.values; blocks = suc p.blocks })

abbrev pub change_slots : (StackSlots → StackSlots) → Planning Unit
change_slots change p = (tt, record { slots = change p.slots; values = p.values; blocks = p.blocks })

module _ (f : Function) (pointer : ℕ) where
  -- a slot for a value that has none
  abbrev pub plan_slot : ℕ → Planning Unit
  plan_slot v = change_slots (give_slot v (size_of f v))

  -- Rule 1, and parameters: a spilled definition that has a slot is stored there, through an address, and its slot is free.
  abbrev pub plan_store : ℕ → Option ℕ → Planning Made
  plan_store v none = pure none
  plan_store v (some slot) = do
    address ← new_value pointer
    _ ← change_slots (free_slot slot (size_of f v))
    pure (some address)

  abbrev pub plan_definition : ℕ → Planning Made
  plan_definition v p = cond (is_spilled f v) (plan_store v (p.slots.slot_of v) p) (none, p)

  -- Rule 3: a spilled use gives its value a slot if it has none, and has an address and a load of its own.
  abbrev pub plan_load : ℕ → Planning Made
  plan_load v = do
    _ ← plan_slot v
    address ← new_value pointer
    _ ← new_value (size_of f v)
    pure (some address)

  abbrev pub plan_use : ℕ → Planning Made
  plan_use v = cond (is_spilled f v) (plan_load v) (pure none)

  abbrev pub plan_edge_use : EdgeArgument → Planning Made
  plan_edge_use (passes.Value v) = plan_use v
  plan_edge_use (passes.Returned _) = pure none
  plan_edge_use (passes.Exception _) = pure none

  abbrev pub plan_edge : Edge → Planning EdgePlan
  plan_edge e = do
    ns ← for_each plan_edge_use e.arguments
    pure (record { landing = none; arguments = ns })

  -- Rule 2, in a landing: a spilled value is reloaded, a word becomes a parameter of the target parameter's size.
  abbrev pub plan_landed : EdgeArgument → ℕ → Planning Made
  plan_landed (passes.Value v) size = plan_use v
  plan_landed (passes.Returned _) size = do
    parameter ← new_value size
    pure (some parameter)
  plan_landed (passes.Exception _) size = do
    parameter ← new_value size
    pure (some parameter)

  -- Rule 2: an edge that passes a spilled value gets a landing block.
  abbrev pub plan_landing : Edge → Planning EdgePlan
  plan_landing e = do
    b ← new_block
    ns ← for_each (λ m. m) (zip_with (λ x p. plan_landed x (size_of f p)) e.arguments (block_at f e.target).parameters)
    pure (record { landing = some b; arguments = ns })

  abbrev pub plan_safepoint_edge : Edge → Planning EdgePlan
  plan_safepoint_edge e =
      cond (any (is_spilled f) (values_among e.arguments))
      (plan_landing e)
      (pure (record { landing = none; arguments = map (λ _. none) e.arguments }))

  -- One instruction: rule 1; at a safepoint rule 2; rule 3. No edge of a safepoint has a spilled use left for rule 3: one
  -- that passes a spilled value has a landing.
  abbrev pub plan_instruction : Instruction × Option (List ℕ) → Planning InstructionPlan
  plan_instruction (i, none) = do
    rs ← for_each plan_definition i.results
    us ← for_each plan_use i.arguments
    es ← for_each plan_edge i.edges
    pure (record { arguments = us; results = rs; edges = es })
  plan_instruction (i, some list) = do
    rs ← for_each plan_definition i.results
    _ ← for_each plan_slot list
    es ← for_each plan_safepoint_edge i.edges
    us ← for_each plan_use i.arguments
    pure (record { arguments = us; results = rs; edges = es })

  -- One block: slots for the spilled values in live-out, ascending; instructions, last first; parameters as in rule 1.
  abbrev pub plan_block : ℕ → Planning BlockPlan
  plan_block b = do
    _ ← for_each plan_slot (keep (is_spilled f) (members (length f.values) ((process f).outs b)))
    is ← for_each_backward plan_instruction (listed_instructions f b)
    ps ← for_each plan_definition (block_at f b).parameters
    pure (record { parameters = ps; instructions = is })

  -- blocks by ascending index
  unfoldable pub planned : List BlockPlan × Plan
  planned = for_each plan_block (reachable f) (record { slots = no_slots; values = f.values; blocks = length f.blocks })
