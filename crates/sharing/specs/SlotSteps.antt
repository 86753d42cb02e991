-- What planning does to slots, and nothing else of it: a list of the values that are given a slot and of those whose slot
-- is freed, in planning's order. `Replaying` proves that planning's slots are this list replayed.
use Rattle.std.specs.Prelude.{ℕ, ◌≡◌, refl, Bool, false, cond, List, [], ◌∷◌, ◌++◌, map, length, eqb}
use Rattle.std.proofs.Math.Option.{Option, none, some}
use Rattle.rules.specs.Lists.{any, keep, count, concat_map, zip_with, NumberSet, members}
use Rattle.rules.specs.Tree.{Edge, Instruction, Function}
use Rattle.rules.specs.Graph.{block_at, values_among, reachable}
use Rattle.rules.specs.Liveness.{process, listed_instructions, is_spilled}
use Rattle.rules.specs.Slots.{StackSlots, give_slot, free_slot}
use Rattle.rules.specs.declared.EdgeArgument.{EdgeArgument}
use Rattle.rules.specs.declared.EdgeArgument.TheVariants as passes

pub data SlotStep : Type 0 where
  gives : ℕ → SlotStep  -- a slot for the value, if it has none
  frees : ℕ → SlotStep  -- the value's slot, if it has one, goes on its size's free list

-- the slot that a value has, if any, is freed
abbrev pub free_own : ℕ → Option ℕ → StackSlots → StackSlots
free_own size none p = p
free_own size (some slot) p = free_slot slot size p

module _ (size : ℕ → ℕ) where
  abbrev pub taken : SlotStep → StackSlots → StackSlots
  taken (gives v) p = give_slot v (size v) p
  taken (frees v) p = free_own (size v) (p.slot_of v) p

  -- slots after a list of steps, the first one first
  abbrev pub replayed : List SlotStep → StackSlots → StackSlots
  replayed [] p = p
  replayed (s ∷ ss) p = replayed ss (taken s p)

  pub replayed-append : (ss ts : List SlotStep) (p : StackSlots) → replayed (ss ++ ts) p ≡ replayed ts (replayed ss p)
  replayed-append [] ts p = refl
  replayed-append (s ∷ ss) ts p = replayed-append ss ts (taken s p)

-- the step frees v
abbrev pub is_free_of : ℕ → SlotStep → Bool
is_free_of v (gives _) = false
is_free_of v (frees w) = eqb v w

-- how often v is freed
abbrev pub freed : ℕ → List SlotStep → ℕ
freed v ss = count (is_free_of v) ss

-- the lists that the members give, the last member's first
abbrev pub last_first : {A B : Type 0} → (A → List B) → List A → List B
last_first g [] = []
last_first g (x ∷ xs) = last_first g xs ++ g x

-- THE STEPS OF PLANNING, by document 01's rules.
module _ (f : Function) where
  -- rule 1, and parameters
  abbrev pub definition_steps : ℕ → List SlotStep
  definition_steps v = cond (is_spilled f v) (frees v ∷ []) []

  -- rule 3
  abbrev pub use_steps : ℕ → List SlotStep
  use_steps v = cond (is_spilled f v) (gives v ∷ []) []

  abbrev pub edge_use_steps : EdgeArgument → List SlotStep
  edge_use_steps (passes.Value v) = use_steps v
  edge_use_steps (passes.Returned _) = []
  edge_use_steps (passes.Exception _) = []

  abbrev pub edge_steps : Edge → List SlotStep
  edge_steps e = concat_map edge_use_steps e.arguments

  -- rule 2: a landing reloads what it passes on, for as many arguments as its target has parameters
  abbrev pub landing_steps : List EdgeArgument → List ℕ → List SlotStep
  landing_steps xs ps = concat_map edge_use_steps (zip_with (λ x _. x) xs ps)

  abbrev pub safepoint_edge_steps : Edge → List SlotStep
  safepoint_edge_steps e =
      cond (any (is_spilled f) (values_among e.arguments))
      (landing_steps e.arguments (block_at f e.target).parameters)
      []

  abbrev pub instruction_steps : Instruction × Option (List ℕ) → List SlotStep
  instruction_steps (i, none) =
      concat_map definition_steps i.results
      ++ (concat_map use_steps i.arguments
      ++ concat_map edge_steps i.edges)
  instruction_steps (i, some list) =
      concat_map definition_steps i.results
      ++ (map gives list
      ++ (concat_map safepoint_edge_steps i.edges
      ++ concat_map use_steps i.arguments))

  -- the early slots for live-out
  abbrev pub out_steps : NumberSet → List SlotStep
  out_steps out = map gives (keep (is_spilled f) (members (length f.values) out))

  abbrev pub block_steps : ℕ → List SlotStep
  block_steps b =
      out_steps ((process f).outs b)
      ++ (last_first instruction_steps (listed_instructions f b)
      ++ concat_map definition_steps (block_at f b).parameters)

  unfoldable pub slot_steps : List SlotStep
  slot_steps = concat_map block_steps (reachable f)
