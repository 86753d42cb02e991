-- Slots: which are made, which value has which, and which are free.
use Rattle.std.specs.Prelude.{ℕ, List, [], ◌∷◌, ◌++◌, length}
use Rattle.std.proofs.Math.Option.{Option, none, some}
use Rattle.rules.specs.Lists.{update}

pub record StackSlots : Type 0 where
  pub made : List ℕ  -- the size of each slot, by its number
  pub slot_of : ℕ → Option ℕ  -- the slot of each value, once it has one; it keeps that number though the slot is freed
  pub free : ℕ → List ℕ  -- the free slots of each size, last freed first

abbrev pub no_slots : StackSlots
no_slots = record { made = []; slot_of = λ _. none; free = λ _. [] }

-- a slot for v, by the one that it has and the free ones of its size
abbrev pub slot_from : ℕ → ℕ → Option ℕ → List ℕ → StackSlots → StackSlots
slot_from v size (some _) _ p = p
slot_from v size none (s ∷ rest) p = record { made = p.made; slot_of = update v (some s) p.slot_of; free = update size rest p.free }
slot_from v size none [] p =
    record { made = p.made ++ (size ∷ []); slot_of = update v (some (length p.made)) p.slot_of; free = p.free }

-- a value gets a slot once: the slot last freed of its size, else a new one
unfoldable pub give_slot : ℕ → ℕ → StackSlots → StackSlots
give_slot v size p = slot_from v size (p.slot_of v) (p.free size) p

-- a slot goes on its size's free list
unfoldable pub free_slot : ℕ → ℕ → StackSlots → StackSlots
free_slot slot size p = record { made = p.made; slot_of = p.slot_of; free = update size (slot ∷ p.free size) p.free }
