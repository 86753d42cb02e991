-- The ghost of a path: what the words of a rewritten function surely are at a point, by the items passed on the way there
-- and nothing else. A slot holds a value from a store of that value on, over safepoints that list it, to the value's next
-- definition; a marked or loaded word is lost at the next safepoint.
use Rattle.std.specs.Prelude.{ℕ, Bool, true, false, not, cond, List, [], ◌∷◌, map}
use Rattle.rules.specs.Lists.{has, update, NumberSet}
use Rattle.rules.specs.Tree.{Instruction, Item, instruction, slot_address, store, load, jump}
use Rattle.rules.specs.declared.EdgeArgument.{EdgeArgument}
use Rattle.rules.specs.declared.EdgeArgument.TheVariants as passes

-- what a word surely is
pub data Meaning : Type 0 where
  unknown : Meaning
  address : (slot : ℕ) → Meaning  -- the address of a slot
  word : (value : ℕ) → Meaning  -- the word that this value of the original has now
  returned : (index : ℕ) → Meaning  -- a returned word of the instruction that was just left
  exception : (index : ℕ) → Meaning  -- an exception word of it

-- for each value and each slot of the rewritten function what its word is
pub record Ghost : Type 0 where
  pub words : ℕ → Meaning
  pub slots : ℕ → Meaning

abbrev pub nothing_known : Ghost
nothing_known = record { words = λ _. unknown; slots = λ _. unknown }

-- value x gets a word of this meaning
abbrev pub setting : ℕ → Meaning → Ghost → Ghost
setting x m γ = record { words = update x m γ.words; slots = γ.slots }

-- what a load gives and a store leaves, by the meaning of the address
abbrev pub loaded_through : Meaning → (ℕ → Meaning) → Meaning
loaded_through unknown slots = unknown
loaded_through (address s) slots = slots s
loaded_through (word _) slots = unknown
loaded_through (returned _) slots = unknown
loaded_through (exception _) slots = unknown

abbrev pub stored_through : Meaning → Meaning → (ℕ → Meaning) → ℕ → Meaning
stored_through unknown m slots = λ _. unknown
stored_through (address s) m slots = update s m slots
stored_through (word _) m slots = λ _. unknown
stored_through (returned _) m slots = λ _. unknown
stored_through (exception _) m slots = λ _. unknown

-- behind an added item
abbrev pub past : Item → Ghost → Ghost
past (instruction _) γ = γ
past (slot_address r slot) γ = setting r (address slot) γ
past (store x a) γ = record { words = γ.words; slots = stored_through (γ.words a) (γ.words x) γ.slots }
past (load r a _) γ = setting r (loaded_through (γ.words a) γ.slots) γ
past (jump _) γ = γ

-- where values get new words: what is still known of another word, and then of all
abbrev pub still_after : List ℕ → Meaning → Meaning
still_after vs unknown = unknown
still_after vs (address s) = address s
still_after vs (word v) = cond (has v vs) unknown (word v)
still_after vs (returned _) = unknown
still_after vs (exception _) = unknown

abbrev pub defining : List ℕ → Ghost → Ghost
defining vs γ =
    record {
      words = λ x. cond (has x vs) (word x) (still_after vs (γ.words x));
      slots = λ s. still_after vs (γ.slots s);
    }

abbrev pub same : Bool → Bool → Bool
same true b = b
same false b = not b

-- A marked value moves in the original: its word is still known of what moves with it, and of nothing else. An unmarked
-- one stays.
abbrev pub over_move : NumberSet → Bool → Meaning → Meaning
over_move marked moves unknown = unknown
over_move marked moves (address s) = cond moves unknown (address s)
over_move marked moves (word v) = cond (same (marked v) moves) (word v) unknown
over_move marked moves (returned _) = unknown
over_move marked moves (exception _) = unknown

-- over an instruction: at a safepoint references move, the listed slots with them; then its results are set
abbrev pub moving : NumberSet → Instruction → Ghost → Ghost
moving marked j γ =
    elim j.safepoint [
      | true ↦
          record {
            words = λ x. over_move marked false (γ.words x);
            slots = λ s. over_move marked (has s (map (λ e. e.slot) j.entries)) (γ.slots s);
          }
      | false ↦ γ
    ]

abbrev pub stepping : NumberSet → Instruction → Ghost → Ghost
stepping marked j γ = defining j.results (moving marked j γ)

-- what an edge of an instruction passes; a landing's jump has no returned or exception words
abbrev pub passing : Ghost → EdgeArgument → Meaning
passing γ (passes.Value x) = γ.words x
passing γ (passes.Returned index) = returned index
passing γ (passes.Exception index) = exception index

abbrev pub jumping : Ghost → EdgeArgument → Meaning
jumping γ (passes.Value x) = γ.words x
jumping γ (passes.Returned _) = unknown
jumping γ (passes.Exception _) = unknown

-- what an edge argument of the original is to be
abbrev pub meant : EdgeArgument → Meaning
meant (passes.Value v) = word v
meant (passes.Returned index) = returned index
meant (passes.Exception index) = exception index

-- a landing's parameters are what is passed
abbrev pub binding : List ℕ → List Meaning → Ghost → Ghost
binding [] ms γ = γ
binding (x ∷ xs) [] γ = binding xs [] (setting x unknown γ)
binding (x ∷ xs) (m ∷ ms) γ = binding xs ms (setting x m γ)
