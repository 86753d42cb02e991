-- Why a call says no. A service goes down a list of refusals, lowest number first, and gives the first that applies.
use Rattle.std.specs.Prelude.{ℕ, suc, ◌%◌, Bool, true, false, not, ◌&&◌, ◌||◌, cond, List, [], ◌∷◌, ◌++◌, length, ltb, eqb, Result, Ok, Err}
use Rattle.rules.specs.Lists.{all, any, count, empty, concat_map, has, up_from, members}
use Rattle.rules.specs.Tree.{Edge, Instruction, Block, Function}
use Rattle.rules.specs.Limits.{record_bytes, largest_records, largest_values, largest_blocks, largest_instructions, largest_edges}
use Rattle.rules.specs.Records.{slot_sizes, record_count, first_words, records}
use Rattle.rules.specs.File.{ordered, function_in}
use Rattle.rules.specs.Graph.{block_at, size_of, is_marked, instructions_of, values_among, values_passed, reachable}
use Rattle.rules.specs.Liveness.{is_spilled}
use Rattle.rules.specs.declared.EdgeArgument.{EdgeArgument}
use Rattle.rules.specs.declared.EdgeArgument.TheVariants as passes
use Rattle.rules.specs.declared.Refusal.{Refusal}
use Rattle.rules.specs.declared.Refusal.TheVariants as refusal

-- document 01's number of a refusal
abbrev pub refusal_number : Refusal → ℕ
refusal_number refusal.PointerSize = 1
refusal_number refusal.Length = 2
refusal_number refusal.TooMany = 3
refusal_number refusal.Malformed = 4
refusal_number refusal.NotInFile = 5
refusal_number refusal.NotDefinedOnce = 6
refusal_number refusal.Unsound = 7
refusal_number refusal.MarkedContext = 8
refusal_number refusal.SlotSize = 9
refusal_number refusal.NoSafepoint = 10
refusal_number (refusal.TooShort _) = 11

-- the length needed, which 11 tells
abbrev pub needed : Refusal → ℕ
needed (refusal.TooShort n) = n
needed _ = 0

-- a ground to refuse a call, and whether it applies
pub record Ground : Type 0 where
  pub why : Refusal
  pub applies : Bool

infix 20 ◌when◌
abbrev pub ◌when◌ : Refusal → Bool → Ground
◌when◌ why applies = record { why = why; applies = applies }

-- a call is refused by the first ground of a list that applies
abbrev pub first_of : List Ground → Result Unit Refusal
first_of [] = Ok tt
first_of (g ∷ gs) = elim g.applies [ true ↦ Err g.why | false ↦ first_of gs ]

-- 3: more records than the largest count, of all or of a kind, ordered or not
abbrev pub too_many : List ℕ → Bool
too_many s =
    let of : ℕ → ℕ = λ k. count (eqb k) (first_words s) in
    ltb largest_records (record_count s)
    || ltb largest_values (of 1) || ltb largest_blocks (of 2) || ltb largest_instructions (of 4) || ltb largest_edges (of 7)

-- 4: each block's number is its position, from n on
abbrev pub numbered_from : ℕ → List Block → Bool
numbered_from n [] = true
numbered_from n (b ∷ bs) = eqb b.number n && numbered_from (suc n) bs

-- the parts of a function, in file order
abbrev pub all_instructions : Function → List Instruction
all_instructions f = concat_map instructions_of f.blocks

abbrev pub all_edges : Function → List Edge
all_edges f = concat_map (λ i. i.edges) (all_instructions f)

-- every parameter and every result
abbrev pub definitions : Function → List ℕ
definitions f = concat_map (λ b. b.parameters) f.blocks ++ concat_map (λ i. i.results) (all_instructions f)

-- every argument, value edge argument and context
abbrev pub uses : Function → List ℕ
uses f = concat_map (λ i. i.arguments ++ (values_passed i ++ i.contexts)) (all_instructions f)

-- 5: the value and block numbers are in the file
abbrev pub numbers_in_file : Function → Bool
numbers_in_file f =
    all (λ v. ltb v (length f.values)) (definitions f ++ uses f)
    && all (λ e. ltb e.target (length f.blocks)) (all_edges f)

-- 6: each value is defined exactly once, by parameter or result
abbrev pub defined_once : Function → Bool
defined_once f = all (λ v. eqb (count (eqb v) (definitions f)) 1) (up_from 0 (length f.values))

-- 7: the last instruction of a block is a terminator, and no other one is
abbrev pub ends_once : List Instruction → Bool
ends_once [] = false
ends_once (i ∷ []) = i.terminator
ends_once (i ∷ j ∷ is) = not i.terminator && ends_once (j ∷ is)

-- an edge's arguments are as many as the target's parameters, and a value's size is its parameter's
abbrev pub fit : Function → List EdgeArgument → List ℕ → Bool
fit f [] [] = true
fit f [] (_ ∷ _) = false
fit f (_ ∷ _) [] = false
fit f (passes.Value v ∷ xs) (p ∷ ps) = eqb (size_of f v) (size_of f p) && fit f xs ps
fit f (passes.Returned _ ∷ xs) (p ∷ ps) = fit f xs ps
fit f (passes.Exception _ ∷ xs) (p ∷ ps) = fit f xs ps

-- the flags are 3
abbrev pub safepoint_terminator : Instruction → Bool
safepoint_terminator i = i.safepoint && i.terminator

-- the edge arguments are values: none is a returned or an exception word
abbrev pub only_values : List EdgeArgument → Bool
only_values xs = eqb (length (values_among xs)) (length xs)

-- an edge leads to a block other than 0, passes words only where the flags are 3, and fits its target
abbrev pub sound_edge : Function → Instruction → Edge → Bool
sound_edge f i e =
    not (eqb e.target 0)
    && (safepoint_terminator i || only_values e.arguments)
    && fit f e.arguments (block_at f e.target).parameters

-- a terminator has no results, another has no edges and no contexts; contexts stand only where the flags are 3
abbrev pub sound_instruction : Function → Instruction → Bool
sound_instruction f i =
    cond i.terminator (empty i.results) (empty i.edges && empty i.contexts)
    && (safepoint_terminator i || empty i.contexts)
    && all (sound_edge f i) i.edges

abbrev pub sound : Function → Bool
sound f = all (λ b. ends_once (instructions_of b)) f.blocks && all (sound_instruction f) (all_instructions f)

-- 8: a marked context in a reachable block
abbrev pub marked_context : Function → Bool
marked_context f = any (λ b. any (λ i. any (is_marked f) i.contexts) (instructions_of (block_at f b))) (reachable f)

-- 9: a value live across some reachable safepoint has a size that no slot has
abbrev pub spilled_size : Function → Bool
spilled_size f = any (λ v. not (has (size_of f v) slot_sizes)) (members (length f.values) (is_spilled f))

-- what every service refuses of a file, 2 to 8
unfoldable pub file_refusals : List ℕ → List Ground
file_refusals s =
    (refusal.Length when not (eqb (length s % record_bytes) 0))
    ∷ (refusal.TooMany when too_many s)
    ∷ (refusal.Malformed when not (ordered 0 (records s) && numbered_from 0 (function_in s).blocks))
    ∷ (refusal.NotInFile when not (numbers_in_file (function_in s)))
    ∷ (refusal.NotDefinedOnce when not (defined_once (function_in s)))
    ∷ (refusal.Unsound when not (sound (function_in s)))
    ∷ (refusal.MarkedContext when marked_context (function_in s))
    ∷ []
