-- The two runs of demand 3: the world, the mover, one machine for both runs, and what is compared.
use Rattle.std.specs.Prelude.{ℕ, zero, suc, ◌+◌, ◌%◌, Bool, true, false, ◌&&◌, cond, List, [], ◌∷◌, map, length, get_or, eqb}
use Rattle.std.proofs.Math.Option.{Option, none, some}
use Rattle.rules.specs.Lists.{count, has, update, up_from, NumberSet, nothing}
use Rattle.rules.specs.Tree.{Edge, Instruction, Item, instruction, slot_address, store, load, jump, Block, Function}
use Rattle.rules.specs.Records.{bit}
use Rattle.rules.specs.Graph.{block_at, instructions_among}
use Rattle.rules.specs.declared.EdgeArgument.{EdgeArgument}
use Rattle.rules.specs.declared.EdgeArgument.TheVariants as passes

-- The world: entry words by parameter; and for each step, instruction and argument words the results by position, the
-- edge, and the returned and exception words by index. It sees no slots, no addresses and no contexts.
pub record World : Type 0 where
  pub entry : ℕ → ℕ
  pub results : ℕ → ℕ → List ℕ → ℕ → ℕ
  pub edge : ℕ → ℕ → List ℕ → ℕ
  pub returned : ℕ → ℕ → List ℕ → ℕ → ℕ
  pub exception : ℕ → ℕ → List ℕ → ℕ → ℕ

-- how references move at the k-th safepoint step: any function of words
abbrev pub Mover : Type 0
Mover = ℕ → ℕ → ℕ

-- What is compared of a step: the words that arrived at parameters, where a block was entered since the step before; the
-- instruction; its argument words; which of its edges is taken, where it has any.
pub record Seen : Type 0 where
  pub arrived : Option (List ℕ)
  pub number : ℕ
  pub safepoint : Bool
  pub terminator : Bool
  pub tag : ℕ
  pub arguments : List ℕ
  pub edge : Option ℕ

-- where a run stands between items: the words of values, which of them are defined so far, the words in the slots, which
-- keep them whole, and the words that have arrived at a block's parameters since the last step
pub record Machine : Type 0 where
  pub words : ℕ → ℕ
  pub defined : NumberSet
  pub slots : ℕ → ℕ
  pub arrived : Option (List ℕ)

-- values get the words that are given by position, from k on
abbrev pub define_from : ℕ → List ℕ → (ℕ → ℕ) → Machine → Machine
define_from k [] given m = m
define_from k (v ∷ vs) given m =
    define_from (suc k) vs given
    (record { words = update v (given k) m.words; defined = update v true m.defined; slots = m.slots; arrived = m.arrived })

abbrev pub define : List ℕ → (ℕ → ℕ) → Machine → Machine
define = define_from 0

-- a word is stored in the slot of an address
abbrev pub store_at : ℕ → ℕ → Machine → Machine
store_at address word m =
    record { words = m.words; defined = m.defined; slots = update address word m.slots; arrived = m.arrived }

abbrev pub set_arrived : Option (List ℕ) → Machine → Machine
set_arrived ws m = record { words = m.words; defined = m.defined; slots = m.slots; arrived = ws }

-- the words that an edge passes
abbrev pub passed : (ℕ → ℕ) → (ℕ → ℕ) → (ℕ → ℕ) → List EdgeArgument → List ℕ
passed words returned exception [] = []
passed words returned exception (passes.Value v ∷ xs) = words v ∷ passed words returned exception xs
passed words returned exception (passes.Returned k ∷ xs) = returned k ∷ passed words returned exception xs
passed words returned exception (passes.Exception k ∷ xs) = exception k ∷ passed words returned exception xs

-- a step that is about to be taken: its instruction and number, and the items behind it
pub record Step : Type 0 where
  pub at : Instruction
  pub number : ℕ
  pub behind : List Item
  pub machine : Machine

-- what a run meets next: a step, an edge that is no step, or its end
pub data Next : Type 0 where
  meets : Step → Next
  along : Edge → Machine → Next
  ends : Next

-- an instruction that is no step leads along its edge
abbrev pub along_only : List Edge → Machine → Next
along_only [] m = ends
along_only (e ∷ _) m = along e m

-- The machine is given which instructions are steps, and which values move at a safepoint.
module _ (f : Function) (is_step : Instruction → Bool) (moving : NumberSet) (world : World) (mover : Mover) where
  -- added instructions are no steps; stores and loads go through the address that was computed
  abbrev pub meet : List Item → ℕ → Machine → Next
  meet [] k m = ends
  meet (instruction i ∷ items) k m =
      elim (is_step i) [
        | true ↦ meets (record { at = i; number = k; behind = items; machine = m })
        | false ↦ along_only i.edges m
      ]
  meet (slot_address r slot ∷ items) k m = meet items k (define (r ∷ []) (λ _. slot) m)
  meet (store v a ∷ items) k m = meet items k (store_at (m.words a) (m.words v) m)
  meet (load r a _ ∷ items) k m = meet items k (define (r ∷ []) (λ _. m.slots (m.words a)) m)
  meet (jump e ∷ items) k m = along e m

  -- a block is entered with words, which arrive at its parameters; its first step has number k
  abbrev pub enter_with : Block → ℕ → List ℕ → Machine → Next
  enter_with b k ws m =
      let inside = define b.parameters (λ j. get_or ws j 0) m in
      meet b.items k (set_arrived (some (map inside.words b.parameters)) inside)

  -- block t among blocks is entered; steps are numbered by position, from k on
  abbrev pub enter_among : List Block → ℕ → ℕ → List ℕ → Machine → Next
  enter_among [] k t ws m = ends
  enter_among (b ∷ bs) k t ws m =
      elim (eqb b.number t) [
        | true ↦ enter_with b k ws m
        | false ↦ enter_among bs (k + count is_step (instructions_among b.items)) t ws m
      ]

  abbrev pub enter_block : ℕ → List ℕ → Machine → Next
  enter_block t ws m = enter_among f.blocks 0 t ws m

  -- the next step, over at most so many edges that are no steps; more than there are blocks never lead to one
  abbrev pub follow : ℕ → Next → Option Step
  follow zero next = none
  follow (suc turns) (meets s) = some s
  follow (suc turns) (along e m) = follow turns (enter_block e.target (passed m.words (λ _. 0) (λ _. 0) e.arguments) m)
  follow (suc turns) ends = none

  -- at the k-th safepoint step: the moving values that are defined so far, and each listed slot once
  abbrev pub moved : ℕ → Instruction → Machine → Machine
  moved k i m =
      elim i.safepoint [
        | true ↦
            record {
              words = λ v. cond (moving v && m.defined v) (mover k (m.words v)) (m.words v);
              defined = m.defined;
              slots = λ s. cond (has s (map (λ x. x.slot) i.entries)) (mover k (m.slots s)) (m.slots s);
              arrived = m.arrived;
            }
        | false ↦ m
      ]

  -- Step k, the j-th at a safepoint: arguments are read; references move; results are set; edge arguments are read. What is
  -- seen of it, and what comes next.
  abbrev pub take_step : ℕ → ℕ → Step → Seen × Next
  take_step k j s =
      let i = s.at in
      let n = s.number in
      let arguments = map s.machine.words i.arguments in
      let m = set_arrived none (define i.results (world.results k n arguments) (moved j i s.machine)) in
      let seen : Option ℕ → Seen =
      λ e. record {
        arrived = s.machine.arrived;
        number = n;
        safepoint = i.safepoint;
        terminator = i.terminator;
        tag = i.tag;
        arguments = arguments;
        edge = e;
      } in
      elim i.edges [
        | [] ↦ (seen none, cond i.terminator ends (meet s.behind (suc n) m))
        | e ∷ es ↦
            let c = world.edge k n arguments % length (e ∷ es) in
            let taken = get_or (e ∷ es) c e in
            let ws = passed m.words (world.returned k n arguments) (world.exception k n arguments) taken.arguments in
            (seen (some c), enter_block taken.target ws m)
      ]

  -- n steps of a run, from step k on
  abbrev pub run : ℕ → ℕ → ℕ → Next → List Seen
  run zero k j next = []
  run (suc n) k j next =
      elim (follow (suc (suc (length f.blocks))) next) [
        | none ↦ []
        | some s ↦
            let t = take_step k j s in
            t.0 ∷ run n (suc k) (j + bit s.at.safepoint) t.1
      ]

  -- the first n steps from block 0, which is entered with the entry words; words and slots have any first content
  unfoldable pub trace : (ℕ → ℕ) → (ℕ → ℕ) → ℕ → List Seen
  trace words slots n =
      run n 0 0
      (enter_block 0 (map world.entry (up_from 0 (length (block_at f 0).parameters)))
      (record { words = words; defined = nothing; slots = slots; arrived = none }))
