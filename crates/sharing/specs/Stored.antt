-- Every spilled definition of a reachable block is stored, and no other: when planning comes to it, its value has a slot.
use Rattle.std.specs.Prelude.{ℕ, ◌≡◌, Bool, true, false, not, cond, T}
use Rattle.std.proofs.Math.Path.{refl}
use Rattle.std.proofs.Common.{sym, ap, subst, ◌∙◌}
use Rattle.std.proofs.Math.Option.{Option, none, some, none-ne-some}
use mathlib.Core.List.{List, [], ◌∷◌, ◌++◌, append_assoc, append-nil}
use Rattle.std.proofs.Math.ListN.{length}
use Rattle.rules.specs.Lists.{is_none, keep, concat_map, NumberSet, members}
use Rattle.rules.specs.Tree.{Instruction, Function}
use Rattle.rules.specs.Graph.{block_at, size_of, instructions_of, reachable}
use Rattle.rules.specs.Liveness.{across, before_all, process, listed_instructions, is_spilled}
use Rattle.rules.specs.Slots.{StackSlots, no_slots}
use Rattle.rules.specs.Plan.{Plan, Made, InstructionPlan, BlockPlan, for_each, for_each_backward, plan_slot, plan_store, plan_definition}
use Rattle.rules.specs.Plan.{plan_instruction, plan_block, planned}
use Rattle.rules.specs.Refusals.{numbers_in_file, defined_once}
use Rattle.rules.specs.Demand3.{Dominated}
use Rattle.lists.specs.Members.{◌∈◌, here, there}
use Rattle.lists.specs.Maps.{concat_map-append}
use Rattle.lists.specs.Pairs.{Each}
use Rattle.sharing.specs.SlotSteps.{gives, replayed, replayed-append, last_first, definition_steps, instruction_steps}
use Rattle.sharing.specs.SlotSteps.{out_steps, block_steps}
use Rattle.sharing.specs.Holding.{HasSlot, replayed-keeps, replayed-has}
use Rattle.sharing.specs.Replaying.{replays-backward, replays-slots, replays-definition, replays-instruction, replays-block}
use Rattle.sharing.specs.Spilled.{listed_instructions-reachable}
use Rattle.sharing.specs.Points.{listed, behind_steps, point_steps}
use Rattle.sharing.specs.Turns.{Turn, turn-reachable}
use Rattle.sharing.specs.Held.{parameter-given, result-given}

-- a definition has a number, of the address of its store, exactly if its value is spilled
abbrev pub Stored : Function → ℕ → Made → Type 0
Stored f v n = is_none n ≡ not (is_spilled f v)

-- so have all results of an instruction, and all parameters of a block and results of its instructions
abbrev pub ResultsStored : Function → Instruction → InstructionPlan → Type 0
ResultsStored f i n = Each (Stored f) i.results n.results

abbrev pub BlockStored : Function → ℕ → BlockPlan → Type 0
BlockStored f b n =
    Each (Stored f) (block_at f b).parameters n.parameters
    × Each (ResultsStored f) (instructions_of (block_at f b)) n.instructions

-- a value has a slot
abbrev Slotted : StackSlots → ℕ → Type 0
Slotted p v = (s : ℕ) × HasSlot p v s

module _ (f : Function) (pointer : ℕ) where
  definition-stored : (v : ℕ) (p : Plan) → (T (is_spilled f v) → Slotted p.slots v) → Stored f v (plan_definition f pointer v p).0
  definition-stored v p slotted = go (is_spilled f v) (p.slots.slot_of v) slotted
    where
      go :
          (spilled : Bool) (o : Option ℕ) → (T spilled → (s : ℕ) × (o ≡ some s))
          → is_none (cond spilled (plan_store f pointer v o p) (none, p)).0 ≡ not spilled
      go false o h = refl
      go true none h = absurd (none-ne-some (h tt).0 (h tt).1)
      go true (some s) h = refl

  -- Definitions are stored if each that is spilled has a slot when planning comes to them,
  definitions-stored-from :
      (vs : List ℕ) (p : Plan) → ((v : ℕ) → v ∈ vs → T (is_spilled f v) → Slotted p.slots v)
      → Each (Stored f) vs (for_each (plan_definition f pointer) vs p).0
  definitions-stored-from [] p slotted = tt
  definitions-stored-from (v ∷ vs) p slotted =
      let next : Plan = (plan_definition f pointer v p).1 in (
        definition-stored v p (slotted v (here refl)),
        definitions-stored-from vs next
            (λ w m spilled.
            let has = slotted w (there m) spilled in (
              has.0,
              subst (λ (q : StackSlots). HasSlot q w has.0) (sym ((replays-definition f pointer v).slots-replayed p))
                  (replayed-keeps (size_of f) (definition_steps f v) p.slots has.1),
            )),
      )

  -- and so are the results of instructions, of which the last is planned first.
  results-stored-from :
      (is : List Instruction) (out : NumberSet) (p : Plan)
      → ((earlier : List Instruction) (i : Instruction) (later : List Instruction) → is ≡ earlier ++ (i ∷ later)
      → (v : ℕ) → v ∈ i.results → T (is_spilled f v) → Slotted (replayed (size_of f) (behind_steps f later out) p.slots) v)
      → Each (ResultsStored f) is (for_each_backward (plan_instruction f pointer) (listed f is out) p).0
  results-stored-from [] out p slotted = tt
  results-stored-from (i ∷ is) out p slotted = (
    one (cond i.safepoint (some (members (length f.values) (across f i (before_all f is out)))) none) after
        (λ v m spilled.
        subst (λ (q : StackSlots). Slotted q v)
        (sym ((replays-backward f (replays-instruction f pointer) (listed f is out)).slots-replayed p))
        (slotted [] i is refl v m spilled)),
    results-stored-from is out p (λ earlier j later e. slotted (i ∷ earlier) j later (ap (λ js. i ∷ js) e)),
  )
    where
      after : Plan
      after = (for_each_backward (plan_instruction f pointer) (listed f is out) p).1

      one :
          (l : Option (List ℕ)) (q : Plan) → ((v : ℕ) → v ∈ i.results → T (is_spilled f v) → Slotted q.slots v)
          → ResultsStored f i (plan_instruction f pointer (i, l) q).0
      one none q h = definitions-stored-from i.results q h
      one (some _) q h = definitions-stored-from i.results q h

  module _ (once : T (defined_once f)) (in-file : T (numbers_in_file f)) (dominated : Dominated f) where
    -- When it is its turn, a block's definitions are stored.
    block-stored :
        {b : ℕ} (at : Turn f b) (p : Plan) → p.slots ≡ replayed (size_of f) (concat_map (block_steps f) at.planned) no_slots
        → BlockStored f b (plan_block f pointer b p).0
    block-stored {b} at p now = (parameters, results)
      where
        out : NumberSet
        out = (process f).outs b

        is : List Instruction
        is = instructions_of (block_at f b)

        -- behind the early slots, and behind the instructions
        outs : Plan
        outs = (for_each (plan_slot f pointer) (keep (is_spilled f) (members (length f.values) out)) p).1

        inside : Plan
        inside = (for_each_backward (plan_instruction f pointer) (listed_instructions f b) outs).1

        at-point :
            (later : List Instruction)
            → replayed (size_of f) (point_steps f at.planned b later) no_slots
            ≡ replayed (size_of f) (behind_steps f later out) outs.slots
        at-point later =
            replayed-append (size_of f) (concat_map (block_steps f) at.planned) (out_steps f out ++ behind_steps f later out) no_slots
            ∙ ap (replayed (size_of f) (out_steps f out ++ behind_steps f later out)) (sym now)
            ∙ replayed-append (size_of f) (out_steps f out) (behind_steps f later out) p.slots
            ∙ ap (replayed (size_of f) (behind_steps f later out))
            (sym ((replays-slots f pointer (keep (is_spilled f) (members (length f.values) out))).slots-replayed p))

        given :
            (later : List Instruction) (v : ℕ) → gives v ∈ point_steps f at.planned b later
            → Slotted (replayed (size_of f) (behind_steps f later out) outs.slots) v
        given later v m = subst (λ (q : StackSlots). Slotted q v) (at-point later) (replayed-has (size_of f) no_slots m)

        results : Each (ResultsStored f) is (for_each_backward (plan_instruction f pointer) (listed_instructions f b) outs).0
        results =
            subst (λ xs. Each (ResultsStored f) is (for_each_backward (plan_instruction f pointer) xs outs).0)
            (sym (listed_instructions-reachable f (turn-reachable at)))
            (results-stored-from is out outs
            (λ earlier i later e v m spilled. given later v (result-given f once in-file dominated at earlier i later e v spilled m)))

        planned-inside : replayed (size_of f) (behind_steps f is out) outs.slots ≡ inside.slots
        planned-inside =
            ap (λ xs. replayed (size_of f) (last_first (instruction_steps f) xs) outs.slots)
            (sym (listed_instructions-reachable f (turn-reachable at)))
            ∙ sym ((replays-backward f (replays-instruction f pointer) (listed_instructions f b)).slots-replayed outs)

        parameters : Each (Stored f) (block_at f b).parameters (for_each (plan_definition f pointer) (block_at f b).parameters inside).0
        parameters =
            definitions-stored-from (block_at f b).parameters inside
            (λ v m spilled.
            subst (λ (q : StackSlots). Slotted q v) planned-inside
            (given is v (parameter-given f once in-file dominated at v spilled m)))

    -- So are those of the blocks still to be planned,
    blocks-stored :
        (before bs : List ℕ) → reachable f ≡ before ++ bs
        → (p : Plan) → p.slots ≡ replayed (size_of f) (concat_map (block_steps f) before) no_slots
        → Each (BlockStored f) bs (for_each (plan_block f pointer) bs p).0
    blocks-stored before [] turn p now = tt
    blocks-stored before (b ∷ bs) turn p now = (
      block-stored (record { planned = before; behind = bs; turn = turn }) p now,
      blocks-stored (before ++ (b ∷ [])) bs (turn ∙ sym (append_assoc before (b ∷ []) bs)) (plan_block f pointer b p).1
          ((replays-block f pointer b).slots-replayed p
          ∙ ap (replayed (size_of f) (block_steps f b)) now
          ∙ sym (replayed-append (size_of f) (concat_map (block_steps f) before) (block_steps f b) no_slots)
          ∙ ap (λ ss. replayed (size_of f) ss no_slots) (sym more)),
    )
      where
        more : concat_map (block_steps f) (before ++ (b ∷ [])) ≡ concat_map (block_steps f) before ++ block_steps f b
        more =
            concat_map-append (block_steps f) before (b ∷ [])
            ∙ ap (λ ss. concat_map (block_steps f) before ++ ss) (append-nil (block_steps f b))

    -- THE LAW: and so all, block by block.
    pub definitions-stored : Each (BlockStored f) (reachable f) (planned f pointer).0
    unfolding planned
    definitions-stored =
        blocks-stored [] (reachable f) refl (record { slots = no_slots; values = f.values; blocks = length f.blocks }) refl
