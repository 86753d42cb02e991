-- Rewriting makes related trees. Every reachable block of the rewritten function, entered where everything live is known, reads
-- what it may and leaves so into its successors; so the function is related to the file.
use Rattle.std.specs.Prelude.{ℕ, ◌≡◌, refl, List, [], ◌∷◌, ◌++◌, map}
use Rattle.std.proofs.Common.{sym, ap, subst, ◌∙◌, append_assoc}
use Rattle.std.proofs.Math.Option.{Option}
use Rattle.rules.specs.Lists.{zip_with, concat_zip, NumberSet}
use Rattle.rules.specs.Tree.{Instruction, Item, instruction, Block, Function}
use Rattle.rules.specs.Graph.{block_at, size_of, is_marked, instructions_of, reachable}
use Rattle.rules.specs.Liveness.{before_all, process, lists_among, listed_instructions}
use Rattle.rules.specs.Plan.{InstructionPlan, BlockPlan, planned}
use Rattle.rules.specs.Rewriting.{store_items, instruction_items, slot_number, rewritten}
use Rattle.rules.specs.Demand3.{PathTo, Dominated}
use Rattle.lists.specs.Members.{here, there, ∈→has}
use Rattle.fixpoint.specs.Rule.{marked-in-file}
use Rattle.simulation.specs.Ghost.{Ghost, moving, defining}
use Rattle.simulation.specs.Related.{Each, Paired, IsBlock, Related}
use Rattle.agreement.specs.Entries.{past_all, each-paired, Follows, follows-behind, entries-related}
use Rattle.agreement.specs.Plans.{value_limit, InstructionNumbered, BlockNumbered}
use Rattle.agreement.specs.Items.{items-in-order}
use Rattle.agreement.specs.Accepted.{Accepted, is-block-at, block-in-file, below-number, parameter-in-file, result-in-file}
use Rattle.agreement.specs.Layout.{main_block}
use Rattle.agreement.specs.Rewritten.{LaidBy, blocks-numbered, rewritten-laid, rewritten-first, found-main}
use Rattle.agreement.specs.Spilled.{live-marked, lists-reachable}
use Rattle.agreement.specs.Changing.{Stored, LeftStored, stores-left, defining-new}
use Rattle.agreement.specs.Points.{SlotsApart, Point, Entered, defined_before, after-behind}
use Rattle.agreement.specs.Spots.{Spot, live_after, live_before, list_here, defined_here, defined_behind, spot-stands, spot-reachable}
use Rattle.agreement.specs.Spots.{spot-inside, Behind}
use Rattle.agreement.specs.Steps.{loads_here, rewritten_here, loaded_ghost, stepped_ghost, loads-read-here, arguments-here, behind-here}
use Rattle.agreement.specs.Steps.{direct-loaded}
use Rattle.agreement.specs.Edges.{edges-go}
use Rattle.agreement.specs.Entering.{live_first, entered-reachable, entered-inside, entering-unmarked, entering-unspilled, entering-held, starts}

module _ (f : Function) (pointer : ℕ) (accepted : Accepted f) (dominated : Dominated f) (apart : SlotsApart f pointer) where
  -- the results of an instruction are stored
  abbrev ResultsStored : Instruction × Option (List ℕ) → InstructionPlan → Type 0
  ResultsStored x m = Each (Stored f) x.0.results m.results

  -- BEHIND ONE INSTRUCTION and its stores
  module _ (spot : Spot f) (n : InstructionPlan)
      (numbered : InstructionNumbered f (value_limit f pointer) (spot.at, list_here f spot) n) (stored : ResultsStored (spot.at, list_here f spot) n) (γ : Ghost)
      (point : Point f pointer (defined_here f spot) (live_before f spot) γ) where
    -- the ghost behind it
    abbrev γ₂ : Ghost
    γ₂ = stepped_ghost f pointer spot n γ

    behind : Behind f pointer spot γ₂
    behind = behind-here f pointer accepted dominated spot n numbered γ point

    -- the stores of its results
    abbrev stores_here : List Item
    stores_here = concat_zip (store_items (size_of f) (slot_number f pointer)) spot.at.results n.results

    -- they leave everything live held
    results-left : LeftStored f (size_of f) (slot_number f pointer) (live_after f spot) spot.at.results n.results γ₂
    results-left =
        let moved = moving (is_marked f) (rewritten_here f pointer spot n γ) (loaded_ghost f pointer spot n γ) in
        stores-left f (size_of f) (slot_number f pointer) (live_after f spot) (value_limit f pointer) spot.at.results n.results γ₂ numbered.results stored
        (λ v m. (
          result-in-file f accepted spot.block (spot-inside f spot accepted) spot.at (spot-stands f spot) v m,
          defining-new spot.at.results moved v (∈→has m),
        ))
        (apart.results-apart spot.block (spot-reachable f spot) spot.earlier spot.at spot.later spot.split)
        (λ u l t h. behind.held u (after-behind f spot.at (live_after f spot) u l) t h)

    -- so behind them a point is reached again
    point-behind : Point f pointer (defined_behind f spot) (live_after f spot) (past_all stores_here γ₂)
    point-behind =
        record {
          unmarked = λ v l m t. results-left.1 v l ∙ behind.unmarked v l m t;
          unspilled = λ v l t.
              results-left.1 v (marked-in-file f v (live-marked f spot.block spot.later v l))
              ∙ behind.unspilled v (after-behind f spot.at (live_after f spot) v l) t;
          held = results-left.2;
        }

  -- A BLOCK'S INSTRUCTIONS
  module _ (t : ℕ) (passed : List ℕ) (path : PathTo f t passed) (plan : BlockPlan) (by : LaidBy f pointer accepted t plan) where
    -- instructions with their lists
    abbrev listed_from : List Instruction → List (Instruction × Option (List ℕ))
    listed_from is = zip_with (λ i l. (i, l)) is (lists_among f is ((process f).outs t))

    -- each reads what the original reads, and leaves a point for the next
    instructions-follow : (earlier is : List Instruction) → instructions_of (block_at f t) ≡ earlier ++ is
        → (ns : List InstructionPlan) → Each (InstructionNumbered f (value_limit f pointer)) (listed_from is) ns → Each ResultsStored (listed_from is) ns
        → ((x : Instruction × Option (List ℕ)) (m : InstructionPlan) → Paired x m (listed_from is) ns
        → Paired x m (listed_instructions f t) plan.instructions)
        → (γ : Ghost) → Point f pointer (defined_before f passed t earlier) (before_all f is ((process f).outs t)) γ
        → Follows f (rewritten f pointer) (Entered f pointer) (map instruction is)
        (concat_zip (instruction_items (size_of f) (slot_number f pointer)) (listed_from is) ns) γ
    instructions-follow earlier [] split ns numbered stored placed γ point = tt
    instructions-follow earlier (i ∷ later) split [] numbered stored placed γ point = absurd numbered
    instructions-follow earlier (i ∷ later) split (n ∷ ns) numbered stored placed γ point =
        let spot : Spot f =
        record { block = t; passed = passed; path = path; earlier = earlier; at = i; later = later; split = split } in
        let rest = concat_zip (instruction_items (size_of f) (slot_number f pointer)) (listed_from later) ns in
        let stores = stores_here spot n numbered.0 stored.0 γ point in
        let j = rewritten_here f pointer spot n γ in
        let g = rewritten f pointer in
        let is = instruction i ∷ map instruction later in
        subst (λ js. Follows f g (Entered f pointer) is js γ)
        (sym (items-in-order (size_of f) (slot_number f pointer) (i, list_here f spot) n rest))
        (follows-behind f g (Entered f pointer) is (loads_here f pointer spot n γ) (instruction j ∷ (stores ++ rest)) γ
        (loads-read-here f pointer accepted dominated spot n numbered.0 γ point) (
          (
            arguments-here f pointer accepted dominated spot n numbered.0 γ point,
            edges-go f pointer accepted dominated spot (stepped_ghost f pointer spot n γ) (behind spot n numbered.0 stored.0 γ point) n
                numbered.0.edges (direct-loaded f pointer accepted dominated spot n numbered.0 γ point) plan by
                (placed (i, list_here f spot) n (here refl)),
          ),
          follows-behind f g (Entered f pointer) (map instruction later) stores rest (stepped_ghost f pointer spot n γ)
              (results-left spot n numbered.0 stored.0 γ point).0
              (instructions-follow (earlier ++ (i ∷ [])) later (split ∙ sym (append_assoc earlier (i ∷ []) later)) ns numbered.1 stored.1
              (λ x m pair. placed x m (there pair)) (past_all stores (stepped_ghost f pointer spot n γ))
              (point-behind spot n numbered.0 stored.0 γ point)),
        ))

  -- A BLOCK, entered
  module _ (t : ℕ) (γ : Ghost) (entered : Entered f pointer t γ) (plan : BlockPlan) (by : LaidBy f pointer accepted t plan) where
    abbrev here-block : Block
    here-block = block_at f t

    abbrev live : NumberSet
    live = live_first f t

    -- the ghost behind its parameters
    abbrev γ₀ : Ghost
    γ₀ = defining here-block.parameters γ

    numbered-here : BlockNumbered f (value_limit f pointer) t plan
    numbered-here = each-paired (BlockNumbered f (value_limit f pointer)) (reachable f) (planned f pointer).0 (blocks-numbered f pointer accepted) t plan by.0

    -- they leave everything live held
    parameters-left : LeftStored f (size_of f) (slot_number f pointer) live here-block.parameters plan.parameters γ₀
    parameters-left =
        let inside = entered-inside f pointer t γ entered accepted in
        stores-left f (size_of f) (slot_number f pointer) live (value_limit f pointer) here-block.parameters plan.parameters γ₀ numbered-here.parameters
        (apart.parameters-stored t plan by.0)
        (λ v m. (parameter-in-file f accepted t inside v m, defining-new here-block.parameters γ v (∈→has m)))
        (apart.parameters-apart t (entered-reachable f pointer t γ entered)) (entering-held f pointer t γ entered)

    -- the stores of its parameters
    abbrev stores_first : List Item
    stores_first = concat_zip (store_items (size_of f) (slot_number f pointer)) here-block.parameters plan.parameters

    -- so behind them its first point is reached
    first-point : Point f pointer (defined_before f entered.passed t []) live (past_all stores_first γ₀)
    first-point =
        record {
          unmarked = λ v l m u. parameters-left.1 v l ∙ entering-unmarked f pointer t γ entered v l m u;
          unspilled = λ v l u.
              parameters-left.1 v (marked-in-file f v (live-marked f t (instructions_of here-block) v l))
              ∙ entering-unspilled f pointer t γ entered v l u;
          held = parameters-left.2;
        }

    -- its instructions with their lists, as they are computed from its end
    listed_here : listed_instructions f t ≡ listed_from t entered.passed entered.path plan by (instructions_of here-block)
    listed_here = ap (zip_with (λ i l. (i, l)) (instructions_of here-block)) (lists-reachable f t (entered-reachable f pointer t γ entered))

    -- the rewritten block follows it
    block-follows : Follows f (rewritten f pointer) (Entered f pointer) (map instruction (instructions_of here-block))
        (main_block f pointer here-block (listed_instructions f t) plan).items γ₀
    block-follows =
        let is = instructions_of here-block in
        let ns = plan.instructions in
        let listed = listed_from t entered.passed entered.path plan by is in
        follows-behind f (rewritten f pointer) (Entered f pointer) (map instruction is) stores_first
        (concat_zip (instruction_items (size_of f) (slot_number f pointer)) (listed_instructions f t) ns) γ₀ parameters-left.0
        (subst
        (λ xs.
        Follows f (rewritten f pointer) (Entered f pointer) (map instruction is)
        (concat_zip (instruction_items (size_of f) (slot_number f pointer)) xs ns) (past_all stores_first γ₀))
        (sym listed_here)
        (instructions-follow t entered.passed entered.path plan by [] is refl ns
        (subst (λ xs. Each (InstructionNumbered f (value_limit f pointer)) xs ns) listed_here numbered-here.instructions)
        (subst (λ xs. Each ResultsStored xs ns) listed_here (apart.results-stored t plan by.0))
        (λ x m pair. subst (λ xs. Paired x m xs ns) (sym listed_here) pair) (past_all stores_first γ₀) first-point))

  -- THE WHOLE
  enters : (t : ℕ) (γ : Ghost) → Entered f pointer t γ → (b b' : Block) → IsBlock f t b → IsBlock (rewritten f pointer) t b'
      → Follows f (rewritten f pointer) (Entered f pointer) b.items b'.items (defining b'.parameters γ)
  enters t γ entered b b' k k' =
      let inside = entered-inside f pointer t γ entered accepted in
      let main = found-main f pointer accepted t (entered-reachable f pointer t γ entered) b' k' in
      let items : map instruction (instructions_of (block_at f t)) ≡ b.items =
      sym (accepted.plain (block_at f t) (block-in-file f accepted t inside)) ∙ ap (λ (c : Block). c.items) (sym (is-block-at f accepted t b k)) in
      subst (λ (c : Block). Follows f (rewritten f pointer) (Entered f pointer) b.items c.items (defining c.parameters γ)) (sym main.2)
      (subst
      (λ is.
      Follows f (rewritten f pointer) (Entered f pointer) is (main_block f pointer (block_at f t) (listed_instructions f t) main.0).items
      (defining (block_at f t).parameters γ))
      items (block-follows t γ entered main.0 main.1))

  -- An accepted file in which every use is dominated, and its rewritten function, are related.
  pub rewriting-related : Related f (rewritten f pointer)
  rewriting-related =
      entries-related f (rewritten f pointer) (Entered f pointer) (record { starts = starts f pointer dominated; enters = enters })
      (rewritten-laid f pointer accepted) (below-number f accepted 0 accepted.some_block) (rewritten-first f pointer accepted)
