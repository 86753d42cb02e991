-- The landings of a function have numbers of their own: none is a block's of the file, and no two landings share one.
use Rattle.std.specs.Prelude.{ℕ, suc, ◌≤◌, ◌<◌, ◌≡◌, ◌⊎◌, Bool, true, false, cond, List, [], ◌∷◌, ◌++◌, map}
use Rattle.std.proofs.Common.{arith, sym, ap, ◌∙◌, inl, inr, ⊎_elim}
use Rattle.std.proofs.Math.Option.{Option, none, some}
use mathlib.Core.List.Memᴰ
use Rattle.std.proofs.Math.ListN.{length}
use Rattle.rules.specs.Lists.{any, keep, concat_zip, members}
use Rattle.rules.specs.Tree.{Edge, Instruction, Block, Function}
use Rattle.rules.specs.Graph.{block_at, values_among, reachable}
use Rattle.rules.specs.Liveness.{is_spilled, process, listed_instructions}
use Rattle.rules.specs.Slots.{no_slots}
use Rattle.rules.specs.Plan.{Plan, EdgePlan, InstructionPlan, BlockPlan, Planning, pure, for_each, for_each_backward}
use Rattle.rules.specs.Plan.{plan_slot, plan_definition, plan_use, plan_edge, plan_landing}
use Rattle.rules.specs.Plan.{plan_safepoint_edge, plan_instruction, plan_block, planned}
use Rattle.rules.specs.Rewriting.{landing_of, landings}
use Rattle.lists.specs.Members.{◌∈◌, not-∈-nil}
use Rattle.agreement.specs.Growing.{nothing-kept, uses-cost, definitions-cost, slots-cost, landed-costs, edge-costs}

-- landings with numbers from lo on, below hi, no two with one number
pub record Between (lo hi : ℕ) (ls : List Block) : Type 0 where
  pub grows : lo ≤ hi
  pub inside : (l : Block) → l ∈ ls → (lo ≤ l.number) × (l.number < hi)
  pub apart : (l l' : Block) → l ∈ ls → l' ∈ ls → l.number ≡ l'.number → l ≡ l'

none_between : {lo hi : ℕ} → lo ≤ hi → Between lo hi []
none_between h =
    record { grows = h; inside = λ l m. absurd (not-∈-nil m); apart = λ l l' m m' e. absurd (not-∈-nil m) }

-- the first ones below those that come next, in whatever order they are put together
between_join : {lo mid hi : ℕ} (xs ys zs : List Block) → ((l : Block) → l ∈ zs → (l ∈ xs) ⊎ (l ∈ ys))
    → Between lo mid xs → Between mid hi ys → Between lo hi zs
between_join {lo} {mid} {hi} xs ys zs from a b =
    record {
      grows = omega (arith, a.grows, b.grows);
      inside = λ l m.
          ⊎_elim (λ k. ((a.inside l k).0, omega (arith, (a.inside l k).1, b.grows)))
          (λ k. (omega (arith, (b.inside l k).0, a.grows), (b.inside l k).1)) (from l m);
      apart = λ l l' m m' e. apart l l' e (from l m) (from l' m');
    }
  where
    apart : (l l' : Block) → l.number ≡ l'.number → (l ∈ xs) ⊎ (l ∈ ys) → (l' ∈ xs) ⊎ (l' ∈ ys) → l ≡ l'
    apart l l' e (inl m) (inl m') = a.apart l l' m m' e
    apart l l' e (inl m) (inr m') = absurd (omega (arith, (a.inside l m).1, (b.inside l' m').0, e))
    apart l l' e (inr m) (inl m') = absurd (omega (arith, (a.inside l' m').1, (b.inside l m).0, e))
    apart l l' e (inr m) (inr m') = b.apart l l' m m' e

-- with more numbers before and behind
between-wider : {lo hi lo' hi' : ℕ} (ls : List Block) → lo' ≤ lo → hi ≤ hi' → Between lo hi ls → Between lo' hi' ls
between-wider ls low high b =
    record {
      grows = omega (arith, b.grows);
      inside = λ l m. (omega (arith, (b.inside l m).0), omega (arith, (b.inside l m).1));
      apart = b.apart;
    }

-- STEPS
module _ {A B : Type 0} (k : A → Planning B) where
  module _ (ls : A → B → List Block) (h : (x : A) (p : Plan) → Between p.blocks (k x p).1.blocks (ls x (k x p).0)) where
    each-between : (xs : List A) (p : Plan)
        → Between p.blocks (for_each k xs p).1.blocks (concat_zip ls xs (for_each k xs p).0)
    each-between [] p = none_between (omega arith)
    each-between (x ∷ xs) p =
        let one = k x p in
        let rest = for_each k xs one.1 in
        between_join (ls x one.0) (concat_zip ls xs rest.0) (ls x one.0 ++ concat_zip ls xs rest.0)
        (λ l m. Memᴰ.append_cases (ls x one.0) m) (h x p) (each-between xs one.1)

    each-between-backward : (xs : List A) (p : Plan)
        → Between p.blocks (for_each_backward k xs p).1.blocks (concat_zip ls xs (for_each_backward k xs p).0)
    each-between-backward [] p = none_between (omega arith)
    each-between-backward (x ∷ xs) p =
        let rest = for_each_backward k xs p in
        let one = k x rest.1 in
        between_join (concat_zip ls xs rest.0) (ls x one.0) (ls x one.0 ++ concat_zip ls xs rest.0)
        (λ l m. ⊎_elim inr inl (Memᴰ.append_cases (ls x one.0) m)) (each-between-backward xs p) (h x rest.1)

module _ (f : Function) (pointer : ℕ) where
  -- no step takes a block's number back
  abbrev Steady : {A : Type 0} → Planning A → Type 0
  Steady m = (p : Plan) → p.blocks ≤ (m p).1.blocks

  uses-steady : (vs : List ℕ) → Steady (for_each (plan_use f pointer) vs)
  uses-steady vs p = (uses-cost f pointer _ _ _ (nothing-kept f pointer) vs p).blocks

  definitions-steady : (vs : List ℕ) → Steady (for_each (plan_definition f pointer) vs)
  definitions-steady vs p = (definitions-cost f pointer _ _ _ (nothing-kept f pointer) vs p).blocks

  slots-steady : (vs : List ℕ) → Steady (for_each (plan_slot f pointer) vs)
  slots-steady vs p = (slots-cost f pointer _ _ _ (nothing-kept f pointer) vs (λ _ _. tt) p).blocks

  module _ (size slot : ℕ → ℕ) where
    edge-between : (e : Edge) (p : Plan)
        → Between p.blocks (plan_edge f pointer e p).1.blocks (landings size slot e (plan_edge f pointer e p).0)
    edge-between e p = none_between (edge-costs f pointer _ _ _ (nothing-kept f pointer) e p).blocks

    safepoint-edge-between : (e : Edge) (p : Plan)
        → Between p.blocks (plan_safepoint_edge f pointer e p).1.blocks (landings size slot e (plan_safepoint_edge f pointer e p).0)
    safepoint-edge-between e p = go (any (is_spilled f) (values_among e.arguments))
      where
        none_made : EdgePlan
        none_made = record { landing = none; arguments = map (λ _. none) e.arguments }

        begun : Plan
        begun = record { slots = p.slots; values = p.values; blocks = suc p.blocks }

        landing-between : Between p.blocks (plan_landing f pointer e p).1.blocks (landings size slot e (plan_landing f pointer e p).0)
        landing-between =
            let l = landing_of size slot e (plan_landing f pointer e p).0.arguments p.blocks in
            let steady = (landed-costs f pointer _ _ _ (nothing-kept f pointer) e.arguments (block_at f e.target).parameters (λ _ _. tt) begun).blocks in
            record {
              grows = omega (arith, steady);
              inside = λ k m.
                  let same : k ≡ l = Memᴰ.eq_of_singleton m in
                  let number : k.number ≡ p.blocks = ap (λ (b : Block). b.number) same in
                  (omega (arith, number), omega (arith, number, steady));
              apart = λ k k' m m' e. Memᴰ.eq_of_singleton m ∙ sym (Memᴰ.eq_of_singleton m');
            }

        go : (c : Bool) → Between p.blocks (cond c (plan_landing f pointer e) (pure none_made) p).1.blocks
            (landings size slot e (cond c (plan_landing f pointer e) (pure none_made) p).0)
        go true = landing-between
        go false = none_between (omega arith)

    -- the landings of an instruction, and of a block
    abbrev pub instruction_landings : Instruction × Option (List ℕ) → InstructionPlan → List Block
    instruction_landings x m = concat_zip (landings size slot) x.0.edges m.edges

    abbrev pub block_landings : ℕ → BlockPlan → List Block
    block_landings b n = concat_zip instruction_landings (listed_instructions f b) n.instructions

    instruction-between : (x : Instruction × Option (List ℕ)) (p : Plan)
        → Between p.blocks (plan_instruction f pointer x p).1.blocks (instruction_landings x (plan_instruction f pointer x p).0)
    instruction-between (i, none) p =
        let behind = (for_each (plan_definition f pointer) i.results p).1 in
        let loaded = (for_each (plan_use f pointer) i.arguments behind).1 in
        let before = definitions-steady i.results p in
        let more = uses-steady i.arguments behind in
        between-wider (concat_zip (landings size slot) i.edges (for_each (plan_edge f pointer) i.edges loaded).0)
        (omega (arith, before, more)) (omega arith) (each-between (plan_edge f pointer) (landings size slot) edge-between i.edges loaded)
    instruction-between (i, some list) p =
        let behind = (for_each (plan_definition f pointer) i.results p).1 in
        let given = (for_each (plan_slot f pointer) list behind).1 in
        let led = for_each (plan_safepoint_edge f pointer) i.edges given in
        let before = definitions-steady i.results p in
        let more = slots-steady list behind in
        let last = uses-steady i.arguments led.1 in
        between-wider (concat_zip (landings size slot) i.edges led.0) (omega (arith, before, more)) (omega (arith, last))
        (each-between (plan_safepoint_edge f pointer) (landings size slot) safepoint-edge-between i.edges given)

    block-between : (b : ℕ) (p : Plan)
        → Between p.blocks (plan_block f pointer b p).1.blocks (block_landings b (plan_block f pointer b p).0)
    block-between b p =
        let early = keep (is_spilled f) (members (length f.values) ((process f).outs b)) in
        let given = (for_each (plan_slot f pointer) early p).1 in
        let walked = for_each_backward (plan_instruction f pointer) (listed_instructions f b) given in
        let first = slots-steady early p in
        let last = definitions-steady (block_at f b).parameters walked.1 in
        between-wider (concat_zip instruction_landings (listed_instructions f b) walked.0) (omega (arith, first)) (omega (arith, last))
        (each-between-backward (plan_instruction f pointer) instruction_landings instruction-between (listed_instructions f b) given)

    -- All landings of a function, by the order in which their blocks were planned.
    abbrev pub all_landings : List Block
    all_landings = concat_zip block_landings (reachable f) (planned f pointer).0

    -- no two share a number, and none is a block's of the file
    pub landings-between : Between (length f.blocks) (planned f pointer).1.blocks all_landings
    unfolding planned
    landings-between =
        each-between (plan_block f pointer) block_landings block-between (reachable f)
        (record { slots = no_slots; values = f.values; blocks = length f.blocks })
