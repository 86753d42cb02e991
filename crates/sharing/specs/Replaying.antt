-- Planning's slots are its list of steps replayed: numbers of new values and blocks have no part in them.
use Rattle.std.specs.Prelude.{ℕ, ◌≡◌, refl, Bool, true, false, cond, List, [], ◌∷◌, ◌++◌, map}
use Rattle.std.proofs.Common.{sym, ap, ◌∙◌}
use Rattle.std.proofs.Math.Option.{Option, none, some}
use Rattle.std.proofs.Math.ListN.{length}
use Rattle.rules.specs.Lists.{any, keep, concat_map, zip_with, members}
use Rattle.rules.specs.Tree.{Edge, Instruction, Function}
use Rattle.rules.specs.Graph.{block_at, size_of, values_among, reachable}
use Rattle.rules.specs.Liveness.{process, listed_instructions, is_spilled}
use Rattle.rules.specs.Slots.{no_slots}
use Rattle.rules.specs.Plan.{Plan, EdgePlan, Planning, ◌>>=◌, pure, for_each, for_each_backward}
use Rattle.rules.specs.Plan.{new_block, plan_slot, plan_store, plan_definition, plan_load, plan_use, plan_edge_use, plan_edge, plan_landed}
use Rattle.rules.specs.Plan.{plan_landing, plan_safepoint_edge, plan_instruction, plan_block, planned}
use Rattle.rules.specs.declared.EdgeArgument.{EdgeArgument}
use Rattle.rules.specs.declared.EdgeArgument.TheVariants as passes
use Rattle.sharing.specs.SlotSteps.{SlotStep, gives, frees, free_own, replayed, replayed-append, last_first}
use Rattle.sharing.specs.SlotSteps.{definition_steps, use_steps, edge_use_steps, edge_steps, landing_steps}
use Rattle.sharing.specs.SlotSteps.{safepoint_edge_steps, instruction_steps, block_steps, slot_steps}

module _ (f : Function) where
  -- a step of planning does to slots what these steps do
  pub record Replays {A : Type 0} (m : Planning A) (ss : List SlotStep) : Type 0 where
    pub slots-replayed : (p : Plan) → (m p).1.slots ≡ replayed (size_of f) ss p.slots

  -- a step that leaves slots as they are
  replays-none : {A : Type 0} {m : Planning A} → ((p : Plan) → (m p).1.slots ≡ p.slots) → Replays m []
  replays-none h = record { slots-replayed = h }

  -- one step behind another
  pub replays-bind :
      {A B : Type 0} {m : Planning A} {k : A → Planning B} {ss ts : List SlotStep}
      → Replays m ss → ((a : A) → Replays (k a) ts) → Replays (m >>= k) (ss ++ ts)
  replays-bind {m = m} {ss = ss} {ts = ts} first then =
      record {
        slots-replayed =
            λ p.
            (then (m p).0).slots-replayed (m p).1
            ∙ ap (replayed (size_of f) ts) (first.slots-replayed p)
            ∙ sym (replayed-append (size_of f) ss ts p.slots);
      }

  -- and an answer made of the step's
  pub replays-answer :
      {A B : Type 0} {m : Planning A} {ss : List SlotStep} (g : A → B) → Replays m ss → Replays (m >>= λ a. pure (g a)) ss
  replays-answer g h = record { slots-replayed = h.slots-replayed }

  -- a step for each member, the first one first
  pub replays-for_each :
      {A B : Type 0} {k : A → Planning B} {g : A → List SlotStep}
      → ((x : A) → Replays (k x) (g x)) → (xs : List A) → Replays (for_each k xs) (concat_map g xs)
  replays-for_each each [] = replays-none (λ p. refl)
  replays-for_each each (x ∷ xs) =
      replays-bind (each x) (λ y. replays-answer (λ ys. y ∷ ys) (replays-for_each each xs))

  -- and the last one first
  pub replays-backward :
      {A B : Type 0} {k : A → Planning B} {g : A → List SlotStep}
      → ((x : A) → Replays (k x) (g x)) → (xs : List A) → Replays (for_each_backward k xs) (last_first g xs)
  replays-backward each [] = replays-none (λ p. refl)
  replays-backward each (x ∷ xs) =
      replays-bind (replays-backward each xs) (λ ys. replays-answer (λ y. y ∷ ys) (each x))

  module _ (pointer : ℕ) where
    -- a slot for each member
    pub replays-slots : (vs : List ℕ) → Replays (for_each (plan_slot f pointer) vs) (map gives vs)
    replays-slots [] = replays-none (λ p. refl)
    replays-slots (v ∷ vs) =
        let one : Replays (plan_slot f pointer v) (gives v ∷ []) = record { slots-replayed = λ p. refl } in
        replays-bind one (λ y. replays-answer (λ ys. y ∷ ys) (replays-slots vs))

    pub replays-definition : (v : ℕ) → Replays (plan_definition f pointer v) (definition_steps f v)
    replays-definition v = record { slots-replayed = λ p. go p (is_spilled f v) (p.slots.slot_of v) refl }
      where
        go :
            (p : Plan) (spilled : Bool) (o : Option ℕ) → p.slots.slot_of v ≡ o
            → (cond spilled (plan_store f pointer v o p) (none, p)).1.slots
            ≡ replayed (size_of f) (cond spilled (frees v ∷ []) []) p.slots
        go p false o e = refl
        go p true none e = ap (λ (x : Option ℕ). free_own (size_of f v) x p.slots) (sym e)
        go p true (some s) e = ap (λ (x : Option ℕ). free_own (size_of f v) x p.slots) (sym e)

    replays-use : (v : ℕ) → Replays (plan_use f pointer v) (use_steps f v)
    replays-use v = go (is_spilled f v)
      where
        go : (spilled : Bool) → Replays (cond spilled (plan_load f pointer v) (pure none)) (cond spilled (gives v ∷ []) [])
        go true = record { slots-replayed = λ p. refl }
        go false = replays-none (λ p. refl)

    replays-edge-use : (x : EdgeArgument) → Replays (plan_edge_use f pointer x) (edge_use_steps f x)
    replays-edge-use (passes.Value v) = replays-use v
    replays-edge-use (passes.Returned _) = replays-none (λ p. refl)
    replays-edge-use (passes.Exception _) = replays-none (λ p. refl)

    replays-edge : (e : Edge) → Replays (plan_edge f pointer e) (edge_steps f e)
    replays-edge e =
        replays-answer (λ ns. record { landing = none; arguments = ns }) (replays-for_each replays-edge-use e.arguments)

    replays-landed : (x : EdgeArgument) (size : ℕ) → Replays (plan_landed f pointer x size) (edge_use_steps f x)
    replays-landed (passes.Value v) size = replays-use v
    replays-landed (passes.Returned _) size = replays-none (λ p. refl)
    replays-landed (passes.Exception _) size = replays-none (λ p. refl)

    replays-all-landed :
        (xs : List EdgeArgument) (ps : List ℕ)
        → Replays (for_each (λ m. m) (zip_with (λ x q. plan_landed f pointer x (size_of f q)) xs ps)) (landing_steps f xs ps)
    replays-all-landed [] ps = replays-none (λ p. refl)
    replays-all-landed (x ∷ xs) [] = replays-none (λ p. refl)
    replays-all-landed (x ∷ xs) (q ∷ ps) =
        replays-bind (replays-landed x (size_of f q)) (λ y. replays-answer (λ ys. y ∷ ys) (replays-all-landed xs ps))

    replays-safepoint-edge : (e : Edge) → Replays (plan_safepoint_edge f pointer e) (safepoint_edge_steps f e)
    replays-safepoint-edge e = go (any (is_spilled f) (values_among e.arguments))
      where
        ps : List ℕ
        ps = (block_at f e.target).parameters

        bare : EdgePlan
        bare = record { landing = none; arguments = map (λ _. none) e.arguments }

        go :
            (lands : Bool)
            → Replays (cond lands (plan_landing f pointer e) (pure bare)) (cond lands (landing_steps f e.arguments ps) [])
        go true =
            replays-bind (replays-none {m = new_block} (λ p. refl))
            (λ b. replays-answer (λ ns. record { landing = some b; arguments = ns }) (replays-all-landed e.arguments ps))
        go false = replays-none (λ p. refl)

    pub replays-instruction : (x : Instruction × Option (List ℕ)) → Replays (plan_instruction f pointer x) (instruction_steps f x)
    replays-instruction (i, none) =
        replays-bind (replays-for_each replays-definition i.results)
        (λ rs.
        replays-bind (replays-for_each replays-use i.arguments)
        (λ us.
        replays-answer (λ es. record { arguments = us; results = rs; edges = es }) (replays-for_each replays-edge i.edges)))
    replays-instruction (i, some list) =
        replays-bind (replays-for_each replays-definition i.results)
        (λ rs.
        replays-bind (replays-slots list)
        (λ _.
        replays-bind (replays-for_each replays-safepoint-edge i.edges)
        (λ es.
        replays-answer (λ us. record { arguments = us; results = rs; edges = es }) (replays-for_each replays-use i.arguments))))

    pub replays-block : (b : ℕ) → Replays (plan_block f pointer b) (block_steps f b)
    replays-block b =
        replays-bind (replays-slots (keep (is_spilled f) (members (length f.values) ((process f).outs b))))
        (λ _.
        replays-bind (replays-backward replays-instruction (listed_instructions f b))
        (λ is.
        replays-answer (λ ps. record { parameters = ps; instructions = is })
        (replays-for_each replays-definition (block_at f b).parameters)))

    -- THE LAW.
    pub planned-slots : (planned f pointer).1.slots ≡ replayed (size_of f) (slot_steps f) no_slots
    unfolding planned slot_steps
    planned-slots =
        (replays-for_each replays-block (reachable f)
        ).slots-replayed (record { slots = no_slots; values = f.values; blocks = length f.blocks })
