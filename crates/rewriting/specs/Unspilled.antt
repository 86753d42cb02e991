-- Where no value is spilled, planning makes nothing: no slot, no value, no landing. So an unchanged answer has no slots and
-- no landings, and code need not plan to know it.
use Rattle.std.specs.Prelude.{ℕ, ◌≡◌, refl, Bool, true, false, cond, List, [], ◌∷◌, map, T}
use Rattle.std.proofs.Common.{ap, subst, ◌∙◌}
use Rattle.std.proofs.Math.Option.{Option, none, some}
use Rattle.std.proofs.Math.ListN.{length}
use Rattle.rules.specs.Lists.{any, keep, or_else, members}
use Rattle.rules.specs.Tree.{Edge, Instruction, Function}
use Rattle.rules.specs.Graph.{block_at, values_among, reachable}
use Rattle.rules.specs.Liveness.{process, listed_instructions, is_spilled}
use Rattle.rules.specs.Slots.{no_slots}
use Rattle.rules.specs.Plan.{Plan, EdgePlan, Planning, pure, for_each, for_each_backward, plan_slot, plan_store, plan_definition}
use Rattle.rules.specs.Plan.{plan_load, plan_use, plan_edge_use, plan_edge, plan_landing, plan_safepoint_edge, plan_instruction, plan_block, planned}
use Rattle.rules.specs.declared.EdgeArgument.{EdgeArgument}
use Rattle.rules.specs.declared.EdgeArgument.TheVariants as passes
use Rattle.lists.specs.Members.{◌∈◌, here, there}
use Rattle.agreement.specs.Accepted.{Accepted}
use Rattle.agreement.specs.Rewritten.{in-file}
use Rattle.agreement.specs.Spilled.{listed-spilled}

-- a step that changes no plan
abbrev Still : {A : Type 0} → Planning A → Type 0
Still m = (p : Plan) → (m p).1 ≡ p

still-each : {A B : Type 0} (k : A → Planning B) (xs : List A) → ((x : A) → x ∈ xs → Still (k x)) → Still (for_each k xs)
still-each k [] h p = refl
still-each k (x ∷ xs) h p = still-each k xs (λ y m. h y (there m)) (k x p).1 ∙ h x (here refl) p

still-backward : {A B : Type 0} (k : A → Planning B) (xs : List A) → ((x : A) → x ∈ xs → Still (k x)) → Still (for_each_backward k xs)
still-backward k [] h p = refl
still-backward k (x ∷ xs) h p = h x (here refl) (for_each_backward k xs p).1 ∙ still-backward k xs (λ y m. h y (there m)) p

-- no member passes a test that nothing passes
keep-none : (t : ℕ → Bool) → ((v : ℕ) → t v ≡ false) → (vs : List ℕ) → keep t vs ≡ []
keep-none t h [] = refl
keep-none t h (v ∷ vs) = ap (λ (b : Bool). elim b as (λ _. List ℕ) [ true ↦ v ∷ keep t vs | false ↦ keep t vs ]) (h v) ∙ keep-none t h vs

any_none : (t : ℕ → Bool) → ((v : ℕ) → t v ≡ false) → (vs : List ℕ) → any t vs ≡ false
any_none t h [] = refl
any_none t h (v ∷ vs) = rw (h v) (any_none t h vs)

module _ (f : Function) (pointer : ℕ) (accepted : Accepted f) (unspilled : (v : ℕ) → is_spilled f v ≡ false) where
  still-definition : (v : ℕ) → Still (plan_definition f pointer v)
  still-definition v p =
      ap (λ (b : Bool). (cond b (plan_store f pointer v (p.slots.slot_of v) p) (none, p)).1) (unspilled v)

  still-use : (v : ℕ) → Still (plan_use f pointer v)
  still-use v p = ap (λ (b : Bool). (cond b (plan_load f pointer v) (pure none) p).1) (unspilled v)

  still-edge-use : (x : EdgeArgument) → Still (plan_edge_use f pointer x)
  still-edge-use (passes.Value v) p = still-use v p
  still-edge-use (passes.Returned _) p = refl
  still-edge-use (passes.Exception _) p = refl

  still-edge : (e : Edge) → Still (plan_edge f pointer e)
  still-edge e p = still-each (plan_edge_use f pointer) e.arguments (λ x _. still-edge-use x) p

  still-safepoint-edge : (e : Edge) → Still (plan_safepoint_edge f pointer e)
  still-safepoint-edge e p =
      let passed : EdgePlan = record { landing = none; arguments = map (λ _. none) e.arguments } in
      ap (λ (b : Bool). (cond b (plan_landing f pointer e) (pure passed) p).1) (any_none (is_spilled f) unspilled (values_among e.arguments))

  -- a list that has only spilled values has none
  no-slots : (vs : List ℕ) → ((v : ℕ) → v ∈ vs → T (is_spilled f v)) → Still (for_each (plan_slot f pointer) vs)
  no-slots [] h p = refl
  no-slots (v ∷ vs) h p = absurd (subst T (unspilled v) (h v (here refl)))

  still-instruction : (i : Instruction) (list : Option (List ℕ)) → ((v : ℕ) → v ∈ or_else [] list → T (is_spilled f v)) → Still (plan_instruction f pointer (i, list))
  still-instruction i none h p =
      still-each (plan_edge f pointer) i.edges (λ e _. still-edge e) _
      ∙ still-each (plan_use f pointer) i.arguments (λ v _. still-use v) _
      ∙ still-each (plan_definition f pointer) i.results (λ v _. still-definition v) p
  still-instruction i (some list) h p =
      still-each (plan_use f pointer) i.arguments (λ v _. still-use v) _
      ∙ still-each (plan_safepoint_edge f pointer) i.edges (λ e _. still-safepoint-edge e) _
      ∙ no-slots list h _
      ∙ still-each (plan_definition f pointer) i.results (λ v _. still-definition v) p

  still-block : (b : ℕ) → b ∈ reachable f → Still (plan_block f pointer b)
  still-block b m p =
      still-each (plan_definition f pointer) (block_at f b).parameters (λ v _. still-definition v) _
      ∙ still-backward (plan_instruction f pointer) (listed_instructions f b) (λ x k. still-instruction x.0 x.1 (listed-spilled f b (in-file f pointer accepted b m) x k)) _
      ∙ ap (λ (vs : List ℕ). (for_each (plan_slot f pointer) vs p).1) (keep-none (is_spilled f) unspilled (members (length f.values) ((process f).outs b)))

  -- THE LAW. The plan is the one that planning begins with.
  pub planned-nothing : (planned f pointer).1 ≡ record { slots = no_slots; values = f.values; blocks = length f.blocks }
  unfolding planned
  planned-nothing =
      still-each (plan_block f pointer) (reachable f) still-block (record { slots = no_slots; values = f.values; blocks = length f.blocks })
