-- How planning grows a plan: values and blocks are only added, at most as many as the operands, definitions and edges ask for,
-- and what each single step keeps is kept by all.
use Rattle.std.specs.Prelude.{ℕ, ◌+◌, ◌≤◌, ◌≡◌, refl, Bool, true, false, cond, List, [], ◌∷◌, map, T}
use Rattle.std.proofs.Common.{arith}
use Rattle.std.proofs.Math.Option.{Option, none, some}
use Rattle.std.proofs.Math.ListN.{length}
use Rattle.rules.specs.Lists.{any, keep, or_else, members}
use Rattle.rules.specs.Tree.{Edge, Instruction, Function}
use Rattle.rules.specs.Graph.{block_at, size_of, values_among, reachable}
use Rattle.rules.specs.Liveness.{is_spilled, process, listed_instructions}
use Rattle.rules.specs.Slots.{no_slots, free_slot}
use Rattle.rules.specs.Plan.{Plan, EdgePlan, Planning, pure, for_each, for_each_backward, new_value, new_block, change_slots}
use Rattle.rules.specs.Plan.{plan_slot, plan_store, plan_definition, plan_load, plan_use, plan_edge_use, plan_edge, plan_landing}
use Rattle.rules.specs.Plan.{plan_safepoint_edge, plan_instruction, plan_block, planned}
use Rattle.rules.specs.declared.EdgeArgument.{EdgeArgument}
use Rattle.rules.specs.declared.EdgeArgument.TheVariants as passes
use Rattle.lists.specs.Members.{◌∈◌, here, there}
use Rattle.fixpoint.specs.Finding.{keep-passes}
use Rattle.fixpoint.specs.Sums.{sum, sum-zero}
use Rattle.agreement.specs.Numbers.{value_count, one_more, landed_steps}

-- by at most k values and at most k blocks, where something that a plan has is kept
pub record Grown (Good : Plan → Type 0) (k : ℕ) (p q : Plan) : Type 0 where
  pub values : value_count p ≤ value_count q
  pub values-by : value_count q ≤ value_count p + k
  pub blocks : p.blocks ≤ q.blocks
  pub blocks-by : q.blocks ≤ p.blocks + k
  pub good : Good p → Good q

module _ (Good : Plan → Type 0) where
  -- a step grows every plan so
  abbrev pub Costs : {A : Type 0} → ℕ → Planning A → Type 0
  Costs k m = (p : Plan) → Grown Good k p (m p).1

  -- not at all
  grown-none : {p : Plan} → Grown Good 0 p p
  grown-none {p} = record { values = omega arith; values-by = omega arith; blocks = omega arith; blocks-by = omega arith; good = λ g. g }

  -- twice
  grown-then : {j k : ℕ} {p q r : Plan} → Grown Good j p q → Grown Good k q r → Grown Good (j + k) p r
  grown-then a b =
      record {
        values = omega (arith, a.values, b.values);
        values-by = omega (arith, a.values-by, b.values-by);
        blocks = omega (arith, a.blocks, b.blocks);
        blocks-by = omega (arith, a.blocks-by, b.blocks-by);
        good = λ g. b.good (a.good g);
      }

  -- by less than that
  grown-more : {j k : ℕ} {p q : Plan} → j ≤ k → Grown Good j p q → Grown Good k p q
  grown-more l a =
      record {
        values = a.values;
        values-by = omega (arith, a.values-by);
        blocks = a.blocks;
        blocks-by = omega (arith, a.blocks-by);
        good = a.good;
      }

  module _ {A B : Type 0} (k : A → Planning B) (cost : A → ℕ) where
    -- steps for the members of a list cost what each costs
    pub each-costs : (xs : List A) → ((x : A) → x ∈ xs → Costs (cost x) (k x)) → Costs (sum cost xs) (for_each k xs)
    each-costs [] h p = grown-none
    each-costs (x ∷ xs) h p = grown-then (h x (here refl) p) (each-costs xs (λ y m. h y (there m)) (k x p).1)

    -- also the last one first
    pub each-costs-backward : (xs : List A) → ((x : A) → x ∈ xs → Costs (cost x) (k x)) → Costs (sum cost xs) (for_each_backward k xs)
    each-costs-backward [] h p = grown-none
    each-costs-backward (x ∷ xs) h p =
        let rest = each-costs-backward xs (λ y m. h y (there m)) p in
        let one = h x (here refl) (for_each_backward k xs p).1 in
        grown-more (omega arith) (grown-then rest one)

-- what single steps keep, for new values of sizes that are fine, and for values that may be given slots
pub record StepsKeep (f : Function) (pointer : ℕ) (Fine Given : ℕ → Type 0) (Good : Plan → Type 0) : Type 0 where
  pub value : (size : ℕ) → Fine size → (p : Plan) → Good p → Good (new_value size p).1
  pub block : (p : Plan) → Good p → Good (new_block p).1
  pub slot : (v : ℕ) → Given v → (p : Plan) → Good p → Good (plan_slot f pointer v p).1
  pub free : (v slot : ℕ) (p : Plan) → p.slots.slot_of v ≡ some slot → Good p → Good (change_slots (free_slot slot (size_of f v)) p).1
  pub pointer-fine : Fine pointer
  pub spilled-fine : (v : ℕ) → T (is_spilled f v) → Fine (size_of f v)
  pub spilled-given : (v : ℕ) → T (is_spilled f v) → Given v
  pub parameter-fine : (b v : ℕ) → v ∈ (block_at f b).parameters → Fine (size_of f v)

-- every plan has nothing to keep
pub nothing-kept : (f : Function) (pointer : ℕ) → StepsKeep f pointer (λ _. Unit) (λ _. Unit) (λ _. Unit)
nothing-kept f pointer =
    record {
      value = λ _ _ _ _. tt;
      block = λ _ _. tt;
      slot = λ _ _ _ _. tt;
      free = λ _ _ _ _ _. tt;
      pointer-fine = tt;
      spilled-fine = λ _ _. tt;
      spilled-given = λ _ _. tt;
      parameter-fine = λ _ _ _. tt;
    }

-- WHAT IS ASKED FOR: for a use its address and its load,
abbrev pub two : {A : Type 0} → A → ℕ
two _ = 2

-- for a definition its address,
abbrev pub one : {A : Type 0} → A → ℕ
one _ = 1

-- for an edge its landing, and two for each operand that it passes,
abbrev pub edge_cost : Edge → ℕ
edge_cost e = 1 + sum two e.arguments

-- for an instruction what its results, arguments and edges ask for,
abbrev pub instruction_cost : Instruction → ℕ
instruction_cost i = sum one i.results + (sum two i.arguments + sum edge_cost i.edges)

-- and for a block what its instructions and parameters ask for.
abbrev pub block_cost : Function → ℕ → ℕ
block_cost f b = sum (λ x. instruction_cost x.0) (listed_instructions f b) + sum one (block_at f b).parameters

module _ (f : Function) (pointer : ℕ) (Fine Given : ℕ → Type 0) (Good : Plan → Type 0) (keeps : StepsKeep f pointer Fine Given Good) where
  -- a new value costs one
  value-costs : (size : ℕ) → Fine size → Costs Good 1 (new_value size)
  value-costs size fine p =
      let more = one_more p.values (record { size = size; marked = false }) in
      record { values = omega (arith, more); values-by = omega (arith, more); blocks = omega arith; blocks-by = omega arith; good = keeps.value size fine p }

  -- a slot costs no value and no block
  slot-costs : (v : ℕ) → Given v → Costs Good 0 (plan_slot f pointer v)
  slot-costs v t p =
      record { values = omega arith; values-by = omega arith; blocks = omega arith; blocks-by = omega arith; good = keeps.slot v t p }

  pub slots-cost : (vs : List ℕ) → ((v : ℕ) → v ∈ vs → Given v) → Costs Good (sum (λ _. 0) vs) (for_each (plan_slot f pointer) vs)
  slots-cost vs h = each-costs Good (plan_slot f pointer) (λ _. 0) vs (λ v m. slot-costs v (h v m))

  -- a use costs two, spilled or not
  pub use-costs : (v : ℕ) → Costs Good 2 (plan_use f pointer v)
  use-costs v p = go (is_spilled f v) (λ t. t)
    where
      go : (c : Bool) → (T c → T (is_spilled f v)) → Grown Good 2 p (cond c (plan_load f pointer v) (pure none) p).1
      go true s =
          let given = (plan_slot f pointer v p).1 in
          grown-then Good (slot-costs v (keeps.spilled-given v (s tt)) p)
          (grown-then Good (value-costs pointer keeps.pointer-fine given)
          (value-costs (size_of f v) (keeps.spilled-fine v (s tt)) (new_value pointer given).1))
      go false s = grown-more Good (omega arith) (grown-none Good)

  -- a definition one
  pub definition-costs : (v : ℕ) → Costs Good 1 (plan_definition f pointer v)
  definition-costs v p = go (is_spilled f v) (p.slots.slot_of v) refl
    where
      go : (c : Bool) (slot : Option ℕ) → p.slots.slot_of v ≡ slot → Grown Good 1 p (cond c (plan_store f pointer v slot p) (none, p)).1
      go true none e = grown-more Good (omega arith) (grown-none Good)
      go true (some slot) e =
          let made = (new_value pointer p).1 in
          let freed : Grown Good 0 made (change_slots (free_slot slot (size_of f v)) made).1 =
          record { values = omega arith; values-by = omega arith; blocks = omega arith; blocks-by = omega arith; good = keeps.free v slot made e } in
          grown-then Good (value-costs pointer keeps.pointer-fine p) freed
      go false slot e = grown-more Good (omega arith) (grown-none Good)

  pub edge-use-costs : (x : EdgeArgument) → Costs Good 2 (plan_edge_use f pointer x)
  edge-use-costs (passes.Value v) = use-costs v
  edge-use-costs (passes.Returned k) = λ p. grown-more Good (omega arith) (grown-none Good)
  edge-use-costs (passes.Exception k) = λ p. grown-more Good (omega arith) (grown-none Good)

  -- an edge without a landing, and one of a safepoint
  pub edge-costs : (e : Edge) → Costs Good (edge_cost e) (plan_edge f pointer e)
  edge-costs e p = grown-more Good (omega arith) (each-costs Good (plan_edge_use f pointer) two e.arguments (λ x m. edge-use-costs x) p)

  -- what a landing is passed
  pub landed-costs : (xs : List EdgeArgument) (ps : List ℕ) → ((t : ℕ) → t ∈ ps → Fine (size_of f t))
      → Costs Good (sum two xs) (for_each (λ m. m) (landed_steps f pointer xs ps))
  landed-costs [] ps fine p = grown-none Good
  landed-costs (x ∷ xs) [] fine p = grown-more Good (omega arith) (grown-none Good)
  landed-costs (passes.Value v ∷ xs) (t ∷ ps) fine p =
      grown-then Good (use-costs v p) (landed-costs xs ps (λ u m. fine u (there m)) (plan_use f pointer v p).1)
  landed-costs (passes.Returned k ∷ xs) (t ∷ ps) fine p =
      grown-more Good (omega arith) (grown-then Good (value-costs (size_of f t) (fine t (here refl)) p)
      (landed-costs xs ps (λ u m. fine u (there m)) (new_value (size_of f t) p).1))
  landed-costs (passes.Exception k ∷ xs) (t ∷ ps) fine p =
      grown-more Good (omega arith) (grown-then Good (value-costs (size_of f t) (fine t (here refl)) p)
      (landed-costs xs ps (λ u m. fine u (there m)) (new_value (size_of f t) p).1))

  pub safepoint-edge-costs : (e : Edge) → Costs Good (edge_cost e) (plan_safepoint_edge f pointer e)
  safepoint-edge-costs e p = go (any (is_spilled f) (values_among e.arguments))
    where
      none_made : EdgePlan
      none_made = record { landing = none; arguments = map (λ _. none) e.arguments }

      first : Grown Good 1 p (new_block p).1
      first = record { values = omega arith; values-by = omega arith; blocks = omega arith; blocks-by = omega arith; good = keeps.block p }

      go : (c : Bool) → Grown Good (edge_cost e) p (cond c (plan_landing f pointer e) (pure none_made) p).1
      go true =
          grown-then Good first
          (landed-costs e.arguments (block_at f e.target).parameters (λ t m. keeps.parameter-fine e.target t m) (new_block p).1)
      go false = grown-more Good (omega arith) (grown-none Good)

  -- several definitions, and several uses
  pub definitions-cost : (vs : List ℕ) → Costs Good (sum one vs) (for_each (plan_definition f pointer) vs)
  definitions-cost vs = each-costs Good (plan_definition f pointer) one vs (λ v m. definition-costs v)

  pub uses-cost : (vs : List ℕ) → Costs Good (sum two vs) (for_each (plan_use f pointer) vs)
  uses-cost vs = each-costs Good (plan_use f pointer) two vs (λ v m. use-costs v)

  -- An instruction costs what its definitions, uses and edges cost, where its list has spilled values only,
  pub instruction-costs : (x : Instruction × Option (List ℕ)) → ((v : ℕ) → v ∈ or_else [] x.1 → Given v)
      → Costs Good (instruction_cost x.0) (plan_instruction f pointer x)
  instruction-costs (i, none) listed p =
      let behind = (for_each (plan_definition f pointer) i.results p).1 in
      let loaded = (for_each (plan_use f pointer) i.arguments behind).1 in
      grown-then Good (definitions-cost i.results p)
      (grown-then Good (uses-cost i.arguments behind) (each-costs Good (plan_edge f pointer) edge_cost i.edges (λ e m. edge-costs e) loaded))
  instruction-costs (i, some list) listed p =
      let behind = (for_each (plan_definition f pointer) i.results p).1 in
      let given = (for_each (plan_slot f pointer) list behind).1 in
      let led = (for_each (plan_safepoint_edge f pointer) i.edges given).1 in
      grown-more Good (omega (arith, sum-zero list))
      (grown-then Good (definitions-cost i.results p)
      (grown-then Good (slots-cost list listed behind)
      (grown-then Good (each-costs Good (plan_safepoint_edge f pointer) edge_cost i.edges (λ e m. safepoint-edge-costs e) given)
      (uses-cost i.arguments led))))

  -- a block what its instructions and parameters cost,
  pub block-costs : (b : ℕ) → ((x : Instruction × Option (List ℕ)) → x ∈ listed_instructions f b → (v : ℕ) → v ∈ or_else [] x.1 → Given v)
      → Costs Good (block_cost f b) (plan_block f pointer b)
  block-costs b listed p =
      let early = keep (is_spilled f) (members (length f.values) ((process f).outs b)) in
      let given = (for_each (plan_slot f pointer) early p).1 in
      let walked = (for_each_backward (plan_instruction f pointer) (listed_instructions f b) given).1 in
      grown-more Good (omega (arith, sum-zero early))
      (grown-then Good (slots-cost early
      (λ v m. keeps.spilled-given v (keep-passes (is_spilled f) (members (length f.values) ((process f).outs b)) m)) p)
      (grown-then Good
      (each-costs-backward Good (plan_instruction f pointer) (λ x. instruction_cost x.0) (listed_instructions f b)
      (λ x m. instruction-costs x (listed x m)) given)
      (definitions-cost (block_at f b).parameters walked)))

  -- and the whole what the reachable blocks cost.
  pub planned-costs : ((b : ℕ) → b ∈ reachable f → (x : Instruction × Option (List ℕ)) → x ∈ listed_instructions f b
      → (v : ℕ) → v ∈ or_else [] x.1 → Given v)
      → Grown Good (sum (block_cost f) (reachable f)) (record { slots = no_slots; values = f.values; blocks = length f.blocks })
      (planned f pointer).1
  unfolding planned
  planned-costs listed =
      each-costs Good (plan_block f pointer) (block_cost f) (reachable f) (λ b m. block-costs b (listed b m))
      (record { slots = no_slots; values = f.values; blocks = length f.blocks })
