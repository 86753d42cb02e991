-- What planning leaves: the numbers of every reachable block's definitions, operands and edges are new, and those that are
-- loaded before one instruction ascend.
use Rattle.std.specs.Prelude.{ℕ, suc, ◌≤◌, ◌<◌, ◌≡◌, refl, Bool, true, false, not, cond, List, [], ◌∷◌, ◌++◌, map, length, T}
use Rattle.std.proofs.Common.{arith, sym, ap, subst, ◌∙◌, T_not}
use Rattle.std.proofs.Math.Option.{Option, none, some}
use Rattle.rules.specs.Lists.{any, keep, concat_zip, members, is_none}
use Rattle.rules.specs.Tree.{Edge, Instruction, Function}
use Rattle.rules.specs.Graph.{block_at, values_among, reachable}
use Rattle.rules.specs.Liveness.{is_spilled, process, listed_instructions}
use Rattle.rules.specs.Slots.{no_slots}
use Rattle.rules.specs.Plan.{Plan, Made, EdgePlan, InstructionPlan, BlockPlan, Planning, pure, for_each, for_each_backward}
use Rattle.rules.specs.Plan.{new_block, plan_slot, plan_store, plan_definition, plan_use, plan_edge, plan_landing, plan_safepoint_edge}
use Rattle.rules.specs.Plan.{plan_instruction, plan_block, planned}
use Rattle.rules.specs.declared.EdgeArgument.{EdgeArgument}
use Rattle.rules.specs.declared.EdgeArgument.TheVariants as passes
use Rattle.lists.specs.Members.{◌∈◌, here, there}
use Rattle.simulation.specs.Related.{Each}
use Rattle.agreement.specs.Numbers.{neither, value_count, one_more, Numbered, arguments-numbered, uses-numbered}
use Rattle.agreement.specs.Numbers.{landed-numbered, unspilled-numbered}
use Rattle.agreement.specs.Growing.{nothing-kept, slots-cost, definition-costs, uses-cost, edge-costs, safepoint-edge-costs}
use Rattle.agreement.specs.Growing.{instruction-costs, block-costs}

-- LOADS. Which values are loaded for operands, each with its address, in order.
abbrev pub loaded : List EdgeArgument → List Made → List (ℕ × ℕ)
loaded [] ns = []
loaded (_ ∷ _) [] = []
loaded (passes.Value v ∷ xs) (none ∷ ns) = loaded xs ns
loaded (passes.Value v ∷ xs) (some a ∷ ns) = (v, a) ∷ loaded xs ns
loaded (passes.Returned _ ∷ xs) (_ ∷ ns) = loaded xs ns
loaded (passes.Exception _ ∷ xs) (_ ∷ ns) = loaded xs ns

-- what an edge without a landing has loaded before its instruction
abbrev pub edge_loaded : Edge → EdgePlan → List (ℕ × ℕ)
edge_loaded e n = elim n.landing [ none ↦ loaded e.arguments n.arguments | some _ ↦ [] ]

-- what is loaded before an instruction
abbrev pub loaded_before : Instruction → InstructionPlan → List (ℕ × ℕ)
loaded_before i n = loaded (map passes.Value i.arguments) n.arguments ++ concat_zip edge_loaded i.edges n.edges

-- the addresses ascend from lo on, with room for the loaded value behind each, below hi
abbrev pub Ascending : ℕ → ℕ → List (ℕ × ℕ) → Type 0
Ascending lo hi [] = lo ≤ hi
Ascending lo hi (l ∷ ls) = (lo ≤ l.1) × Ascending (suc (suc l.1)) hi ls

ascending-from : (lower lo hi : ℕ) (ls : List (ℕ × ℕ)) → lower ≤ lo → Ascending lo hi ls → Ascending lower hi ls
ascending-from lower lo hi [] h a = omega arith
ascending-from lower lo hi (l ∷ ls) h a = (omega (arith, a.0), a.1)

ascending-append : (lo mid hi : ℕ) (xs ys : List (ℕ × ℕ)) → Ascending lo mid xs → Ascending mid hi ys → Ascending lo hi (xs ++ ys)
ascending-append lo mid hi [] ys a b = ascending-from lo mid hi ys a b
ascending-append lo mid hi (x ∷ xs) ys a b = (a.0, ascending-append (suc (suc x.1)) mid hi xs ys a.1 b)

module _ (f : Function) (landing : Bool) where
  pub numbered-ascending : (lo hi : ℕ) (xs : List EdgeArgument) (ns : List Made) → Numbered f landing lo hi xs ns
      → Ascending lo hi (loaded xs ns)
  numbered-ascending lo hi [] [] h = h
  numbered-ascending lo hi [] (_ ∷ _) h = absurd h
  numbered-ascending lo hi (passes.Value v ∷ xs) [] h = absurd h
  numbered-ascending lo hi (passes.Returned k ∷ xs) [] h = absurd h
  numbered-ascending lo hi (passes.Exception k ∷ xs) [] h = absurd h
  numbered-ascending lo hi (passes.Value v ∷ xs) (none ∷ ns) h = numbered-ascending lo hi xs ns h.1
  numbered-ascending lo hi (passes.Value v ∷ xs) (some a ∷ ns) h = (h.1, numbered-ascending (suc (suc a)) hi xs ns h.2)
  numbered-ascending lo hi (passes.Returned k ∷ xs) (none ∷ ns) h = numbered-ascending lo hi xs ns h.1
  numbered-ascending lo hi (passes.Returned k ∷ xs) (some p ∷ ns) h =
      ascending-from lo (suc p) hi (loaded xs ns) (omega (arith, h.1)) (numbered-ascending (suc p) hi xs ns h.2)
  numbered-ascending lo hi (passes.Exception k ∷ xs) (none ∷ ns) h = numbered-ascending lo hi xs ns h.1
  numbered-ascending lo hi (passes.Exception k ∷ xs) (some p ∷ ns) h =
      ascending-from lo (suc p) hi (loaded xs ns) (omega (arith, h.1)) (numbered-ascending (suc p) hi xs ns h.2)

-- what is not spilled is not loaded
unspilled-loads-none : (f : Function) (lo hi : ℕ) (xs : List EdgeArgument) (ns : List Made)
    → T (not (any (is_spilled f) (values_among xs))) → Numbered f false lo hi xs ns → loaded xs ns ≡ []
unspilled-loads-none f lo hi [] ns t h = refl
unspilled-loads-none f lo hi (passes.Value v ∷ xs) [] t h = refl
unspilled-loads-none f lo hi (passes.Returned k ∷ xs) [] t h = refl
unspilled-loads-none f lo hi (passes.Exception k ∷ xs) [] t h = refl
unspilled-loads-none f lo hi (passes.Value v ∷ xs) (none ∷ ns) t h =
    unspilled-loads-none f lo hi xs ns (neither (is_spilled f v) (any (is_spilled f) (values_among xs)) t).1 h.1
unspilled-loads-none f lo hi (passes.Value v ∷ xs) (some a ∷ ns) t h =
    absurd (T_not (is_spilled f v) (neither (is_spilled f v) (any (is_spilled f) (values_among xs)) t).0 h.0)
unspilled-loads-none f lo hi (passes.Returned k ∷ xs) (none ∷ ns) t h = unspilled-loads-none f lo hi xs ns t h.1
unspilled-loads-none f lo hi (passes.Returned k ∷ xs) (some p ∷ ns) t h = absurd h.0
unspilled-loads-none f lo hi (passes.Exception k ∷ xs) (none ∷ ns) t h = unspilled-loads-none f lo hi xs ns t h.1
unspilled-loads-none f lo hi (passes.Exception k ∷ xs) (some p ∷ ns) t h = absurd h.0

-- THE NUMBERS OF A FILE
-- a value beyond the file's
abbrev pub New : Function → ℕ → Type 0
New f n = length f.values ≤ n

-- an edge passes as many as its target has parameters
abbrev pub Fits : Function → Edge → Type 0
Fits f e = length e.arguments ≡ length (block_at f e.target).parameters

-- how many values there are in the end
abbrev pub value_limit : Function → ℕ → ℕ
value_limit f pointer = value_count (planned f pointer).1

-- numbers are new, and below a limit
module _ (f : Function) (limit : ℕ) where
  -- a definition that is stored is spilled, through a new address
  abbrev pub Defined : ℕ → Made → Type 0
  Defined v none = Unit
  Defined v (some a) = T (is_spilled f v) × New f a × (a < limit)

  -- an edge's operands by its landing; one without a landing passes nothing spilled over a safepoint
  abbrev pub OperandsNumbered : Bool → List EdgeArgument → Option ℕ → List Made → ℕ → ℕ → Type 0
  OperandsNumbered safepoint xs none ns lo hi = Numbered f false lo hi xs ns × (T safepoint → T (not (any (is_spilled f) (values_among xs))))
  OperandsNumbered safepoint xs (some _) ns lo hi = Numbered f true lo hi xs ns

  -- all from some new number on, below the limit
  abbrev pub EdgeNumbered : Bool → Edge → EdgePlan → Type 0
  EdgeNumbered safepoint e n =
      (lo : ℕ) × (hi : ℕ) × New f lo × OperandsNumbered safepoint e.arguments n.landing n.arguments lo hi × (hi ≤ limit)

  -- an instruction's arguments are numbered from first to last, and what is loaded before it, for its edges too, ascends from there
  pub record InstructionNumbered (x : Instruction × Option (List ℕ)) (n : InstructionPlan) : Type 0 where
    pub first : ℕ
    pub last : ℕ
    pub new : New f first
    pub arguments : Numbered f false first last (map passes.Value x.0.arguments) n.arguments
    pub edges : Each (EdgeNumbered (not (is_none x.1))) x.0.edges n.edges
    pub loads : (end : ℕ) × Ascending first end (loaded_before x.0 n) × (end ≤ limit)
    pub results : Each Defined x.0.results n.results

  -- every number of a block
  pub record BlockNumbered (b : ℕ) (n : BlockPlan) : Type 0 where
    pub parameters : Each Defined (block_at f b).parameters n.parameters
    pub instructions : Each InstructionNumbered (listed_instructions f b) n.instructions

-- STEPS
-- counts only grow
abbrev Grows : {A : Type 0} → Planning A → Type 0
Grows m = (p : Plan) → value_count p ≤ value_count (m p).1

module _ {A B : Type 0} (k : A → Planning B) (grows : (x : A) → Grows (k x)) where
  each-grows : (xs : List A) → Grows (for_each k xs)
  each-grows [] p = omega arith
  each-grows (x ∷ xs) p = omega (arith, grows x p, each-grows xs (k x p).1)

  backward-grows : (xs : List A) → Grows (for_each_backward k xs)
  backward-grows [] p = omega arith
  backward-grows (x ∷ xs) p = omega (arith, backward-grows xs p, grows x (for_each_backward k xs p).1)

  -- of each member a step leaves what it leaves of one, between a lowest count and a limit
  module _ (R : A → B → Type 0) (lowest limit : ℕ) where
    abbrev Leaves : List A → Type 0
    Leaves xs = (x : A) → x ∈ xs → (p : Plan) → lowest ≤ value_count p → value_count (k x p).1 ≤ limit → R x (k x p).0

    each-planned : (xs : List A) → Leaves xs → (p : Plan) → lowest ≤ value_count p → value_count (for_each k xs p).1 ≤ limit
        → Each R xs (for_each k xs p).0
    each-planned [] h p l u = tt
    each-planned (x ∷ xs) h p l u =
        let after = (k x p).1 in
        let more = each-grows xs after in
        (h x (here refl) p l (omega (arith, more, u)), each-planned xs (λ y m. h y (there m)) after (omega (arith, l, grows x p)) u)

    -- the last one first
    each-planned-backward : (xs : List A) → Leaves xs → (p : Plan) → lowest ≤ value_count p
        → value_count (for_each_backward k xs p).1 ≤ limit → Each R xs (for_each_backward k xs p).0
    each-planned-backward [] h p l u = tt
    each-planned-backward (x ∷ xs) h p l u =
        let before = (for_each_backward k xs p).1 in (
          h x (here refl) before (omega (arith, l, backward-grows xs p)) u,
          each-planned-backward xs (λ y m. h y (there m)) p l (omega (arith, u, grows x before)),
        )

module _ (f : Function) (pointer limit : ℕ) where
  definition-grows : (v : ℕ) → Grows (plan_definition f pointer v)
  definition-grows v p = (definition-costs f pointer _ _ _ (nothing-kept f pointer) v p).values

  edge-grows : (e : Edge) → Grows (plan_edge f pointer e)
  edge-grows e p = (edge-costs f pointer _ _ _ (nothing-kept f pointer) e p).values

  safepoint-edge-grows : (e : Edge) → Grows (plan_safepoint_edge f pointer e)
  safepoint-edge-grows e p = (safepoint-edge-costs f pointer _ _ _ (nothing-kept f pointer) e p).values

  uses-grow : (vs : List ℕ) → Grows (for_each (plan_use f pointer) vs)
  uses-grow vs p = (uses-cost f pointer _ _ _ (nothing-kept f pointer) vs p).values

  slots-grow : (vs : List ℕ) → Grows (for_each (plan_slot f pointer) vs)
  slots-grow vs p = (slots-cost f pointer _ _ _ (nothing-kept f pointer) vs (λ _ _. tt) p).values

  instruction-grows : (x : Instruction × Option (List ℕ)) → Grows (plan_instruction f pointer x)
  instruction-grows x p = (instruction-costs f pointer _ _ _ (nothing-kept f pointer) x (λ _ _. tt) p).values

  block-grows : (b : ℕ) → Grows (plan_block f pointer b)
  block-grows b p = (block-costs f pointer _ _ _ (nothing-kept f pointer) b (λ _ _ _ _. tt) p).values

  -- DEFINITIONS
  definition-planned : (v : ℕ) (p : Plan) → New f (value_count p) → value_count (plan_definition f pointer v p).1 ≤ limit
      → Defined f limit v (plan_definition f pointer v p).0
  definition-planned v p l = go (is_spilled f v) (λ t. t) (p.slots.slot_of v)
    where
      go : (c : Bool) → (T c → T (is_spilled f v)) → (slot : Option ℕ)
          → value_count (cond c (plan_store f pointer v slot p) (none, p)).1 ≤ limit
          → Defined f limit v (cond c (plan_store f pointer v slot p) (none, p)).0
      go true s none u = tt
      go true s (some slot) u = (s tt, l, omega (arith, u, one_more p.values (record { size = pointer; marked = false })))
      go false s slot u = tt

  definitions-planned : (vs : List ℕ) (p : Plan) → New f (value_count p)
      → value_count (for_each (plan_definition f pointer) vs p).1 ≤ limit
      → Each (Defined f limit) vs (for_each (plan_definition f pointer) vs p).0
  definitions-planned vs =
      each-planned (plan_definition f pointer) definition-grows (Defined f limit) (length f.values) limit vs (λ v m. definition-planned v)

  definitions-grow : (vs : List ℕ) → Grows (for_each (plan_definition f pointer) vs)
  definitions-grow = each-grows (plan_definition f pointer) definition-grows

  -- EDGES without landings, and their loads
  edge-planned : (e : Edge) (p : Plan) → New f (value_count p) → value_count (plan_edge f pointer e p).1 ≤ limit
      → EdgeNumbered f limit false e (plan_edge f pointer e p).0
  edge-planned e p l u =
      (value_count p, value_count (plan_edge f pointer e p).1, l, (uses-numbered f pointer e.arguments p, λ t. absurd t), u)

  edges-ascending : (es : List Edge) (p : Plan)
      → Ascending (value_count p) (value_count (for_each (plan_edge f pointer) es p).1)
      (concat_zip edge_loaded es (for_each (plan_edge f pointer) es p).0)
  edges-ascending [] p = omega arith
  edges-ascending (e ∷ es) p =
      let one = plan_edge f pointer e p in
      let rest = for_each (plan_edge f pointer) es one.1 in
      ascending-append (value_count p) (value_count one.1) (value_count rest.1)
      (loaded e.arguments one.0.arguments) (concat_zip edge_loaded es rest.0)
      (numbered-ascending f false (value_count p) (value_count one.1) e.arguments one.0.arguments
      (uses-numbered f pointer e.arguments p))
      (edges-ascending es one.1)

  -- at a safepoint
  safepoint-edge-planned : (e : Edge) → Fits f e → (p : Plan) → New f (value_count p) → value_count (plan_safepoint_edge f pointer e p).1 ≤ limit
      → EdgeNumbered f limit true e (plan_safepoint_edge f pointer e p).0
  safepoint-edge-planned e fits p l = go (any (is_spilled f) (values_among e.arguments)) (λ t. t)
    where
      none_made : EdgePlan
      none_made = record { landing = none; arguments = map (λ _. none) e.arguments }

      go : (c : Bool) → (T (not c) → T (not (any (is_spilled f) (values_among e.arguments))))
          → value_count (cond c (plan_landing f pointer e) (pure none_made) p).1 ≤ limit
          → EdgeNumbered f limit true e (cond c (plan_landing f pointer e) (pure none_made) p).0
      go true n u = (
        value_count p,
        value_count (plan_landing f pointer e p).1,
        l,
        landed-numbered f pointer e.arguments (block_at f e.target).parameters fits (new_block p).1,
        u,
      )
      go false n u =
          (value_count p, value_count p, l, (unspilled-numbered f pointer e.arguments (value_count p) (n tt), λ _. n tt), u)

  -- no edge of a safepoint has anything loaded before it
  safepoint-loads-none : (es : List Edge) (ns : List EdgePlan) → Each (EdgeNumbered f limit true) es ns → concat_zip edge_loaded es ns ≡ []
  safepoint-loads-none [] ns h = refl
  safepoint-loads-none (e ∷ es) [] h = refl
  safepoint-loads-none (e ∷ es) (n ∷ ns) h =
      go n.landing n.arguments h.0 ∙ safepoint-loads-none es ns h.1
    where
      go : (l : Option ℕ) (ms : List Made) → EdgeNumbered f limit true e (record { landing = l; arguments = ms })
          → edge_loaded e (record { landing = l; arguments = ms }) ++ concat_zip edge_loaded es ns ≡ concat_zip edge_loaded es ns
      go none ms h =
          ap (λ ls. ls ++ concat_zip edge_loaded es ns)
          (unspilled-loads-none f h.0 h.1 e.arguments ms (h.3.1 tt) h.3.0)
      go (some b) ms h = refl

  -- INSTRUCTIONS
  instruction-planned : (x : Instruction × Option (List ℕ)) → ((e : Edge) → e ∈ x.0.edges → Fits f e)
      → (p : Plan) → New f (value_count p) → value_count (plan_instruction f pointer x p).1 ≤ limit
      → InstructionNumbered f limit x (plan_instruction f pointer x p).0
  instruction-planned (i, none) fits p l u =
      let behind = (for_each (plan_definition f pointer) i.results p).1 in
      let us = for_each (plan_use f pointer) i.arguments behind in
      let end = for_each (plan_edge f pointer) i.edges us.1 in
      let numbered = arguments-numbered f pointer i.arguments behind in
      let xs = map passes.Value i.arguments in
      let grown₁ = definitions-grow i.results p in
      let grown₂ = uses-grow i.arguments behind in
      let grown₃ = each-grows (plan_edge f pointer) edge-grows i.edges us.1 in
      record {
        first = value_count behind;
        last = value_count us.1;
        new = omega (arith, l, grown₁);
        arguments = numbered;
        edges = each-planned (plan_edge f pointer) edge-grows (EdgeNumbered f limit false) (length f.values) limit i.edges
            (λ e m. edge-planned e) us.1 (omega (arith, l, grown₁, grown₂)) u;
        loads = (
          value_count end.1,
          ascending-append (value_count behind) (value_count us.1) (value_count end.1) (loaded xs us.0)
              (concat_zip edge_loaded i.edges end.0)
              (numbered-ascending f false (value_count behind) (value_count us.1) xs us.0 numbered)
              (edges-ascending i.edges us.1),
          u,
        );
        results = definitions-planned i.results p l (omega (arith, u, grown₂, grown₃));
      }
  instruction-planned (i, some list) fits p l u =
      let behind = (for_each (plan_definition f pointer) i.results p).1 in
      let given = (for_each (plan_slot f pointer) list behind).1 in
      let led = for_each (plan_safepoint_edge f pointer) i.edges given in
      let us = for_each (plan_use f pointer) i.arguments led.1 in
      let numbered = arguments-numbered f pointer i.arguments led.1 in
      let xs = map passes.Value i.arguments in
      let grown₁ = definitions-grow i.results p in
      let grown₂ = slots-grow list behind in
      let grown₃ = each-grows (plan_safepoint_edge f pointer) safepoint-edge-grows i.edges given in
      let grown₄ = uses-grow i.arguments led.1 in
      let es =
      each-planned (plan_safepoint_edge f pointer) safepoint-edge-grows (EdgeNumbered f limit true) (length f.values) limit i.edges
      (λ e m. safepoint-edge-planned e (fits e m)) given (omega (arith, l, grown₁, grown₂)) (omega (arith, u, grown₄)) in
      record {
        first = value_count led.1;
        last = value_count us.1;
        new = omega (arith, l, grown₁, grown₂, grown₃);
        arguments = numbered;
        edges = es;
        loads = (
          value_count us.1,
          ascending-append (value_count led.1) (value_count us.1) (value_count us.1) (loaded xs us.0)
              (concat_zip edge_loaded i.edges led.0)
              (numbered-ascending f false (value_count led.1) (value_count us.1) xs us.0 numbered)
              (subst (Ascending (value_count us.1) (value_count us.1)) (sym (safepoint-loads-none i.edges led.0 es)) (omega arith)),
          u,
        );
        results = definitions-planned i.results p l (omega (arith, u, grown₂, grown₃, grown₄));
      }

  -- BLOCKS
  block-planned : (b : ℕ) → ((x : Instruction × Option (List ℕ)) → x ∈ listed_instructions f b → (e : Edge) → e ∈ x.0.edges → Fits f e)
      → (p : Plan) → New f (value_count p) → value_count (plan_block f pointer b p).1 ≤ limit
      → BlockNumbered f limit b (plan_block f pointer b p).0
  block-planned b fits p l u =
      let early = keep (is_spilled f) (members (length f.values) ((process f).outs b)) in
      let given = (for_each (plan_slot f pointer) early p).1 in
      let walked = (for_each_backward (plan_instruction f pointer) (listed_instructions f b) given).1 in
      let grown₁ = slots-grow early p in
      let grown₂ =
      backward-grows (plan_instruction f pointer) instruction-grows (listed_instructions f b) given in
      let grown₃ = definitions-grow (block_at f b).parameters walked in
      record {
        parameters = definitions-planned (block_at f b).parameters walked (omega (arith, l, grown₁, grown₂)) u;
        instructions = each-planned-backward (plan_instruction f pointer) instruction-grows (InstructionNumbered f limit) (length f.values) limit
            (listed_instructions f b) (λ x m. instruction-planned x (fits x m)) given (omega (arith, l, grown₁)) (omega (arith, u, grown₃));
      }

-- Every reachable block's numbers are new, and below the number of values in the end.
pub planned-numbered : (f : Function) (pointer : ℕ)
    → ((b : ℕ) → b ∈ reachable f → (x : Instruction × Option (List ℕ)) → x ∈ listed_instructions f b → (e : Edge) → e ∈ x.0.edges → Fits f e)
    → Each (BlockNumbered f (value_limit f pointer)) (reachable f) (planned f pointer).0
unfolding planned
planned-numbered f pointer fits =
    let limit = value_limit f pointer in
    each-planned (plan_block f pointer) (block-grows f pointer limit) (BlockNumbered f limit) (length f.values) limit (reachable f)
    (λ b m. block-planned f pointer limit b (fits b m)) (record { slots = no_slots; values = f.values; blocks = length f.blocks })
    (omega arith) (omega arith)
