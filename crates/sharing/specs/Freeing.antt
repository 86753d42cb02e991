-- What planning's steps free, counted: instructions no more than their results, blocks no more than they define.
use Rattle.std.specs.Prelude.{ℕ, ◌+◌, ◌≤◌, ◌≡◌, refl, Bool, true, false, cond, List, [], ◌∷◌, ◌++◌, map, length, eqb}
use Rattle.std.proofs.Common.{arith}
use Rattle.std.proofs.Math.Option.{Option, none, some}
use Rattle.rules.specs.Lists.{any, keep, count, concat_map, zip_with, members}
use Rattle.rules.specs.Tree.{Edge, Instruction, Function}
use Rattle.rules.specs.Records.{bit}
use Rattle.rules.specs.Graph.{block_at, instructions_of, values_among}
use Rattle.rules.specs.Liveness.{process, lists_among, lists_of, listed_instructions, is_spilled}
use Rattle.rules.specs.Demand3.{results_of, defined_in}
use Rattle.rules.specs.declared.EdgeArgument.{EdgeArgument}
use Rattle.rules.specs.declared.EdgeArgument.TheVariants as passes
use Rattle.lists.specs.Counts.{count-more, count-append}
use Rattle.sharing.specs.SlotSteps.{SlotStep, gives, frees, is_free_of, freed, last_first, definition_steps, use_steps}
use Rattle.sharing.specs.SlotSteps.{edge_use_steps, edge_steps, landing_steps, safepoint_edge_steps, instruction_steps}
use Rattle.sharing.specs.SlotSteps.{out_steps, block_steps}
use Rattle.sharing.specs.Points.{behind_steps, point_steps}

module _ (f : Function) (v : ℕ) where
  -- Uses free nothing:
  gives-free-none : (vs : List ℕ) → freed v (map gives vs) ≡ 0
  gives-free-none [] = refl
  gives-free-none (w ∷ vs) = gives-free-none vs

  concat_map-free-none :
      {A : Type 0} (g : A → List SlotStep) → ((x : A) → freed v (g x) ≡ 0) → (xs : List A) → freed v (concat_map g xs) ≡ 0
  concat_map-free-none g h [] = refl
  concat_map-free-none g h (x ∷ xs) =
      omega (arith, count-append (is_free_of v) (g x) (concat_map g xs), h x, concat_map-free-none g h xs)

  use-frees-none : (w : ℕ) → freed v (use_steps f w) ≡ 0
  use-frees-none w = go (is_spilled f w)
    where
      go : (s : Bool) → freed v (cond s (gives w ∷ []) []) ≡ 0
      go true = refl
      go false = refl

  edge-use-frees-none : (x : EdgeArgument) → freed v (edge_use_steps f x) ≡ 0
  edge-use-frees-none (passes.Value w) = use-frees-none w
  edge-use-frees-none (passes.Returned _) = refl
  edge-use-frees-none (passes.Exception _) = refl

  landing-frees-none : (e : Edge) → freed v (safepoint_edge_steps f e) ≡ 0
  landing-frees-none e = go (any (is_spilled f) (values_among e.arguments))
    where
      ps : List ℕ
      ps = (block_at f e.target).parameters

      go : (s : Bool) → freed v (cond s (landing_steps f e.arguments ps) []) ≡ 0
      go true = concat_map-free-none (edge_use_steps f) edge-use-frees-none (zip_with (λ x _. x) e.arguments ps)
      go false = refl

  -- Definitions free no more than they define,
  definitions-free : (ws : List ℕ) → freed v (concat_map (definition_steps f) ws) ≤ count (eqb v) ws
  definitions-free [] = omega arith
  definitions-free (w ∷ ws) =
      omega (
        arith,
        count-append (is_free_of v) (definition_steps f w) (concat_map (definition_steps f) ws),
        count-more (eqb v) w ws,
        one (is_spilled f w),
        definitions-free ws,
      )
    where
      one : (s : Bool) → freed v (cond s (frees w ∷ []) []) ≤ bit (eqb v w)
      one true = omega (arith, count-more (is_free_of v) (frees w) [])
      one false = omega arith

  -- instructions no more than their results,
  instruction-frees : (i : Instruction) (l : Option (List ℕ)) → freed v (instruction_steps f (i, l)) ≤ count (eqb v) i.results
  instruction-frees i none =
      let uses = concat_map (use_steps f) i.arguments in
      let passes = concat_map (edge_steps f) i.edges in
      omega (
        arith,
        count-append (is_free_of v) (concat_map (definition_steps f) i.results) (uses ++ passes),
        count-append (is_free_of v) uses passes,
        definitions-free i.results,
        concat_map-free-none (use_steps f) use-frees-none i.arguments,
        concat_map-free-none (edge_steps f) (λ e. concat_map-free-none (edge_use_steps f) edge-use-frees-none e.arguments) i.edges,
      )
  instruction-frees i (some list) =
      let uses = concat_map (use_steps f) i.arguments in
      let lands = concat_map (safepoint_edge_steps f) i.edges in
      omega (
        arith,
        count-append (is_free_of v) (concat_map (definition_steps f) i.results) (map gives list ++ (lands ++ uses)),
        count-append (is_free_of v) (map gives list) (lands ++ uses),
        count-append (is_free_of v) lands uses,
        definitions-free i.results,
        gives-free-none list,
        concat_map-free-none (use_steps f) use-frees-none i.arguments,
        concat_map-free-none (safepoint_edge_steps f) landing-frees-none i.edges,
      )

  instructions-free :
      (is : List Instruction) (ls : List (Option (List ℕ)))
      → freed v (last_first (instruction_steps f) (zip_with (λ i l. (i, l)) is ls)) ≤ count (eqb v) (results_of is)
  instructions-free [] ls = omega arith
  instructions-free (i ∷ is) [] = omega arith
  instructions-free (i ∷ is) (l ∷ ls) =
      omega (
        arith,
        count-append (is_free_of v) (last_first (instruction_steps f) (zip_with (λ j k. (j, k)) is ls)) (instruction_steps f (i, l)),
        count-append (eqb v) i.results (results_of is),
        instruction-frees i l,
        instructions-free is ls,
      )

  -- blocks no more than they define, by parameters and results,
  block-frees : (b : ℕ) → freed v (block_steps f b) ≤ count (eqb v) (defined_in f b)
  block-frees b =
      let out = (process f).outs b in
      let is = instructions_of (block_at f b) in
      let inside = last_first (instruction_steps f) (listed_instructions f b) in
      let own = concat_map (definition_steps f) (block_at f b).parameters in
      omega (
        arith,
        count-append (is_free_of v) (out_steps f out) (inside ++ own),
        count-append (is_free_of v) inside own,
        count-append (eqb v) (block_at f b).parameters (results_of is),
        gives-free-none (keep (is_spilled f) (members (length f.values) out)),
        instructions-free is (lists_of f b),
        definitions-free (block_at f b).parameters,
      )

  pub blocks-free : (bs : List ℕ) → freed v (concat_map (block_steps f) bs) ≤ count (eqb v) (concat_map (defined_in f) bs)
  blocks-free [] = omega arith
  blocks-free (b ∷ bs) =
      omega (
        arith,
        count-append (is_free_of v) (block_steps f b) (concat_map (block_steps f) bs),
        count-append (eqb v) (defined_in f b) (concat_map (defined_in f) bs),
        block-frees b,
        blocks-free bs,
      )

  -- and so the steps up to a point.
  pub point-frees :
      (planned : List ℕ) (b : ℕ) (later : List Instruction)
      → freed v (point_steps f planned b later)
      ≤ count (eqb v) (concat_map (defined_in f) planned) + count (eqb v) (results_of later)
  point-frees planned b later =
      let out = (process f).outs b in
      omega (
        arith,
        count-append (is_free_of v) (concat_map (block_steps f) planned) (out_steps f out ++ behind_steps f later out),
        count-append (is_free_of v) (out_steps f out) (behind_steps f later out),
        blocks-free planned,
        gives-free-none (keep (is_spilled f) (members (length f.values) out)),
        instructions-free later (lists_among f later out),
      )
