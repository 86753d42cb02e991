-- The numbers of a plan, one beside each record of the file, as code keeps them between planning and writing: beside an
-- operand or a definition the first of the values made for it, beside an edge its landing. A tag is 0 for none, and one
-- more than the number.
use Rattle.std.specs.Prelude.{ℕ, zero, suc, ◌≡◌, refl, List, [], ◌∷◌, map, get_or, eqb}
use Rattle.std.proofs.Math.Option.{none, some}
use Rattle.rules.specs.Plan.{Made, EdgePlan, InstructionPlan, BlockPlan}
use Rattle.graph.specs.Between.{between}
use Rattle.graph.specs.Sections.{first_or, places}
use Rattle.graph.specs.Blocks.{place_of}

-- the number that a tag is
abbrev pub made : ℕ → Made
made zero = none
made (suc n) = some n

-- the tag of a number
abbrev pub tag : Made → ℕ
tag none = 0
tag (some n) = suc n

pub made-tag : (m : Made) → made (tag m) ≡ m
made-tag none = refl
made-tag (some n) = refl

module _ (s numbers : List ℕ) where
  -- the number beside the record at a place
  abbrev pub made_at : ℕ → Made
  made_at place = made (get_or numbers place 0)

  -- the places of the records of kind k from place p on and before place q
  abbrev pub places_between : ℕ → ℕ → ℕ → List ℕ
  places_between k p q = places (eqb k) p (between s p q)

  -- the numbers beside them
  abbrev pub mades_between : ℕ → ℕ → ℕ → List Made
  mades_between k p q = map made_at (places_between k p q)

  -- the plan of the edge at place p, whose records end before place q
  abbrev pub edge_plan_at : ℕ → ℕ → EdgePlan
  edge_plan_at p q = record { landing = made_at p; arguments = mades_between 8 (suc p) q }

  -- those of edges that stand at these places, the last of them ending before place q
  abbrev pub edge_plans_at : ℕ → List ℕ → List EdgePlan
  edge_plans_at q [] = []
  edge_plans_at q (p ∷ ps) = edge_plan_at p (first_or q ps) ∷ edge_plans_at q ps

  -- the plan of the instruction at place p, whose records end before place q
  abbrev pub instruction_plan_at : ℕ → ℕ → InstructionPlan
  instruction_plan_at p q =
      record {
        arguments = mades_between 6 (suc p) q;
        results = mades_between 5 (suc p) q;
        edges = edge_plans_at q (places_between 7 (suc p) q);
      }

  -- those of instructions that stand at these places
  abbrev pub instruction_plans_at : ℕ → List ℕ → List InstructionPlan
  instruction_plans_at q [] = []
  instruction_plans_at q (p ∷ ps) = instruction_plan_at p (first_or q ps) ∷ instruction_plans_at q ps

  -- the plan of block b
  abbrev pub block_plan_at : ℕ → BlockPlan
  block_plan_at b =
      let p = suc (place_of s b) in
      let q = place_of s (suc b) in
      record { parameters = mades_between 3 p q; instructions = instruction_plans_at q (places_between 4 p q) }
