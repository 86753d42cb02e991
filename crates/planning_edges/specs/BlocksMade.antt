-- Only landings are made: every other step of planning leaves the number of blocks as it is.
use Rattle.std.specs.Prelude.{ℕ, ◌≡◌, refl, Bool, true, false, cond, List, [], ◌∷◌}
use Rattle.std.proofs.Common.{◌∙◌}
use Rattle.std.proofs.Math.Option.{Option, none, some}
use Rattle.rules.specs.Tree.{Function}
use Rattle.rules.specs.Liveness.{is_spilled}
use Rattle.rules.specs.Plan.{Plan, Planning, pure, for_each, plan_store, plan_definition, plan_load, plan_use, plan_edge_use, plan_landed}
use Rattle.rules.specs.declared.EdgeArgument.{EdgeArgument}
use Rattle.rules.specs.declared.EdgeArgument.TheVariants as passes

-- steps that make no block
abbrev pub NoBlocks : {A B : Type 0} → (A → Planning B) → Type 0
NoBlocks {A} k = (x : A) (p : Plan) → (k x p).1.blocks ≡ p.blocks

pub each-blocks : {A B : Type 0} (k : A → Planning B) → NoBlocks k → (xs : List A) (p : Plan) → (for_each k xs p).1.blocks ≡ p.blocks
each-blocks k few [] p = refl
each-blocks k few (x ∷ xs) p = each-blocks k few xs (k x p).1 ∙ few x p

module _ (f : Function) (pointer : ℕ) where
  pub use-blocks : NoBlocks (plan_use f pointer)
  use-blocks v p = go (is_spilled f v)
    where
      go : (b : Bool) → (cond b (plan_load f pointer v) (pure none) p).1.blocks ≡ p.blocks
      go true = refl
      go false = refl

  pub edge-use-blocks : NoBlocks (plan_edge_use f pointer)
  edge-use-blocks (passes.Value v) p = use-blocks v p
  edge-use-blocks (passes.Returned _) p = refl
  edge-use-blocks (passes.Exception _) p = refl

  pub definition-blocks : NoBlocks (plan_definition f pointer)
  definition-blocks v p = go (is_spilled f v) (p.slots.slot_of v)
    where
      go : (b : Bool) (o : Option ℕ) → ◌≡◌ {A = ℕ} (cond b (plan_store f pointer v o p) (none, p)).1.blocks p.blocks
      go true none = refl
      go true (some slot) = refl
      go false o = refl

  pub landed-blocks : (x : EdgeArgument) (size : ℕ) (p : Plan) → (plan_landed f pointer x size p).1.blocks ≡ p.blocks
  landed-blocks (passes.Value v) size p = use-blocks v p
  landed-blocks (passes.Returned _) size p = refl
  landed-blocks (passes.Exception _) size p = refl
