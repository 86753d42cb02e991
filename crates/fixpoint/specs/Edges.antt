-- Predecessors: who they are, and how many there are in all.
use Rattle.std.specs.Prelude.{ℕ, ◌≤◌, ◌≡◌, List, map, length, eqb}
use Rattle.std.proofs.Common.{arith, subst, ◌∙◌}
use mathlib.Core.List.Memᴰ
use Rattle.std.proofs.lemmas.List.{length-map}
use Rattle.std.proofs.Math.Dec.{eqb_refl}
use Rattle.rules.specs.Lists.{keep, count, concat_map}
use Rattle.rules.specs.Tree.{Function}
use Rattle.rules.specs.Graph.{successors, reachable}
use Rattle.rules.specs.Liveness.{predecessors}
use Rattle.lists.specs.Members.{◌∈◌, ∈-concat_map, ∈-concat_map-from}
use Rattle.walks.specs.Reachable.{reachable-nodup}
use Rattle.fixpoint.specs.Sums.{sum, sum_mono, sum-cong, sum-swap, length-concat_map, length-keep, sum-count-le}
use Rattle.fixpoint.specs.Finding.{∈-keep}

module _ (f : Function) where
  -- p once for each edge from p to b
  abbrev edges : ℕ → ℕ → List ℕ
  edges b p = map (λ _. p) (keep (eqb b) (successors f p))

  -- a reachable block is a predecessor of its successors,
  pub ∈-predecessors : {p b : ℕ} → p ∈ reachable f → b ∈ successors f p → p ∈ predecessors f b
  ∈-predecessors {p} {b} m s = ∈-concat_map (edges b) m (Memᴰ.map (λ _. p) (∈-keep (eqb b) s (eqb_refl b)))

  -- and every predecessor is reachable.
  pub predecessor-reachable : (b : ℕ) {p : ℕ} → p ∈ predecessors f b → p ∈ reachable f
  predecessor-reachable b m =
      let from = ∈-concat_map-from (edges b) (reachable f) m in
      let same = Memᴰ.of_map (λ _. from.0) (keep (eqb b) (successors f from.0)) from.2 in
      subst (λ q. q ∈ reachable f) same.2 from.1

  -- edges into b are counted at their sources
  length-predecessors : (b : ℕ) → length (predecessors f b) ≡ sum (λ p. count (eqb b) (successors f p)) (reachable f)
  length-predecessors b =
      length-concat_map (edges b) (reachable f)
      ∙ sum-cong (λ p. length (edges b p)) (λ p. count (eqb b) (successors f p))
      (λ p. length-map (keep (eqb b) (successors f p)) (λ _. p) ∙ length-keep (eqb b) (successors f p))
      (reachable f)

  -- Edges into reachable blocks are no more than edges out of them.
  pub edges-in-le-out :
      sum (λ b. length (predecessors f b)) (reachable f) ≤ length (concat_map (successors f) (reachable f))
  edges-in-le-out =
      let swapped :
      sum (λ b. length (predecessors f b)) (reachable f)
      ≡ sum (λ p. sum (λ b. count (eqb b) (successors f p)) (reachable f)) (reachable f) =
      sum-cong (λ b. length (predecessors f b)) (λ b. sum (λ p. count (eqb b) (successors f p)) (reachable f))
      length-predecessors (reachable f)
      ∙ sum-swap (λ b p. count (eqb b) (successors f p)) (reachable f) (reachable f) in
      let fewer :
      sum (λ p. sum (λ b. count (eqb b) (successors f p)) (reachable f)) (reachable f)
      ≤ sum (λ p. length (successors f p)) (reachable f) =
      sum_mono _ _ (reachable f) (λ p _. sum-count-le (reachable f) (reachable-nodup f) (successors f p)) in
      omega (arith, length-concat_map (successors f) (reachable f))
