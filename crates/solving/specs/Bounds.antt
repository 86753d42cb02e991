-- THE BOUNDS. What `solve` answers keeps document 01's bound, and for a file within the largest counts the bound is a
-- number that 32 bits have room for.
use Rattle.std.specs.Prelude.{ℕ, ◌+◌, ◌*◌, ◌<◌, ◌≤◌, ◌≡◌, length, T}
use Rattle.std.proofs.Common.{arith, mul-le-mul_left, mul-le-mul_right}
use Rattle.rules.specs.Limits.{largest_values, largest_blocks, largest_edges}
use Rattle.rules.specs.Lists.{count}
use Rattle.rules.specs.Tree.{Value, Function}
use Rattle.rules.specs.Graph.{reachable}
use Rattle.rules.specs.Liveness.{predecessors, bound, process}
use Rattle.rules.specs.Refusals.{numbers_in_file}
use Rattle.lists.specs.Members.{◌∈◌}
use Rattle.walks.specs.InFile.{length-reachable-le}
use Rattle.fixpoint.specs.Sums.{sum-zero, sum_drop, count-le-length}
use Rattle.fixpoint.specs.Edges.{edges-in-le-out}
use Rattle.fixpoint.specs.Answer.{process-visits-le, process-pushes-le}
use Rattle.graph.specs.Links.{reachable_edges}
use Rattle.graph.specs.Room.{reachable_edges-le}
use Rattle.solving.specs.Tables.{Few}

-- The visits answered are at most reachable blocks + marked values × edges out of reachable blocks,
pub answered-visits-le : (f : Function) (visits : ℕ) → visits ≡ length (process f).visited → visits ≤ bound f
answered-visits-le f visits e = omega (arith, process-visits-le f)

-- and so are the pushes answered.
pub answered-pushes-le : (f : Function) (pushes : ℕ) → pushes ≡ (process f).pushes → pushes ≤ bound f
answered-pushes-le f pushes e = omega (arith, process-pushes-le f)

module _ (f : Function) (in_file : T (numbers_in_file f)) (some : 0 < length f.blocks) (few : Few f) where
  -- edges out of reachable blocks are at most the largest count
  edges_le : length (reachable_edges f) ≤ largest_edges
  edges_le = omega (arith, reachable_edges-le f in_file some, few.edges)

  -- So the bound is at most that of the largest counts,
  pub bound-le : bound f ≤ largest_blocks + largest_values * largest_edges
  bound-le =
      let marks = count (λ (x : Value). x.marked) f.values in
      let fewer : marks ≤ largest_values = omega (arith, count-le-length (λ (x : Value). x.marked) f.values, few.values) in
      omega (
        arith,
        length-reachable-le f in_file some,
        few.blocks,
        mul-le-mul_left marks edges_le,
        mul-le-mul_right largest_edges fewer,
      )

  -- and no reachable block has more predecessors than there can be edges.
  pub predecessors-le : {b : ℕ} → b ∈ reachable f → length (predecessors f b) ≤ largest_edges
  predecessors-le {b} m =
      let into : ℕ → ℕ = λ x. length (predecessors f x) in
      omega (
        arith,
        sum_drop (λ _. 0) into (into b) (λ _. omega arith) m (omega arith),
        sum-zero (reachable f),
        edges-in-le-out f,
        edges_le,
      )
