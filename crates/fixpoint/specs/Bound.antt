-- THE BOUND IS ENOUGH. What is still to be visited, and to be pushed, in any state at all, is at most what document 01
-- bounds visits and pushes by. So the process ends within it from every state from which it may be resumed.
use Rattle.std.specs.Prelude.{ℕ, ◌*◌, ◌≤◌, false, not, ◌&&◌, length}
use Rattle.std.proofs.Common.{arith, mul_comm, mul-le-mul_left, mul-le-mul_right}
use Rattle.rules.specs.Lists.{count, concat_map, up_from, NumberSet}
use Rattle.rules.specs.Tree.{Value, Function}
use Rattle.rules.specs.Graph.{is_marked, successors, reachable}
use Rattle.rules.specs.Liveness.{State, predecessors, after, bound}
use Rattle.lists.specs.Tests.{and_left}
use Rattle.fixpoint.specs.Sums.{sum_mono, sum-mul, count-mono, count-le-length, count-places}
use Rattle.fixpoint.specs.Edges.{edges-in-le-out}
use Rattle.fixpoint.specs.Steps.{Idle}
use Rattle.fixpoint.specs.Resumable.{Resumable}
use Rattle.fixpoint.specs.Ends.{lacking, potential, work, after-ends}

module _ (f : Function) where
  -- the marked values, and the edges out of reachable blocks
  abbrev marks : ℕ
  marks = count (λ x. x.marked) f.values

  abbrev edges : ℕ
  edges = length (concat_map (successors f) (reachable f))

  -- no set lacks more than the marked values,
  lacking-le : (live : NumberSet) → lacking f live ≤ marks
  lacking-le live =
      let places = up_from 0 (length f.values) in
      omega (
        arith,
        count-mono (λ v. is_marked f v && not (live v)) (is_marked f) places
            (λ v _. and_left (is_marked f v) (not (live v))),
        count-places (λ (x : Value). x.marked) (record { size = 0; marked = false }) f.values,
      )

  -- so the potential is at most marked values × edges,
  pub potential-le : (s : State) → potential f s ≤ marks * edges
  potential-le s =
      let into : ℕ → ℕ = λ b. length (predecessors f b) in
      omega (
        arith,
        sum_mono (λ b. into b * lacking f (s.ins b)) (λ b. into b * marks) (reachable f)
            (λ b _. mul-le-mul_left (into b) (lacking-le (s.ins b))),
        sum-mul into marks (reachable f),
        mul-le-mul_right marks (edges-in-le-out f),
        mul_comm marks edges,
      )

  -- and the work at most that and the reachable blocks.
  pub work-le-bound : (s : State) → work f s ≤ bound f
  work-le-bound s = omega (arith, count-le-length s.pending (reachable f), potential-le s)

  -- The process ends within the bound, wherever it is resumed.
  pub bound-ends : (s : State) → Resumable f s → (k : ℕ) → bound f ≤ k → Idle (after f k s)
  bound-ends s h k l = after-ends f s h k (omega (arith, work-le-bound s))
