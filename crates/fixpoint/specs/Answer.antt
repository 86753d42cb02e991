-- THE ANSWER: what the process leaves when it has taken as many steps as document 01 bounds its visits by. It is at its
-- end, within both bounds; its sets are the least solution; and the equations hold of them as they stand.
use Rattle.std.specs.Prelude.{ℕ, ◌+◌, ◌-◌, ◌≤◌, ◌≡◌, ◌↔◌, not, length, T}
use native.Mathlib.Omega.{arith}
use Rattle.std.proofs.Math.Path.{sym, ap}
use Rattle.std.proofs.Common.{subst, ◌∙◌}
use Rattle.rules.specs.Lists.{has, nothing}
use Rattle.rules.specs.Tree.{Function}
use Rattle.rules.specs.Graph.{reachable}
use Rattle.rules.specs.Liveness.{through, LiveOut, LiveIn, successor, rule, State, start, joined, after, bound}
use Rattle.rules.specs.Liveness.{process}
use Rattle.lists.specs.Tests.{T-ext}
use Rattle.lists.specs.Sets.{Within}
use Rattle.lists.specs.Members.{◌∈◌}
use Rattle.walks.specs.Reachable.{reachable-closed}
use Rattle.fixpoint.specs.Finding.{any-intro}
use Rattle.fixpoint.specs.Rule.{through-mono}
use Rattle.fixpoint.specs.Steps.{Idle, first, start_first, after-add, after-idle}
use Rattle.fixpoint.specs.Sound.{Sound, start-sound, after-sound}
use Rattle.fixpoint.specs.Resumable.{Resumable, start-resumable, after-resumable, after-rows}
use Rattle.fixpoint.specs.Closed.{Closed, start-settled, after-settled, idle-closed}
use Rattle.fixpoint.specs.Ends.{potential, work, after-pushes, after-visits, after-nothing-pending}
use Rattle.fixpoint.specs.Bound.{potential-le, work-le-bound, bound-ends}
use Rattle.fixpoint.specs.Least.{in-complete, out-complete}

module _ (f : Function) where
  -- at the start: pushes and potential are within the bound, and there were no visits
  start-pushes : (start f).pushes + potential f (start f) ≤ bound f
  start-pushes =
      subst (λ (s : State). s.pushes + potential f s ≤ bound f) (sym (start_first f))
      (omega (arith, potential-le f (first f)))

  start-visits : length (start f).visited ≡ 0
  start-visits = ap (λ (s : State). length s.visited) (start_first f)

  -- The process is at its end: no entry of its stack counts,
  pub process-ended : Idle (process f)
  unfolding process
  process-ended = bound-ends f (start f) (start-resumable f) (bound f) (omega arith)

  -- nothing is pending,
  pub process-nothing-pending : (b : ℕ) → T (not ((process f).pending b))
  unfolding process
  process-nothing-pending = after-nothing-pending f (start f) (start-resumable f) (bound f) (work-le-bound f (start f))

  -- and more steps change nothing.
  pub process-after : (k : ℕ) → bound f ≤ k → after f k (start f) ≡ process f
  unfolding process
  process-after k l =
      let more : k ≡ (k - bound f) + bound f = omega arith in
      ap (λ n. after f n (start f)) more
      ∙ after-add f (k - bound f) (bound f) (start f)
      ∙ after-idle f (k - bound f) (after f (bound f) (start f)) process-ended

  -- So wherever no entry counts, the process is at its end.
  pub process-final : (k : ℕ) → Idle (after f k (start f)) → after f k (start f) ≡ process f
  unfolding process
  process-final k e =
      let either : bound f + k ≡ k + bound f = omega arith in
      sym (after-idle f (bound f) (after f k (start f)) e)
      ∙ sym (after-add f (bound f) k (start f))
      ∙ ap (λ n. after f n (start f)) either
      ∙ process-after (k + bound f) (omega arith)

  -- BOTH BOUNDS. Visits are at most reachable blocks + marked values × edges out of reachable blocks, at any time, with
  -- room for one more while an entry counts;
  pub visits-work-le : (k : ℕ) → length (after f k (start f)).visited + work f (after f k (start f)) ≤ bound f
  visits-work-le k =
      omega (arith, after-visits f (start f) (start-resumable f) k, work-le-bound f (start f), start-visits)

  -- so in the end;
  pub process-visits-le : length (process f).visited ≤ bound f
  unfolding process
  process-visits-le = omega (arith, visits-work-le (bound f))

  -- and so are pushes, at any time,
  pub pushes-potential-le : (k : ℕ) → (after f k (start f)).pushes + potential f (after f k (start f)) ≤ bound f
  pushes-potential-le k = omega (arith, after-pushes f (start f) (start-resumable f) k, start-pushes)

  -- at the end too.
  pub process-pushes-le : (process f).pushes ≤ bound f
  unfolding process
  process-pushes-le = omega (arith, pushes-potential-le (bound f))

  -- The sets of the answer lie inside the marked values,
  pub process-resumable : Resumable f (process f)
  unfolding process
  process-resumable = after-resumable f (bound f) (start f) (start-resumable f)

  -- what is in them is live,
  pub process-sound : Sound f (process f)
  unfolding process
  process-sound = after-sound f (bound f) (start f) (start-sound f)

  -- and at every reachable block they obey the equations.
  pub process-closed : (b : ℕ) → b ∈ reachable f → Closed f (process f) b
  unfolding process
  process-closed =
      idle-closed f (process f) (after-settled f (bound f) (start f) (start-resumable f) (start-settled f))
      process-nothing-pending

  -- THE LEAST SOLUTION. In a reachable block's rows stands what is live into it,
  pub process-ins-live : {b : ℕ} → b ∈ reachable f → (v : ℕ) → T ((process f).ins b v) ↔ LiveIn f b v
  process-ins-live {b} m v =
      (process-sound.ins-live b v, λ live. in-complete f (process f) process-closed live m)

  -- and what is live out of it, nothing else.
  pub process-outs-live : {b : ℕ} → b ∈ reachable f → (v : ℕ) → T ((process f).outs b v) ↔ LiveOut f b v
  process-outs-live {b} m v =
      (process-sound.outs-live b v, λ live. out-complete f (process f) process-closed live m)

  -- No tables that are closed at every reachable block have less.
  pub process-least :
      (s : State) → ((b : ℕ) → b ∈ reachable f → Closed f s b) → {b : ℕ} → b ∈ reachable f
      → Within ((process f).ins b) (s.ins b) × Within ((process f).outs b) (s.outs b)
  process-least s closed {b} m = (
    λ v t. in-complete f s closed (process-sound.ins-live b v t) m,
    λ v t. out-complete f s closed (process-sound.outs-live b v t) m,
  )

  -- The rows of other blocks are empty, of live-in
  pub process-ins-unreachable : (b : ℕ) → T (not (has b (reachable f))) → (process f).ins b ≡ nothing
  unfolding process
  process-ins-unreachable b out =
      (after-rows f b out (bound f) (start f) (start-resumable f)).0 ∙ ap (λ (s : State). s.ins b) (start_first f)

  -- and of live-out.
  pub process-outs-unreachable : (b : ℕ) → T (not (has b (reachable f))) → (process f).outs b ≡ nothing
  unfolding process
  process-outs-unreachable b out =
      (after-rows f b out (bound f) (start f) (start-resumable f)).1 ∙ ap (λ (s : State). s.outs b) (start_first f)

  -- THE EQUATIONS. Live-out is the union of the successors' live-in,
  pub process-outs-joined : {b : ℕ} → b ∈ reachable f → (process f).outs b ≡ joined f (process f).ins b
  process-outs-joined {b} m i v =
      T-ext ((process f).outs b v) (joined f (process f).ins b v)
      (λ t. go v (process-sound.outs-live b v t))
      ((process-closed b m).outs-closed v)
      i
    where
      go : (w : ℕ) → LiveOut f b w → T (joined f (process f).ins b w)
      go w (successor edge live) =
          any-intro (λ t. (process f).ins t w) edge
          (in-complete f (process f) process-closed live (reachable-closed f m edge))

  -- and live-in, computed once more from the final live-out, is the same.
  pub process-through-outs : {b : ℕ} → b ∈ reachable f → through f b ((process f).outs b) ≡ (process f).ins b
  process-through-outs {b} m i v =
      T-ext (through f b ((process f).outs b) v) ((process f).ins b v) ((process-closed b m).ins-closed v)
      (λ t. go v (process-sound.ins-live b v t))
      i
    where
      go : (w : ℕ) → LiveIn f b w → T (through f b ((process f).outs b) w)
      go w (rule out live t) =
          through-mono f b out ((process f).outs b) (λ u k. out-complete f (process f) process-closed (live u k) m) w t
