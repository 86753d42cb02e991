-- What a loop over the move-to-top stack needs to know, from the start and after any number of turns: how many visits
-- and pushes there were at most, what blocks stand on the stack, and that the answer is there when the stack is empty.
use Rattle.std.specs.Prelude.{ℕ, ◌+◌, ◌≤◌, ◌<◌, ◌≡◌, refl, length}
use Rattle.std.proofs.Common.{arith, sym, ap, subst, ◌∙◌}
use mathlib.Core.List.{List, [], ◌∷◌, nil≢cons}
use Rattle.rules.specs.Tree.{Function}
use Rattle.rules.specs.Graph.{reachable}
use Rattle.rules.specs.Liveness.{State, start, after, popped, bound, process}
use Rattle.lists.specs.Members.{◌∈◌}
use Rattle.fixpoint.specs.Counting.{counting-pending, counting-none}
use Rattle.fixpoint.specs.Resumable.{start-resumable, after-resumable}
use Rattle.fixpoint.specs.Ends.{busy-work}
use Rattle.fixpoint.specs.Answer.{process-ended, visits-work-le, pushes-potential-le}
use Rattle.fixpoint.specs.MoveToTop.{Compact, compact, start_top, after_top, compact-after, compact-start}
use Rattle.fixpoint.specs.MoveToTop.{process-compact, after_top-idle, after_top-add}

module _ (f : Function) where
  -- the state after k turns
  abbrev turns : ℕ → Compact
  turns k = after_top f k (start_top f)

  -- it is document 01's, without the entries that no longer count
  turns-after : (k : ℕ) → compact (after f k (start f)) ≡ turns k
  turns-after k = compact-after f k (start f) ∙ ap (after_top f k) (compact-start f)

  -- Visits are at most the bound,
  pub top-visits-le : (k : ℕ) → length (turns k).visited ≤ bound f
  top-visits-le k =
      subst (λ (c : Compact). length c.visited ≤ bound f) (turns-after k) (omega (arith, visits-work-le f k))

  -- and so are pushes.
  pub top-pushes-le : (k : ℕ) → (turns k).pushes ≤ bound f
  top-pushes-le k =
      subst (λ (c : Compact). c.pushes ≤ bound f) (turns-after k) (omega (arith, pushes-potential-le f k))

  -- While the stack has an entry, visits are fewer than the bound.
  pub top-visits-lt :
      (k : ℕ) {b : ℕ} {rest : List ℕ} → (turns k).entries ≡ b ∷ rest → length (turns k).visited < bound f
  top-visits-lt k {b} {rest} e =
      subst (λ (c : Compact). length c.visited < bound f) (turns-after k)
      (go (popped s.pending s.stack) refl)
    where
      s : State
      s = after f k (start f)

      some : (compact s).entries ≡ b ∷ rest
      some = ap (λ (c : Compact). c.entries) (turns-after k) ∙ e

      go : (l : List ℕ) → popped s.pending s.stack ≡ l → length s.visited < bound f
      go [] none = absurd (nil≢cons (sym (counting-none s.pending s.stack none) ∙ some))
      go (x ∷ below) top =
          omega (
            arith,
            visits-work-le f k,
            busy-work f s (after-resumable f k (start f) (start-resumable f)) x below top,
          )

  -- All that stand on the stack are reachable.
  pub top-reachable : (k : ℕ) {b : ℕ} → b ∈ (turns k).entries → b ∈ reachable f
  top-reachable k {b} m =
      let s = after f k (start f) in
      let m' : b ∈ (compact s).entries = subst (λ (c : Compact). b ∈ c.entries) (sym (turns-after k)) m in
      (after-resumable f k (start f) (start-resumable f)).pending-reachable b
      (counting-pending s.pending s.stack m')

  -- When the stack is empty, the answer is there: the sets, visits and pushes of document 01's process.
  pub top-final : (k : ℕ) → (turns k).entries ≡ [] → turns k ≡ compact (process f)
  top-final k e =
      let either : bound f + k ≡ k + bound f = omega arith in
      let ended : (turns (bound f)).entries ≡ [] =
      ap (λ (c : Compact). c.entries) (sym (process-compact f))
      ∙ counting-none (process f).pending (process f).stack (process-ended f) in
      sym (after_top-idle f (bound f) (turns k) e)
      ∙ sym (after_top-add f (bound f) k (start_top f))
      ∙ ap turns either
      ∙ after_top-add f k (bound f) (start_top f)
      ∙ after_top-idle f k (turns (bound f)) ended
      ∙ sym (process-compact f)
