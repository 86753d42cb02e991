-- States from which the process may be resumed: their sets lie inside the marked values, and what is pending is
-- reachable and on the stack. Nothing is asked of entries that no longer count, of the visits and pushes so far, or of
-- where the sets came from. The start is such a state, and a step leads to another.
use Rattle.std.specs.Prelude.{ℕ, zero, suc, ◌≡◌, refl, Bool, false, not, List, [], ◌∷◌, T, eqb}
use Rattle.std.proofs.Common.{sym, subst, ◌∙◌, T_not, eqb→eq}
use Rattle.std.proofs.Math.Dec.{not_T}
use Rattle.rules.specs.Lists.{has, update, NumberSet}
use Rattle.rules.specs.Tree.{Function}
use Rattle.rules.specs.Graph.{is_marked, reachable}
use Rattle.rules.specs.Liveness.{through, State, start, predecessors, joined, popped, step, after}
use Rattle.lists.specs.Tests.{if-elim, or_elim, neqb→ne}
use Rattle.lists.specs.Sets.{Within}
use Rattle.lists.specs.Members.{◌∈◌, not-∈-nil, ∈-elim, has→∈, ∈→has, ∈-reverse_aux-left, ∈-reverse_aux-right}
use Rattle.fixpoint.specs.Finding.{update-elim, update-there}
use Rattle.fixpoint.specs.Rule.{through-marked, joined-within}
use Rattle.fixpoint.specs.Steps.{Idle, start_first, new_out, new_in, grows, pushed, after_visit, popped-counts}
use Rattle.fixpoint.specs.Steps.{popped-keeps, step-elim, after-keeps}
use Rattle.fixpoint.specs.Edges.{predecessor-reachable}

-- what may be resumed
pub record Resumable (f : Function) (s : State) : Type 0 where
  pub ins-marked : (b : ℕ) → Within (s.ins b) (is_marked f)
  pub outs-marked : (b : ℕ) → Within (s.outs b) (is_marked f)
  pub pending-reachable : (b : ℕ) → T (s.pending b) → b ∈ reachable f
  pub pending-stacked : (b : ℕ) → T (s.pending b) → b ∈ s.stack

-- a block that is still pending when b is not, is another and was pending
pub still-pending : (pending : NumberSet) (b x : ℕ) → T (update b false pending x) → T (not (eqb x b)) × T (pending x)
still-pending pending b x =
    update-elim (λ (r : Bool). T r → T (not (eqb x b)) × T (pending x)) b false pending x (λ _ t. absurd t)
    (λ other t. (other, t))

module _ (f : Function) where
  -- what is pushed are predecessors
  pub pushed-predecessor : (s : State) (b : ℕ) {x : ℕ} → x ∈ pushed f s b → x ∈ predecessors f b
  pushed-predecessor s b {x} =
      if-elim (λ (r : List ℕ). x ∈ r → x ∈ predecessors f b) (grows f s b) (predecessors f b) [] (λ _ m. m)
      (λ _ m. absurd (not-∈-nil m))

  module _ (s : State) (h : Resumable f s) where
    -- live-out as a visit leaves it is marked
    pub new_out-marked : (b : ℕ) → Within (new_out f s b) (is_marked f)
    new_out-marked b v =
        or_elim (s.outs b v) (joined f s.ins b v) (h.outs-marked b v)
        (joined-within f s.ins (is_marked f) h.ins-marked b v)

    -- so is what the rule gives from it
    pub through-new_out-marked : (b : ℕ) → Within (through f b (new_out f s b)) (is_marked f)
    through-new_out-marked b = through-marked f b (new_out f s b) (new_out-marked b)

    -- and live-in as a visit leaves it
    new_in-marked : (b : ℕ) → Within (new_in f s b) (is_marked f)
    new_in-marked b v =
        or_elim (s.ins b v) (through f b (new_out f s b) v) (h.ins-marked b v) (through-new_out-marked b v)

    -- what a visit leaves may be resumed
    visit-resumable :
        (b : ℕ) (rest : List ℕ) → popped s.pending s.stack ≡ b ∷ rest → Resumable f (after_visit f s b rest)
    visit-resumable b rest e =
        record {
          ins-marked = λ x v.
              update-elim (λ (r : NumberSet). T (r v) → T (is_marked f v)) b (new_in f s b) s.ins x (λ _. new_in-marked b v)
              (λ _. h.ins-marked x v);
          outs-marked = λ x v.
              update-elim (λ (r : NumberSet). T (r v) → T (is_marked f v)) b (new_out f s b) s.outs x
              (λ _. new_out-marked b v)
              (λ _. h.outs-marked x v);
          pending-reachable = λ x.
              or_elim (has x (pushed f s b)) (update b false s.pending x)
              (λ t. predecessor-reachable f b (pushed-predecessor s b (has→∈ (pushed f s b) t)))
              (λ t. h.pending-reachable x (still-pending s.pending b x t).1);
          pending-stacked = λ x.
              or_elim (has x (pushed f s b)) (update b false s.pending x)
              (λ t. ∈-reverse_aux-left rest (has→∈ (pushed f s b) t))
              (λ t.
              let still = still-pending s.pending b x t in
              ∈-reverse_aux-right (pushed f s b) (below x still.0 still.1));
        }
      where
        -- another block that is pending stands below the top
        below : (x : ℕ) → T (not (eqb x b)) → T (s.pending x) → x ∈ rest
        below x other t =
            ∈-elim (λ q. absurd (neqb→ne x b other q)) (λ m. m)
            (subst (◌∈◌ x) e (popped-keeps s.pending t (h.pending-stacked x t)))

    -- Where no entry counts, nothing is pending.
    pub idle-nothing : Idle s → (b : ℕ) → T (not (s.pending b))
    idle-nothing e b =
        not_T (s.pending b)
        (λ t. not-∈-nil (subst (◌∈◌ b) e (popped-keeps s.pending t (h.pending-stacked b t))))

  -- A step leads from one to another,
  pub step-resumable : (s : State) → Resumable f s → Resumable f (step f s)
  step-resumable s h = step-elim f (Resumable f) s (λ _. h) (visit-resumable s h)

  -- and so does any number of steps.
  pub after-resumable : (k : ℕ) (s : State) → Resumable f s → Resumable f (after f k s)
  after-resumable = after-keeps f (Resumable f) step-resumable

  -- The rows of a block that is not reachable stay as they are:
  module _ (b : ℕ) (out : T (not (has b (reachable f)))) where
    -- one step
    step-rows : (s : State) → Resumable f s → ((step f s).ins b ≡ s.ins b) × ((step f s).outs b ≡ s.outs b)
    step-rows s h =
        step-elim f (λ t. (t.ins b ≡ s.ins b) × (t.outs b ≡ s.outs b)) s (λ _. (refl, refl))
        (λ x rest e.
        let m : x ∈ reachable f = h.pending-reachable x (popped-counts s.pending s.stack e) in
        let other : T (not (eqb b x)) =
        not_T (eqb b x)
        (λ same. T_not (has b (reachable f)) out (∈→has (subst (λ y. y ∈ reachable f) (sym (eqb→eq b x same)) m))) in
        (update-there x (new_in f s x) s.ins b other, update-there x (new_out f s x) s.outs b other))

    -- any number of steps
    pub after-rows :
        (k : ℕ) (s : State) → Resumable f s → ((after f k s).ins b ≡ s.ins b) × ((after f k s).outs b ≡ s.outs b)
    after-rows zero s h = (refl, refl)
    after-rows (suc k) s h =
        let before = after-rows k s h in
        let now = step-rows (after f k s) (after-resumable k s h) in
        (now.0 ∙ before.0, now.1 ∙ before.1)

  -- The process starts with one.
  pub start-resumable : Resumable f (start f)
  start-resumable =
      subst (Resumable f) (sym (start_first f)) (
      record {
        ins-marked = λ b v t. absurd t;
        outs-marked = λ b v t. absurd t;
        pending-reachable = λ b t. has→∈ (reachable f) t;
        pending-stacked = λ b t. has→∈ (reachable f) t;
      }
      )
