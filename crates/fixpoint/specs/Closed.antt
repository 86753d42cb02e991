-- CLOSURE. Every reachable block is pending, or its sets obey its equations. A visit that lets live-in grow pushes all
-- whose equations it may break; so at the end, when nothing is pending, all of them hold.
use Rattle.std.specs.Prelude.{ℕ, zero, suc, ◌≡◌, ◌⊎◌, false, not, List, [], length, T, eqb}
use Rattle.std.proofs.Common.{sym, subst, inl, inr, ⊎_elim, T_not, eqb→eq}
use Rattle.rules.specs.Lists.{has, update, NumberSet}
use Rattle.rules.specs.Tree.{Function}
use Rattle.rules.specs.Graph.{successors, reachable}
use Rattle.rules.specs.Liveness.{through, State, start, predecessors, joined, step, after}
use Rattle.lists.specs.Tests.{test-elim, if-elim, or_elim, or_left, or_right}
use Rattle.lists.specs.Sets.{Within}
use Rattle.lists.specs.Members.{◌∈◌, ∈→has}
use Rattle.fixpoint.specs.Finding.{any-mono, update-elim, update_here, update-there}
use Rattle.fixpoint.specs.Growth.{not-grew}
use Rattle.fixpoint.specs.Rule.{through-in-file}
use Rattle.fixpoint.specs.Steps.{start_first, new_out, new_in, grows, pushed, after_visit, step-elim}
use Rattle.fixpoint.specs.Edges.{∈-predecessors}
use Rattle.fixpoint.specs.Resumable.{Resumable, new_out-marked, after-resumable}

-- live-out of b has what is live into a successor, and live-in what the rule gives from it
pub record Closed (f : Function) (s : State) (b : ℕ) : Type 0 where
  pub outs-closed : Within (joined f s.ins b) (s.outs b)
  pub ins-closed : Within (through f b (s.outs b)) (s.ins b)

-- every reachable block is pending or closed
abbrev pub Settled : Function → State → Type 0
Settled f s = (b : ℕ) → b ∈ reachable f → T (s.pending b) ⊎ Closed f s b

module _ (f : Function) (s : State) (h : Resumable f s) (b : ℕ) (rest : List ℕ) where
  -- what the visit leaves
  abbrev next : State
  next = after_visit f s b rest

  -- a block is pushed if it is a predecessor and live-in grew
  ∈-pushed : {x : ℕ} → x ∈ predecessors f b → T (grows f s b) → x ∈ pushed f s b
  ∈-pushed {x} m g =
      if-elim (λ (r : List ℕ). x ∈ r) (grows f s b) (predecessors f b) [] (λ _. m)
      (λ n. absurd (T_not (grows f s b) n g))

  -- where live-in did not grow, it is what it was
  new_in-old : T (not (grows f s b)) → Within (new_in f s b) (s.ins b)
  new_in-old n v =
      or_elim (s.ins b v) (through f b (new_out f s b) v) (λ t. t)
      (λ t.
      not-grew (length f.values) (s.ins b) (through f b (new_out f s b)) n v
      (through-in-file f b (new_out f s b) (new_out-marked f s h b) v t) t)

  -- nothing came into the live-in of a block's successors
  abbrev Quiet : ℕ → Type 0
  Quiet x = Within (joined f next.ins x) (joined f s.ins x)

  -- The key: a reachable block is pushed, or its successors are quiet.
  quiet : {x : ℕ} → x ∈ reachable f → T (not (has x (pushed f s b))) → Quiet x
  quiet {x} m not-pushed v =
      any-mono (λ t. next.ins t v) (λ t. s.ins t v) (successors f x)
      (λ t edge.
      update-elim (λ (r : NumberSet). T (r v) → T (s.ins t v)) b (new_in f s b) s.ins t
      (λ e live.
      let old : T (s.ins b v) = new_in-old (no-growth (subst (λ y. y ∈ successors f x) e edge)) v live in
      subst (λ y. T (s.ins y v)) (sym e) old)
      (λ _ live. live))
    where
      no-growth : b ∈ successors f x → T (not (grows f s b))
      no-growth edge =
          test-elim (grows f s b)
          (λ g. absurd (T_not (has x (pushed f s b)) not-pushed (∈→has (∈-pushed (∈-predecessors f m edge) g))))
          (λ n. n)

  -- the block visited is closed then
  closed-self : Quiet b → Closed f next b
  closed-self q =
      let out : next.outs b ≡ new_out f s b = update_here b (new_out f s b) s.outs in
      let live : next.ins b ≡ new_in f s b = update_here b (new_in f s b) s.ins in
      record {
        outs-closed = λ v t.
            subst (λ (r : NumberSet). T (r v)) (sym out) (or_right (s.outs b v) (joined f s.ins b v) (q v t));
        ins-closed = λ v t.
            subst (λ (r : NumberSet). T (r v)) (sym live)
            (or_right (s.ins b v) (through f b (new_out f s b) v) (subst (λ (r : NumberSet). T (through f b r v)) out t));
      }

  -- and another that was closed is still
  closed-other : {x : ℕ} → T (not (eqb x b)) → Quiet x → Closed f s x → Closed f next x
  closed-other {x} other q c =
      let out : next.outs x ≡ s.outs x = update-there b (new_out f s b) s.outs x other in
      let live : next.ins x ≡ s.ins x = update-there b (new_in f s b) s.ins x other in
      record {
        outs-closed = λ v t. subst (λ (r : NumberSet). T (r v)) (sym out) (c.outs-closed v (q v t));
        ins-closed = λ v t.
            subst (λ (r : NumberSet). T (r v)) (sym live) (c.ins-closed v (subst (λ (r : NumberSet). T (through f x r v)) out t));
      }

  -- So each reachable block is pending or closed then: it was pushed, or its successors were quiet.
  visit-settled : Settled f s → Settled f next
  visit-settled settled x m =
      test-elim (has x (pushed f s b))
      (λ t. inl (or_left (has x (pushed f s b)) (update b false s.pending x) t))
      (λ not-pushed.
      test-elim (eqb x b)
      (λ same.
      let e : x ≡ b = eqb→eq x b same in
      inr (subst (Closed f next) (sym e) (closed-self (subst Quiet e (quiet m not-pushed)))))
      (λ other.
      ⊎_elim
      (λ t.
      let still : T (update b false s.pending x) = subst T (sym (update-there b false s.pending x other)) t in
      inl (or_right (has x (pushed f s b)) (update b false s.pending x) still))
      (λ c. inr (closed-other other (quiet m not-pushed) c))
      (settled x m)))

module _ (f : Function) where
  -- A step keeps each reachable block pending or closed,
  pub step-settled : (s : State) → Resumable f s → Settled f s → Settled f (step f s)
  step-settled s h settled = step-elim f (Settled f) s (λ _. settled) (λ b rest _. visit-settled f s h b rest settled)

  -- and so does any number of steps.
  pub after-settled : (k : ℕ) (s : State) → Resumable f s → Settled f s → Settled f (after f k s)
  after-settled zero s h settled = settled
  after-settled (suc k) s h settled =
      step-settled (after f k s) (after-resumable f k s h) (after-settled k s h settled)

  -- At the start all are pending.
  pub start-settled : Settled f (start f)
  start-settled = subst (Settled f) (sym (start_first f)) (λ b m. inl (∈→has m))

  -- When nothing is pending, every reachable block is closed.
  pub idle-closed :
      (s : State) → Settled f s → ((b : ℕ) → T (not (s.pending b))) → (b : ℕ) → b ∈ reachable f → Closed f s b
  idle-closed s settled none b m = ⊎_elim (λ t. absurd (T_not (s.pending b) (none b) t)) (λ c. c) (settled b m)
