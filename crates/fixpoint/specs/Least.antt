-- THE LEAST SOLUTION: what it holds, block by block; and that sets which are closed at every reachable block have all
-- of it.
use Rattle.std.specs.Prelude.{ℕ, ◌⊎◌, not, ◌&&◌, T, eqb}
use Rattle.std.proofs.Common.{sym, subst, inl, inr, eqb→eq}
use Rattle.std.proofs.Math.Dec.{eqb_refl}
use Rattle.rules.specs.Lists.{NumberSet, nothing}
use Rattle.rules.specs.Tree.{Function}
use Rattle.rules.specs.Graph.{is_marked, successors, reachable}
use Rattle.rules.specs.Liveness.{through, LiveOut, LiveIn, successor, rule, State}
use Rattle.lists.specs.Tests.{and_intro, and_left, and_right, or_elim, or_right}
use Rattle.lists.specs.Members.{◌∈◌}
use Rattle.walks.specs.Reachable.{reachable-closed}
use Rattle.fixpoint.specs.Finding.{any-intro}
use Rattle.fixpoint.specs.Rule.{uses, kills, through-split, through-mono, through-marked}
use Rattle.fixpoint.specs.Closed.{Closed}

module _ {f : Function} {b v : ℕ} where
  -- what a block uses before it defines it is live into it,
  pub live-in-used : T (uses f b v) → LiveIn f b v
  live-in-used t = rule nothing (λ w k. absurd k) t

  -- and what is live out of it and not defined in it.
  pub live-in-passed : LiveOut f b v → T (not (kills f b v)) → LiveIn f b v
  live-in-passed live n =
      let one : NumberSet = λ w. eqb w v in
      rule one (λ w k. subst (LiveOut f b) (sym (eqb→eq w v k)) live)
      (subst T (sym (through-split f b one v))
      (or_right (uses f b v) (one v && not (kills f b v)) (and_intro (one v) (not (kills f b v)) (eqb_refl v) n)))

  -- Nothing else is live into it.
  pub live-in-split : LiveIn f b v → T (uses f b v) ⊎ (LiveOut f b v × T (not (kills f b v)))
  live-in-split (rule out live t) =
      let stays = not (kills f b v) in
      or_elim (uses f b v) (out v && stays) inl
      (λ k. inr (live v (and_left (out v) stays k), and_right (out v) stays k))
      (subst T (through-split f b out v) t)

-- Only marked values are live:
module _ (f : Function) where
  -- what the rule gives from marked values is marked
  in-marked :
      (b v : ℕ) (out : NumberSet) → ((w : ℕ) → T (out w) → T (is_marked f w)) → T (through f b out v) → T (is_marked f v)
  in-marked b v out marked t = through-marked f b out marked v t

  -- live out of a block
  pub live-out-marked : {b v : ℕ} → LiveOut f b v → T (is_marked f v)
  live-out-marked live =
      elim live as (λ b v _. T (is_marked f v)) (λ b v _. T (is_marked f v)) [
        | successor edge (_ → marked) ↦ marked
        | rule {b} {v} out (_ → marked) t ↦ in-marked b v out marked t
      ]

  -- and into one
  pub live-in-marked : {b v : ℕ} → LiveIn f b v → T (is_marked f v)
  live-in-marked {b} {v} (rule out live t) = in-marked b v out (λ w k. live-out-marked (live w k)) t

module _ (f : Function) (s : State) (closed : (b : ℕ) → b ∈ reachable f → Closed f s b) where
  -- what is live out of, or into, a reachable block is set
  abbrev OutSet : (b v : ℕ) → LiveOut f b v → Type 0
  OutSet b v _ = b ∈ reachable f → T (s.outs b v)

  abbrev InSet : (b v : ℕ) → LiveIn f b v → Type 0
  InSet b v _ = b ∈ reachable f → T (s.ins b v)

  out-case :
      (b t v : ℕ) → t ∈ successors f b → (t ∈ reachable f → T (s.ins t v)) → b ∈ reachable f → T (s.outs b v)
  out-case b t v edge set m =
      (closed b m).outs-closed v (any-intro (λ u. s.ins u v) edge (set (reachable-closed f m edge)))

  in-case :
      (b v : ℕ) (out : NumberSet) → ((w : ℕ) → T (out w) → b ∈ reachable f → T (s.outs b w)) → T (through f b out v)
      → b ∈ reachable f → T (s.ins b v)
  in-case b v out set t m =
      (closed b m).ins-closed v (through-mono f b out (s.outs b) (λ w k. set w k m) v t)

  -- Closed sets have all that is live out
  pub out-complete : {b v : ℕ} → LiveOut f b v → b ∈ reachable f → T (s.outs b v)
  out-complete live =
      elim live as OutSet InSet [
        | successor {b} {t} {v} edge (_ → set) ↦ out-case b t v edge set
        | rule {b} {v} out (_ → set) t ↦ in-case b v out set t
      ]

  -- and all that is live in.
  pub in-complete : {b v : ℕ} → LiveIn f b v → b ∈ reachable f → T (s.ins b v)
  in-complete {b} {v} (rule out live t) = in-case b v out (λ w k. out-complete (live w k)) t
