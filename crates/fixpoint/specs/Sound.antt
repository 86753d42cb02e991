-- SOUNDNESS. Whatever is set in the tables is live: at the start nothing is set, and a visit sets only what the rule
-- gives.
use Rattle.std.specs.Prelude.{ℕ, List, T}
use Rattle.std.proofs.Common.{sym, subst}
use Rattle.rules.specs.Lists.{NumberSet}
use Rattle.rules.specs.Tree.{Function}
use Rattle.rules.specs.Graph.{successors}
use Rattle.rules.specs.Liveness.{through, LiveOut, LiveIn, successor, rule, State, joined, start, step, after}
use Rattle.lists.specs.Tests.{or_elim}
use Rattle.fixpoint.specs.Finding.{any-elim, update-elim}
use Rattle.fixpoint.specs.Steps.{start_first, new_out, new_in, after_visit, step-elim, after-keeps}

-- what is set is live
pub record Sound (f : Function) (s : State) : Type 0 where
  pub ins-live : (b v : ℕ) → T (s.ins b v) → LiveIn f b v
  pub outs-live : (b v : ℕ) → T (s.outs b v) → LiveOut f b v

module _ (f : Function) where
  -- live-out as a visit leaves it is live
  new_out-live : (s : State) → Sound f s → (b v : ℕ) → T (new_out f s b v) → LiveOut f b v
  new_out-live s h b v =
      or_elim (s.outs b v) (joined f s.ins b v) (h.outs-live b v)
      (λ t. let r = any-elim (λ u. s.ins u v) (successors f b) t in successor r.1 (h.ins-live r.0 v r.2))

  -- so is what the rule gives from it
  new_in-live : (s : State) → Sound f s → (b v : ℕ) → T (new_in f s b v) → LiveIn f b v
  new_in-live s h b v =
      or_elim (s.ins b v) (through f b (new_out f s b) v) (h.ins-live b v)
      (rule (new_out f s b) (new_out-live s h b))

  -- A visit keeps soundness,
  visit-sound : (s : State) → Sound f s → (b : ℕ) (rest : List ℕ) → Sound f (after_visit f s b rest)
  visit-sound s h b rest =
      record {
        ins-live = λ x v.
            update-elim (λ (r : NumberSet). T (r v) → LiveIn f x v) b (new_in f s b) s.ins x
            (λ e t. subst (λ y. LiveIn f y v) (sym e) (new_in-live s h b v t))
            (λ _. h.ins-live x v);
        outs-live = λ x v.
            update-elim (λ (r : NumberSet). T (r v) → LiveOut f x v) b (new_out f s b) s.outs x
            (λ e t. subst (λ y. LiveOut f y v) (sym e) (new_out-live s h b v t))
            (λ _. h.outs-live x v);
      }

  -- so does a step,
  pub step-sound : (s : State) → Sound f s → Sound f (step f s)
  step-sound s h = step-elim f (Sound f) s (λ _. h) (λ b rest _. visit-sound s h b rest)

  -- and any number of steps.
  pub after-sound : (k : ℕ) (s : State) → Sound f s → Sound f (after f k s)
  after-sound = after-keeps f (Sound f) step-sound

  -- The process starts with it.
  pub start-sound : Sound f (start f)
  start-sound =
      subst (Sound f) (sym (start_first f)) (record { ins-live = λ b v t. absurd t; outs-live = λ b v t. absurd t })
