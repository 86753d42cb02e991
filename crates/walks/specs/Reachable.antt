-- The laws of the walk: which blocks `reachable` lists, once each, and in which order. They hold of every function.
-- Even where an edge leads out of the file the definition's depth is enough, for no edge leads on from there.
use Rattle.std.specs.Prelude.{ℕ, ◌≡◌, refl, ◌≢◌}
use Rattle.std.proofs.Common.{sym}
use Rattle.std.proofs.Math.Path.{subst}
use Rattle.std.proofs.Math.Logic.{⊎_elim}
use mathlib.Core.HLevel.{¬_prop}
use mathlib.Core.List.{List, [], ◌∷◌, ◌++◌, Nodup, Pairwise, Pairwise-append}
use mathlib.Core.List.Memᴰ
use Rattle.rules.specs.Lists.{has}
use Rattle.rules.specs.Tree.{Function}
use Rattle.rules.specs.Graph.{successors, reachable}
use Rattle.rules.specs.Demand3.{PathTo, start, onward}
use Rattle.lists.specs.Tests.{T-ext}
use Rattle.lists.specs.Members.{has→∈, ∈→has}
use Rattle.lists.specs.Members.{◌∈◌, here, not-∈-nil, ∈-elim, ∈-reverse_aux}
use Rattle.walks.specs.Paths.{Dominates, StrictlyDominates, Path-along, path-along-mono}
use Rattle.walks.specs.Walks.{stage_of, walked, walked-walks, walks-enter}
use Rattle.walks.specs.Line.{Sound, untouched-sound, sound-nodup, walks-sound, walks-closed}

module _ (f : Function) where
  -- when no block is open, the line is the list by index
  reachable-sound : Sound f (stage_of (walked f)).entered (reachable f)
  unfolding reachable
  reachable-sound =
      walks-sound (walked-walks f)
      (λ t m. subst (λ y. PathTo f y []) (sym (Memᴰ.eq_of_singleton m)) start)
      untouched-sound

  -- WHICH. Every block listed is at the end of a path from block 0, along other blocks listed.
  pub reachable→path : {b : ℕ} → b ∈ reachable f → Path-along f (λ x. (x ∈ reachable f) × (x ≢ b)) b
  reachable→path m =
      path-along-mono (λ x h. (reachable-sound.entered→∈ h.0, h.1))
      (reachable-sound.reached (reachable-sound.∈→entered m))

  -- Block 0 is listed,
  pub zero-reachable : 0 ∈ reachable f
  zero-reachable = reachable-sound.entered→∈ (walks-enter (walked-walks f) (here refl))

  -- and with a block its successors.
  pub reachable-closed : {b t : ℕ} → b ∈ reachable f → t ∈ successors f b → t ∈ reachable f
  unfolding reachable
  reachable-closed {b} {t} m s =
      let done : b ∈ (walked f).done =
      ⊎_elim (λ k. k) (λ k. absurd (not-∈-nil k)) (∈-reverse_aux (walked f).done [] m) in
      reachable-sound.entered→∈ (walks-closed (walked-walks f) (λ x u k. absurd (not-∈-nil k)) b t done s)

  -- So every block at the end of a path from block 0 is listed.
  pub path→reachable : {b : ℕ} {passed : List ℕ} → PathTo f b passed → b ∈ reachable f
  path→reachable start = zero-reachable
  path→reachable (onward p s) = reachable-closed (path→reachable p) s

  -- A block was entered if and only if it is listed.
  pub entered-reachable : (b : ℕ) → has b (walked f).entered ≡ has b (reachable f)
  entered-reachable b =
      T-ext (has b (walked f).entered) (has b (reachable f)) (λ t. ∈→has (reachable-sound.entered→∈ t))
      (λ t. reachable-sound.∈→entered (has→∈ (reachable f) t))

  -- ONCE. No block is listed twice.
  pub reachable-nodup : Nodup (reachable f)
  reachable-nodup = sound-nodup reachable-sound

  -- No block dominates one that stands behind it.
  pub reachable-ordered : Pairwise (λ b d. ¬ Dominates f b d) (reachable f)
  reachable-ordered = reachable-sound.ordered

  -- A dominator of a block listed is listed.
  pub dominator-reachable : {b d : ℕ} → b ∈ reachable f → Dominates f d b → d ∈ reachable f
  dominator-reachable {b} {d} m h =
      let q = reachable→path m in
      ∈-elim (λ (e : d ≡ b). rw e m) (λ k. (q.along d k).0) (h q.passed q.path)

  -- No block listed dominates itself strictly.
  pub strict-dominator-ne : {b d : ℕ} → b ∈ reachable f → StrictlyDominates f d b → d ≢ b
  strict-dominator-ne {b} {d} m h = let q = reachable→path m in (q.along d (h q.passed q.path)).1

  -- When blocks are taken in this order, and it is the turn of b,
  module _ {b : ℕ} (before behind : List ℕ) (turn : reachable f ≡ before ++ (b ∷ behind)) where
    -- no dominator of b has been taken before it,
    pub dominator-not-before : {d : ℕ} → d ∈ before → ¬ Dominates f d b
    dominator-not-before {d} m =
        ((Pairwise-append (λ x y. ¬_prop)).0 (subst (Pairwise (λ x y. ¬ Dominates f x y)) turn reachable-ordered)).2
        d ∣ m ∣₁ b ∣ here refl ∣₁

    turn-reachable : b ∈ reachable f
    turn-reachable = subst (◌∈◌ b) (sym turn) (Memᴰ.append_right before (here refl))

    -- all its dominators but b are still to come,
    pub dominator-behind : {d : ℕ} → Dominates f d b → d ≢ b → d ∈ behind
    dominator-behind {d} h other =
        ⊎_elim (λ k. absurd (dominator-not-before k h)) (∈-elim (λ e. absurd (other e)) (λ k. k))
        (Memᴰ.append_cases before (subst (◌∈◌ d) turn (dominator-reachable turn-reachable h)))
