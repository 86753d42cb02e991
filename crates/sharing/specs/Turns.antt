-- Planning's order: blocks by index. Each reachable block has one turn, and comes behind the blocks that it strictly
-- dominates. So what is live at a point of a block is defined before it in the block, or in a block still to come.
use Rattle.std.specs.Prelude.{ℕ, ◌≡◌, refl, ◌⊎◌, ◌≢◌, T}
use Rattle.std.proofs.Common.{sym, subst, inl, inr, ⊎_elim}
use mathlib.Core.HLevel.{¬_prop}
use mathlib.Core.List.{List, ◌∷◌, ◌++◌, Nodup}
use mathlib.Core.List.Memᴰ
use mathlib.Core.List.{Pairwise, Pairwise-append, Pairwise-cons}
use Rattle.rules.specs.Lists.{concat_map}
use Rattle.rules.specs.Tree.{Instruction, Function}
use Rattle.rules.specs.Graph.{block_at, instructions_of, reachable}
use Rattle.rules.specs.Liveness.{before_all, process}
use Rattle.rules.specs.Refusals.{numbers_in_file, defined_once}
use Rattle.rules.specs.Demand3.{results_of, defined_in, Dominated}
use Rattle.lists.specs.Splits.{∈-split}
use Rattle.lists.specs.Members.{◌∈◌, here, ∈-elim, ∈-concat_map-from}
use Rattle.walks.specs.Paths.{Dominates, StrictlyDominates, strictly-dominates}
use Rattle.walks.specs.Reachable.{reachable→path, reachable-nodup, reachable-ordered, strict-dominator-ne}
use Rattle.sharing.specs.LiveDominated.{live-dominated}
use Rattle.sharing.specs.Once.{earlier-defined, same_block}

-- the turn of block b: what is planned before it, and behind it
pub record Turn (f : Function) (b : ℕ) : Type 0 where
  pub planned : List ℕ
  pub behind : List ℕ
  pub turn : reachable f ≡ planned ++ (b ∷ behind)

-- A reachable block has its turn, and only such a block,
pub turn-of : (f : Function) {b : ℕ} → b ∈ reachable f → Turn f b
turn-of f m = let r = ∈-split m in record { planned = r.0; behind = r.1; turn = r.2 }

pub turn-reachable : {f : Function} {b : ℕ} → Turn f b → b ∈ reachable f
turn-reachable {b = b} t = subst (λ l. b ∈ l) (sym t.turn) (Memᴰ.append_right t.planned (here refl))

-- once,
pub turn-new : {f : Function} {b : ℕ} (t : Turn f b) → b ∈ t.planned → ⊥
turn-new {f} {b} t m =
    ((Pairwise-append (λ x y. ¬_prop)).0 (subst (λ l. Nodup l) t.turn (reachable-nodup f))).2
    b ∣ m ∣₁ b ∣ here refl ∣₁ refl

-- and behind the blocks that it strictly dominates.
pub dominated-planned : {f : Function} {b c : ℕ} (t : Turn f b) → StrictlyDominates f b c → c ∈ reachable f → c ∈ t.planned
dominated-planned {f} {b} {c} t strict m =
    ⊎_elim (λ k. k)
    (∈-elim (λ e. absurd (strict-dominator-ne f m strict (sym e)))
    (λ k.
    absurd
    ((Pairwise-cons.0
    ((Pairwise-append (λ x y. ¬_prop) {l₁ = t.planned}).0
    (subst (Pairwise (λ x y. ¬ Dominates f x y)) t.turn (reachable-ordered f))).1
    ).0 c ∣ k ∣₁ (strictly-dominates strict))))
    (Memᴰ.append_cases t.planned (subst (λ l. c ∈ l) t.turn m))

module _ (f : Function) (once : T (defined_once f)) (in-file : T (numbers_in_file f)) (dominated : Dominated f) where
  -- WHERE A LIVE VALUE IS DEFINED: before the point in its block, or in a block that strictly dominates this one.
  pub live-definer :
      {b v : ℕ} → b ∈ reachable f → (earlier later : List Instruction) → instructions_of (block_at f b) ≡ earlier ++ later
      → T (before_all f later ((process f).outs b) v)
      → (v ∈ (block_at f b).parameters ++ results_of earlier) ⊎ ((d : ℕ) × StrictlyDominates f d b × (v ∈ defined_in f d))
  live-definer {b} {v} m earlier later split t =
      let q = reachable→path f m in
      ⊎_elim
      (λ k.
      let r = ∈-concat_map-from (defined_in f) q.passed k in
      let off : r.0 ≢ b = (q.along r.0 r.1).1 in
      inr (r.0, strictly r.0 off r.2, r.2))
      inl
      (Memᴰ.append_cases (concat_map (defined_in f) q.passed) (live-dominated dominated earlier later split q.path t))
    where
      strictly : (d : ℕ) → d ≢ b → v ∈ defined_in f d → StrictlyDominates f d b
      strictly d off m passed p =
          ⊎_elim
          (λ k.
          let r = ∈-concat_map-from (defined_in f) passed k in
          subst (λ x. x ∈ passed) (same_block f once in-file r.2 m) r.1)
          (λ k. absurd (off (same_block f once in-file m (earlier-defined f b earlier later split k))))
          (Memᴰ.append_cases (concat_map (defined_in f) passed) (live-dominated dominated earlier later split p t))
