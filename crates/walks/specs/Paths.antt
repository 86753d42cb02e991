-- Paths from block 0, and domination by them.
use Rattle.std.specs.Prelude.{ℕ, ◌≤◌, ◌≡◌, refl, ◌≢◌, false, List, [], ◌∷◌, map, length}
use Rattle.std.proofs.Common.{sym, ap, subst}
use Rattle.std.proofs.Math.ListN.{get_or-eq_default}
use Rattle.rules.specs.Tree.{Block, Function}
use Rattle.rules.specs.Graph.{edges_out, successors}
use Rattle.rules.specs.Demand3.{PathTo, start, onward}
use Rattle.lists.specs.Members.{◌∈◌, here, there, not-∈-nil, ∈-elim}

-- d dominates b: every path to b passes d, or d is b
abbrev pub Dominates : Function → ℕ → ℕ → Type 0
Dominates f d b = (passed : List ℕ) → PathTo f b passed → d ∈ (b ∷ passed)

-- d dominates b strictly: every path to b passes d
abbrev pub StrictlyDominates : Function → ℕ → ℕ → Type 0
StrictlyDominates f d b = (passed : List ℕ) → PathTo f b passed → d ∈ passed

-- a path to b, and something of every block that it passes
pub record Path-along (f : Function) (P : ℕ → Type 0) (b : ℕ) : Type 0 where
  pub passed : List ℕ
  pub path : PathTo f b passed
  pub along : (x : ℕ) → x ∈ passed → P x

module _ {f : Function} where
  -- a path along some blocks is a path along more
  pub path-along-mono :
      {P Q : ℕ → Type 0} {b : ℕ} → ((x : ℕ) → P x → Q x) → Path-along f P b → Path-along f Q b
  path-along-mono h q = record { passed = q.passed; path = q.path; along = λ x m. h x (q.along x m) }

  -- a path holds a path to each block that it passes
  pub path-to-passed :
      {b : ℕ} {passed : List ℕ} → PathTo f b passed → {x : ℕ} → x ∈ passed → Path-along f (λ y. y ∈ passed) x
  path-to-passed start m = absurd (not-∈-nil m)
  path-to-passed (onward {passed = passed} p s) m =
      ∈-elim
      (λ e. record { passed = passed; path = subst (λ y. PathTo f y passed) (sym e) p; along = λ y k. there k })
      (λ k. path-along-mono (λ y. there) (path-to-passed p k))
      m

  -- a block dominates itself
  pub dominates-refl : (b : ℕ) → Dominates f b b
  dominates-refl b passed p = here refl

  -- a strict dominator is a dominator
  pub strictly-dominates : {d b : ℕ} → StrictlyDominates f d b → Dominates f d b
  strictly-dominates h passed p = there (h passed p)

  module _ {b : ℕ} {passed : List ℕ} (p : PathTo f b passed) where
    -- a block that is not on some path to b does not dominate b
    pub not-dominates : {d : ℕ} → d ≢ b → (d ∈ passed → ⊥) → ¬ Dominates f d b
    not-dominates other off h = ∈-elim other off (h passed p)

    -- a block that some path to it does not pass dominates nothing that this path passes
    pub dominates-none : (b ∈ passed → ⊥) → {x : ℕ} → x ∈ passed → ¬ Dominates f b x
    dominates-none off {x} m h =
        let q = path-to-passed p m in
        ∈-elim (λ (e : b ≡ x). off (rw e m)) (λ k. off (q.along b k)) (h q.passed q.path)

-- a block outside the file has no successors
pub successors-outside : (f : Function) (b : ℕ) → length f.blocks ≤ b → successors f b ≡ []
successors-outside f b h =
    ap (λ (c : Block). map (λ e. e.target) (edges_out c))
    (get_or-eq_default f.blocks (record { cold = false; number = 0; parameters = []; items = [] }) h)
