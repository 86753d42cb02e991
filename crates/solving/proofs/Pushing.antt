-- Pushing the blocks of a list, one entry after the other.
use Prim.Native.Nat.{ℕ, suc, ◌+◌, ◌^◌, ◌<◌}
use native.Mathlib.Omega.{arith}
use mathlib.Core.Path.{◌≡◌, refl, sym, ap, subst, ◌∙◌}
use mathlib.Core.List.{List, [], ◌∷◌}
use lib.ListN.{length, get_or}
use Rattle.rules.specs.Limits.{largest_blocks}
use Rattle.lists.specs.Members.{here, there}
use Rattle.fixpoint.specs.Removal.{move_to_top}
use Rattle.worklist.specs.Entries.{entries, Kept}
use Rattle.solving.specs.declared.Progress.{Progress}
use Rattle.solving.specs.Chains.{chain, Chain, chain_more, chain-behind}
use Rattle.solving.specs.Progress.{push_all, Pushable, Pushed}

-- nothing is left to push
pushed_none : (at : Progress) → Kept at.worklist → Pushed [] at at
pushed_none at k = record { left = refl; kept = k; visits = refl; pushes = omega arith }

-- ONE PUSH: what is known of the progress behind it
pub record One (p : ℕ) (at r : Progress) : Type 0 where
  pub left : entries r.worklist ≡ move_to_top p (entries at.worklist)
  pub kept : Kept r.worklist
  pub visits : r.visits ≡ at.visits
  pub pushes : r.pushes ≡ at.pushes + 1

-- it and the pushes behind it
pushed_more : (p : ℕ) (ps : List ℕ) (at at' r : Progress) → One p at at' → Pushed ps at' r → Pushed (p ∷ ps) at r
pushed_more p ps at at' r one h =
    record {
      left = h.left ∙ ap (push_all ps) one.left;
      kept = h.kept;
      visits = h.visits ∙ one.visits;
      pushes = omega (arith, h.pushes, one.pushes);
    }

-- which can be made
pushable-more : (p : ℕ) (ps : List ℕ) (at at' : Progress) → One p at at' → Pushable (p ∷ ps) at → Pushable ps at'
pushable-more p ps at at' one h =
    record {
      kept = one.kept;
      below = λ q m. h.below q (there m);
      counted = omega (arith, h.counted, one.pushes);
    }

-- A LIST. What is left of it, from a tag on, leads to the end.
pub record Pushing (from next all : List ℕ) (at : Progress) (tag : ℕ) (here : Progress) : Type 0 where
  pub entries-fall : Chain from next tag
  pub pushable : Pushable (chain from next tag) here
  pub rest : (r : Progress) → Pushed (chain from next tag) here r → Pushed all at r

-- all of it is left at the start
pub pushing-start :
    (from next : List ℕ) (tag : ℕ) (at : Progress) → Chain from next tag → Pushable (chain from next tag) at
    → Pushing from next (chain from next tag) at tag at
pushing-start from next tag at falls h = record { entries-fall = falls; pushable = h; rest = λ r pushed. pushed }

module _ (from next all : List ℕ) (at : Progress) (tag : ℕ) (here' : Progress) (h : Pushing from next all at tag here') where
  -- none is left
  pub pushing-done : tag ≡ 0 → Pushed all at here'
  pushing-done none =
      h.rest here' (subst (λ (t : ℕ). Pushed (chain from next t) here' here') (sym none) (pushed_none here' h.pushable.kept))

  -- THE ENTRY of the tag
  module _ (e : ℕ) (is : tag ≡ suc e) where
    falls : Chain from next (suc e)
    falls = subst (Chain from next) is h.entries-fall

    -- its predecessor stands in front of the others,
    list : chain from next tag ≡ get_or from e 0 ∷ chain from next (get_or next e 0)
    list = ap (chain from next) is ∙ chain_more from next e falls

    -- and all of them can be pushed
    pushable : Pushable (get_or from e 0 ∷ chain from next (get_or next e 0)) here'
    pushable = subst (λ (ps : List ℕ). Pushable ps here') list h.pushable

    -- so it can,
    pub pushing-block : Kept here'.worklist × (get_or from e 0 < largest_blocks)
    pushing-block = (pushable.kept, pushable.below (get_or from e 0) (here refl))

    -- and counts
    pub pushing-fits : here'.pushes + 1 < 2 ^ 32
    pushing-fits = omega (arith, pushable.counted)

    -- the entry stands in both tables
    pub pushing-entry : (e < length from) × (e < length next)
    pushing-entry =
        let x = falls.froms in
        let y = falls.nexts in
        (omega arith, omega arith)

    -- the next one stands before it
    pub pushing-less : get_or next e 0 < tag
    pushing-less = let l = falls.falls e (omega arith) in omega arith

    -- when it is pushed, those behind it are left
    pub pushing-more : (next' : Progress) → One (get_or from e 0) here' next' → Pushing from next all at (get_or next e 0) next'
    pushing-more next' one =
        record {
          entries-fall = chain-behind from next e falls;
          pushable = pushable-more (get_or from e 0) (chain from next (get_or next e 0)) here' next' one pushable;
          rest =
              λ r pushed.
              h.rest r
              (subst (λ (ps : List ℕ). Pushed ps here' r) (sym list)
              (pushed_more (get_or from e 0) (chain from next (get_or next e 0)) here' next' r one pushed));
        }
