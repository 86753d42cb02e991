-- The entries of a worklist by their places.
use Prim.Native.Nat.{ℕ, zero, suc}
use mathlib.Core.Path.{◌≡◌, refl, sym, ap}
use mathlib.Core.List.{[], ◌∷◌}
use lib.ListN.{length, get_or}
use lib.Dec.{eqb, eqb-suc-zero}
use Rattle.rules.specs.Lists.{empty}
use Rattle.lists.specs.Down.{down, length-down}
use Rattle.worklist.specs.Entries.{entries}
use Rattle.worklist.specs.declared.Worklist.{Worklist}

-- there are as many as are counted
pub length-entries : (w : Worklist) → length (entries w) ≡ w.count
unfolding entries
length-entries w = length-down (λ j. get_or w.blocks j 0) w.count

-- so there is none if none is counted,
pub entries-none : (w : Worklist) → w.count ≡ 0 → entries w ≡ []
unfolding entries
entries-none w none = ap (down (λ j. get_or w.blocks j 0)) none

-- and only then,
pub empty-entries : (w : Worklist) → empty (entries w) ≡ eqb w.count 0
unfolding entries
empty-entries w = go w.count
  where
    go : (k : ℕ) → empty (down (λ j. get_or w.blocks j 0) k) ≡ eqb k 0
    go zero = refl
    go (suc k) = sym (eqb-suc-zero k)

-- and the last that is counted is on top, whatever is marked
pub entries-top :
    (w : Worklist) (m top : ℕ) → w.count ≡ suc top
    → entries w ≡ get_or w.blocks top 0 ∷ entries (record { blocks = w.blocks; count = top; pending = m })
unfolding entries
entries-top w m top last = ap (down (λ j. get_or w.blocks j 0)) last
