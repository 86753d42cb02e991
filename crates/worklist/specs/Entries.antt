-- What a worklist holds: the blocks still to visit, top first, no block twice, each with its mark.
use Rattle.std.specs.Prelude.{ℕ, ◌<◌, ◌≤◌, ◌≡◌, refl, true, not, length, get_or, eqb}
use Rattle.std.proofs.Common.{arith}
use Rattle.std.proofs.lemmas.Bool.{false≢true}
use mathlib.Core.List.{List, [], ◌∷◌, Nodup, Nodup-nil, Nodup-cons}
use Rattle.rules.specs.Limits.{largest_blocks}
use Rattle.rules.specs.Lists.{empty, has}
use Rattle.lists.specs.Members.{◌∈◌, there, not-∈-nil, ∈-elim}
use Rattle.lists.specs.Lack.{nodup-length-le}
use Rattle.lists.specs.Down.{down}
use Rattle.fixpoint.specs.Finding.{keep-∈}
use Rattle.fixpoint.specs.Removal.{move_to_top, nodup-move_to_top}
use Rattle.rows.specs.Bits.{bit_at}
use Rattle.worklist.specs.declared.Worklist.{Worklist}

-- the entries, top first; what stands at count and above is no entry
unfoldable pub entries : Worklist → List ℕ
entries w = down (λ j. get_or w.blocks j 0) w.count

-- Entries of a file's blocks: no block stands twice, and each is below the largest count.
pub record Stacked (l : List ℕ) : Type 0 where
  pub once : Nodup l
  pub below : (b : ℕ) → b ∈ l → b < largest_blocks

-- Such entries are no more than there are places.
pub stacked-length : (l : List ℕ) → Stacked l → length l ≤ largest_blocks
stacked-length l h = nodup-length-le largest_blocks l h.once h.below

-- No entries are such,
pub stacked-none : Stacked []
stacked-none = record { once = Nodup-nil; below = λ b m. absurd (not-∈-nil m) }

-- a push leaves such,
pub stacked-push : (b : ℕ) (l : List ℕ) → b < largest_blocks → Stacked l → Stacked (move_to_top b l)
stacked-push b l k h =
    record {
      once = nodup-move_to_top b l h.once;
      below = λ x. ∈-elim (λ (e : x ≡ b). omega arith) (λ m. h.below x (keep-∈ (λ y. not (eqb y b)) l m));
    }

-- and so does a pop.
pub stacked-pop : (b : ℕ) (l : List ℕ) → Stacked (b ∷ l) → Stacked l
stacked-pop b l h = record { once = (Nodup-cons.0 h.once).1; below = λ x m. h.below x (there m) }

-- The marks of entries: of a file's blocks, exactly these have theirs set.
abbrev pub Marked : ℕ → List ℕ → Type 0
Marked marks l = (b : ℕ) → b < largest_blocks → bit_at marks b ≡ has b l

-- WHAT EVERY CALL KEEPS of a worklist.
pub record Kept (w : Worklist) : Type 0 where
  pub stacked : Stacked (entries w)
  pub marked : Marked w.pending (entries w)

-- what the test for an empty worklist says when it passes
pub empty-none : (l : List ℕ) → empty l ≡ true → l ≡ []
empty-none [] e = refl
empty-none (x ∷ l) e = absurd (false≢true e)
