-- All blocks by index put on a worklist, from the highest down.
use Prim.Native.Nat.{ℕ, zero, suc, ◌-◌, ◌<◌, ◌≤◌}
use native.Mathlib.Omega.{arith}
use mathlib.Core.Path.{◌≡◌, sym, ap, ◌∙◌}
use mathlib.Core.List.{List, [], ◌∷◌, Nodup, Nodup-cons}
use lib.ListN.{length, get_or, drop}
use lib.Seq.{drop-cons}
use Rattle.rules.specs.Limits.{largest_blocks}
use Rattle.lists.specs.Members.{◌∈◌, get_d-∈}
use Rattle.fixpoint.specs.Removal.{move_to_top, remove_absent}
use Rattle.worklist.specs.Entries.{Stacked}

-- In a list without repetitions no member stands behind itself,
nodup-behind : (l : List ℕ) (i : ℕ) → Nodup l → i < length l → get_or l i 0 ∈ drop (suc i) l → ⊥
nodup-behind [] i d h m = absurd (omega arith)
nodup-behind (x ∷ l) zero d h m = (Nodup-cons.0 d).0 ∣ m ∣₁
nodup-behind (x ∷ l) (suc i) d h m = nodup-behind l i (Nodup-cons.0 d).1 (omega arith) m

-- so pushing it puts it on top of those behind it.
push-front : (l : List ℕ) (i : ℕ) → Nodup l → i < length l → move_to_top (get_or l i 0) (drop (suc i) l) ≡ drop i l
push-front l i d h =
    ap (λ (r : List ℕ). get_or l i 0 ∷ r) (remove_absent (get_or l i 0) (drop (suc i) l) (nodup-behind l i d h))
    ∙ sym (drop-cons l i 0 h)

module _ (order : List ℕ) (h : Stacked order) where
  -- every block can be pushed,
  pub stacking-below : (j : ℕ) → j < length order → get_or order j 0 < largest_blocks
  stacking-below j l = h.below (get_or order j 0) (get_d-∈ order j 0 l)

  -- and goes on top of those behind it.
  pub stacking-more : (i : ℕ) → 0 < i → i ≤ length order → move_to_top (get_or order (i - 1) 0) (drop i order) ≡ drop (i - 1) order
  stacking-more i opened le =
      let is : i ≡ suc (i - 1) = omega arith in
      ap (λ (n : ℕ). move_to_top (get_or order (i - 1) 0) (drop n order)) is ∙ push-front order (i - 1) h.once (omega arith)
