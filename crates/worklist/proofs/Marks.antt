-- The marks of a worklist, one bit a block: they stay those of its entries when a block is pushed and when the top is taken off.
use Prim.Native.Nat.{ℕ, ◌-◌, ◌%◌, ◌^◌, ◌<◌}
use native.Mathlib.Omega.{arith}
use mathlib.Core.Path.{◌≡◌, refl, sym, ap, subst, ◌∙◌}
use mathlib.Core.Bool.{Bool, true, false, not, ◌&&◌, ◌||◌, or-false}
use mathlib.Core.List.{List, [], ◌∷◌}
use lib.Bits.{bit_and, bit_or}
use lib.Dec.{T, not_T, eqb, eqb→eq}
use Rattle.rules.specs.Limits.{largest_blocks}
use Rattle.rules.specs.Lists.{has}
use Rattle.lists.specs.Tests.{test-elim, T-ext, or_left, or_right, is_false}
use Rattle.lists.specs.Members.{◌∈◌, ∈-elim, has→∈, ∈→has}
use Rattle.fixpoint.specs.Finding.{keep-∈, ∈-keep}
use Rattle.fixpoint.specs.Removal.{remove, move_to_top}
use Rattle.rows.specs.Bits.{bit-zero, bit-inserted, bit-removed}
use Rattle.worklist.specs.Entries.{Marked}

-- no block is marked where none is set
pub marked-none : Marked 0 []
marked-none b _ = bit-zero b

-- moved to the top, a member leaves the members as they were,
has-moved : (i b : ℕ) (l : List ℕ) → T (has b l) → has i (move_to_top b l) ≡ has i l
has-moved i b l among =
    T-ext (has i (move_to_top b l)) (has i l)
    (λ h.
    ∈→has
    (∈-elim (λ (e : i ≡ b). subst (λ y. y ∈ l) (sym e) (has→∈ l among)) (keep-∈ (λ x. not (eqb x b)) l)
    (has→∈ (move_to_top b l) h)))
    (λ h.
    test-elim (eqb i b) (or_left (eqb i b) (has i (remove b l)))
    (λ n. or_right (eqb i b) (has i (remove b l)) (∈→has (∈-keep (λ x. not (eqb x b)) (has→∈ l h) n))))

-- so its marks do,
pub marked-moved : (b m : ℕ) (l : List ℕ) → T (has b l) → Marked m l → Marked m (move_to_top b l)
marked-moved b m l among h i k = h i k ∙ sym (has-moved i b l among)

-- The word that has only the bit of a block marks it where it is put on top,
pub marked-put :
    (b m only : ℕ) (l : List ℕ) → b < largest_blocks → only ≡ 2 ^ (b % 64) → Marked m l → Marked (bit_or m only) (b ∷ l)
marked-put b m only l k e h i j =
    let own : b % 64 ≡ b = omega arith in
    bit-inserted b m only e i ∙ rw (own, h i j) (ap (λ c. c || has i l) (or-false (eqb i b)))

-- and its complement takes the mark off with the entry.
pub marked-taken :
    (b m only : ℕ) (l : List ℕ) → b < largest_blocks → only ≡ 2 ^ (b % 64) → (b ∈ l → ⊥) → Marked m (b ∷ l)
    → Marked (bit_and m (2 ^ 64 - 1 - only)) l
marked-taken b m only l k e absent h i j =
    let own : b % 64 ≡ b = omega arith in
    bit-removed b m only e i j ∙ rw (own, h i j) (go (eqb i b) gone)
  where
    gone : T (eqb i b) → has i l ≡ false
    gone same = is_false (has i l) (not_T (has i l) (λ t. absent (subst (λ y. y ∈ l) (eqb→eq i b same) (has→∈ l t))))

    go : (c : Bool) → (T c → has i l ≡ false) → not (c || false) && (c || has i l) ≡ has i l
    go true f = sym (f tt)
    go false f = refl
