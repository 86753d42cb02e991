-- A push on a worklist, of a block that its mark says is not there and of one that is; and a pop.
use Prim.Native.Nat.{ℕ, suc, ◌+◌, ◌-◌, ◌%◌, ◌^◌, ◌<◌, ◌≤◌}
use native.Mathlib.Omega.{arith}
use native.Mathlib.Numerals.{add-one}
use mathlib.Core.Path.{◌≡◌, refl, sym, ap, subst, ◌∙◌}
use mathlib.Core.Bool.{true, false, true≢false}
use mathlib.Core.List.{List, ◌∷◌, Nodup-cons}
use lib.ListN.{length, get_or, set}
use lib.Bits.{bit_and, bit_or}
use lib.Dec.{T}
use Rattle.rules.specs.Limits.{largest_blocks}
use Rattle.rules.specs.Lists.{has}
use Rattle.lists.specs.Tests.{is_true}
use Rattle.lists.specs.Members.{◌∈◌, here, ∈→has}
use Rattle.fixpoint.specs.Removal.{move_to_top, remove_absent}
use Rattle.rows.specs.Bits.{bit_at}
use Rattle.worklist.specs.Entries.{entries, Stacked, Marked, Kept, stacked-length, stacked-push, stacked-pop}
use Rattle.worklist.specs.declared.Worklist.{Worklist}
use Rattle.worklist.proofs.Marks.{marked-put, marked-moved, marked-taken}
use Rattle.worklist.proofs.Places.{length-entries, entries-top}
use Rattle.worklist.proofs.Raising.{stack, stack_set, Raising, raising-start, raising-done}

-- there are no more entries than places
pub kept-fits : (w : Worklist) → Kept w → w.count ≤ largest_blocks
kept-fits w kept = omega (arith, stacked-length (entries w) kept.stacked, length-entries w)

-- A PUSH
module _ (w : Worklist) (b : ℕ) (kept : Kept w) (l : b < largest_blocks) where
  -- the mark is the test for the entry
  marked-has : bit_at w.pending (b % 64) ≡ has b (entries w)
  marked-has = let own : b % 64 ≡ b = omega arith in ap (bit_at w.pending) own ∙ kept.marked b l

  -- a worklist of the entries moved, with their marks, is what a push promises
  pushed :
      (r : Worklist) → entries r ≡ move_to_top b (entries w) → Marked r.pending (move_to_top b (entries w))
      → (entries r ≡ move_to_top b (entries w)) × Kept r
  pushed r e marks = (
    e,
    record {
      stacked = subst Stacked (sym e) (stacked-push b (entries w) l kept.stacked);
      marked = subst (Marked r.pending) (sym e) marks;
    },
  )

  -- NOT THERE: it is put on top of the entries as they are,
  module _ (out : bit_at w.pending (b % 64) ≡ false) where
    absent : b ∈ entries w → ⊥
    absent m = true≢false (sym (is_true (has b (entries w)) (∈→has m)) ∙ sym marked-has ∙ out)

    on-top : move_to_top b (entries w) ≡ b ∷ entries w
    on-top = ap (λ r. b ∷ r) (remove_absent b (entries w) absent)

    -- for which there is a place,
    pub put-room : w.count < largest_blocks
    put-room =
        omega (
          arith,
          stacked-length (move_to_top b (entries w)) (stacked-push b (entries w) l kept.stacked),
          ap length on-top,
          length-entries w,
        )

    -- and marked.
    pub put-pushed :
        (only : ℕ) → only ≡ 2 ^ (b % 64) → length w.blocks ≡ largest_blocks
        → let r : Worklist = record { blocks = set w.blocks w.count b; count = w.count + 1; pending = bit_or w.pending only } in
        (entries r ≡ move_to_top b (entries w)) × Kept r
    unfolding entries
    put-pushed only e long =
        let filled : stack (set w.blocks w.count b) (w.count + 1) ≡ b ∷ entries w =
        ap (stack (set w.blocks w.count b)) (add-one w.count) ∙ stack_set w.blocks w.count b (omega (arith, put-room)) in
        pushed _ (filled ∙ sym on-top)
        (subst (Marked (bit_or w.pending only)) (sym on-top) (marked-put b w.pending only (entries w) l e kept.marked))

  -- THERE: it is looked for from the top,
  module _ (in-it : bit_at w.pending (b % 64) ≡ true) where
    there_has : T (has b (entries w))
    there_has = subst T (sym in-it ∙ marked-has) tt

    pub moved-start : Raising b w.blocks w.count b w.count w.blocks
    unfolding entries
    moved-start = raising-start b w.blocks w.count there_has

    -- and the marks stay.
    pub moved_pushed :
        (carried k : ℕ) (t : List ℕ) → Raising b w.blocks w.count carried k t → get_or t (k - 1) 0 ≡ b → length w.blocks ≡ largest_blocks
        → let r : Worklist = record { blocks = set t (k - 1) carried; count = w.count; pending = w.pending } in
        (entries r ≡ move_to_top b (entries w)) × Kept r
    unfolding entries
    moved_pushed carried k t h found long =
        pushed _ (raising-done b w.blocks w.count carried k t h found (omega (arith, kept-fits w kept)) there_has kept.stacked.once)
        (marked-moved b w.pending (entries w) there_has kept.marked)

-- A POP takes the top off, and its mark.
pub popped-kept :
    (w : Worklist) → Kept w → (top b only : ℕ) → w.count ≡ suc top → b ≡ get_or w.blocks top 0 → only ≡ 2 ^ (b % 64)
    → let r : Worklist = record { blocks = w.blocks; count = top; pending = bit_and w.pending (2 ^ 64 - 1 - only) } in
    (entries w ≡ b ∷ entries r) × Kept r
popped-kept w kept last b only some is e =
    let marks = bit_and w.pending (2 ^ 64 - 1 - only) in
    let r : Worklist = record { blocks = w.blocks; count = last; pending = marks } in
    let top : entries w ≡ b ∷ entries r = entries-top w marks last some ∙ ap (λ x. x ∷ entries r) (sym is) in
    let stacked : Stacked (b ∷ entries r) = subst Stacked top kept.stacked in (
      top,
      record {
        stacked = stacked-pop b (entries r) stacked;
        marked =
            marked-taken b w.pending only (entries r) (stacked.below b (here refl)) e (λ m. (Nodup-cons.0 stacked.once).0 ∣ m ∣₁)
            (subst (Marked w.pending) top kept.marked);
      },
    )
