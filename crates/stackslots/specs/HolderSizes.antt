-- What the table of holders is after the noted steps, where each step's place is the slot that it is about: every entry has
-- the size of its slot, and 0 where no slot is made.
use Rattle.std.specs.Prelude.{ℕ, zero, suc, ◌/◌, ◌%◌, ◌<◌, ◌≤◌, ◌≡◌, Bool, true, false, cond, not, length, get_or, take, replicate, T, eqb, ltb}
use Rattle.std.proofs.Math.Path.{refl, subst}
use Rattle.std.proofs.Common.{sym, ap, ap₂, ◌∙◌, arith, eq-eqb, ne_eqb, length-set, length-append, take-suc, take-suc-set, get_or-set_same, get_or-set_other, eqb→eq, ltb→lt, nltb→le}
use Rattle.std.proofs.Math.Option.{Option, none, some}
use mathlib.Core.List.{List, [], ◌∷◌, ◌++◌}
use Rattle.std.proofs.Math.ListN.{set, get_or-eq_default, get_or-append}
use Rattle.std.proofs.Math.Seq.{take-length, get_or-append_seam}
use Rattle.rules.specs.Limits.{largest_values}
use Rattle.rules.specs.Slots.{StackSlots, slot_from, give_slot, free_slot}
use Rattle.lists.specs.Tests.{test-elim, neqb→ne}
use Rattle.lists.specs.Members.{◌∈◌, here}
use Rattle.fixpoint.specs.Finding.{update_here}
use Rattle.sharing.specs.SlotSteps.{free_own}
use Rattle.demand3.specs.SlotTables.{SlotsGood}
use Rattle.rows.specs.Rows.{row_values}
use Rattle.numbering.specs.Beside.{tag}
use Rattle.holders.specs.declared.Holder.{Holder}
use Rattle.holders.specs.Table.{nobody, taken_by, given_back, changed, change_of}
use Rattle.stackslots.specs.Tables.{new_slot, slots_after, placed}
use Rattle.stackslots.specs.HolderSteps.{slot_given, changed-even, changed-odd, made-size, made-low, holders_by, holders-kept}
use Rattle.stackslots.specs.SlotSizes.{size_in, sizes_over}

-- every entry has its slot's size
abbrev Sized : List Holder → StackSlots → Type 0
Sized table p = (k : ℕ) → size_in table k ≡ get_or p.made k 0

-- an entry that is set has the size set, and the others have theirs
sized_set :
    (table : List Holder) (slot : ℕ) (h : Holder) (sizes : List ℕ) → slot < length table → h.size ≡ get_or sizes slot 0
    → ((k : ℕ) → T (not (eqb k slot)) → size_in table k ≡ get_or sizes k 0) → (k : ℕ) → size_in (set table slot h) k ≡ get_or sizes k 0
sized_set table slot h sizes inside new old k =
    test-elim (eqb k slot)
    (λ same. subst (λ j. size_in (set table slot h) j ≡ get_or sizes j 0) (sym (eqb→eq k slot same)) (ap (λ (e : Holder). e.size) (get_or-set_same table slot h nobody inside) ∙ new))
    (λ other. ap (λ (e : Holder). e.size) (get_or-set_other table slot k h nobody (neqb→ne k slot other)) ∙ old k other)

-- a list that grows keeps what it had
grown-other : (sizes : List ℕ) (size k : ℕ) → T (not (eqb k (length sizes))) → get_or sizes k 0 ≡ get_or (sizes ++ (size ∷ [])) k 0
grown-other sizes size k other =
    test-elim (ltb k (length sizes)) (λ less. sym (get_or-append sizes (size ∷ []) 0 k (ltb→lt k (length sizes) less)))
    (λ over.
    let ne = neqb→ne k (length sizes) other in
    let le = nltb→le k (length sizes) over in
    let long = length-append sizes (size ∷ []) in
    get_or-eq_default sizes 0 {n = k} le ∙ sym (get_or-eq_default (sizes ++ (size ∷ [])) 0 {n = k} (omega (arith, ne, le, long))))

module _ (table : List Holder) (long : length table ≡ row_values) (step size : ℕ) (p : StackSlots) (good : SlotsGood row_values p) (h : Sized table p) where
  abbrev v : ℕ
  v = step / 2

  -- A VALUE IS GIVEN A SLOT: none where it has one, the one last freed of its size, else a new one.
  sized-given :
      eqb (step % 2) 0 ≡ true → SlotsGood row_values (give_slot v size p)
      → Sized (changed (change_of step (tag (slot_given v size p)) size) table) (give_slot v size p)
  unfolding give_slot
  sized-given even good' = go (p.slot_of v) refl (p.free size) refl good'
    where
      at : (slot : ℕ) → changed (change_of step (suc slot) size) table ≡ set table slot (taken_by (get_or table slot nobody) v size)
      at slot = changed-even step slot size table even

      go : (o : Option ℕ) → p.slot_of v ≡ o → (free : List ℕ) → p.free size ≡ free → SlotsGood row_values (slot_from v size o free p)
          → Sized (changed (change_of step (tag (new_slot o ((slot_from v size o free p).slot_of v))) size) table) (slot_from v size o free p)
      go (some slot) e free d g = h
      go none e (slot ∷ rest) d g =
          let made_one = good.freed size slot (subst (λ (l : List ℕ). slot ∈ l) (sym d) (here refl)) in
          let kept : (taken_by (get_or table slot nobody) v size).size ≡ get_or p.made slot 0 =
          ap (λ (t : Bool). cond t size (size_in table slot)) (ne_eqb (size_in table slot) 0 (λ z. made-size good slot made_one (sym (h slot) ∙ z))) ∙ h slot in
          subst (λ (o : Option ℕ). Sized (changed (change_of step (tag o) size) table) (slot_from v size none (slot ∷ rest) p)) (sym (update_here v (some slot) p.slot_of))
          (subst (λ (t : List Holder). Sized t (slot_from v size none (slot ∷ rest) p)) (sym (at slot))
          (sized_set table slot (taken_by (get_or table slot nobody) v size) p.made (omega (arith, made-low good slot made_one, long)) kept (λ k _. h k)))
      go none e [] d g =
          let slot = length p.made in
          let bare : size_in table slot ≡ 0 = h slot ∙ get_or-eq_default p.made 0 {n = slot} (omega arith) in
          let new : (taken_by (get_or table slot nobody) v size).size ≡ get_or (p.made ++ (size ∷ [])) slot 0 =
          ap (λ (t : Bool). cond t size (size_in table slot)) (eq-eqb (size_in table slot) 0 bare) ∙ sym (get_or-append_seam p.made size [] 0) in
          subst (λ (o : Option ℕ). Sized (changed (change_of step (tag o) size) table) (slot_from v size none [] p)) (sym (update_here v (some slot) p.slot_of))
          (subst (λ (t : List Holder). Sized t (slot_from v size none [] p)) (sym (at slot))
          (sized_set table slot (taken_by (get_or table slot nobody) v size) (p.made ++ (size ∷ [])) (omega (arith, g.few, length-append p.made (size ∷ []), long)) new
          (λ k other. h k ∙ grown-other p.made size k other)))

  -- A SLOT IS FREED, if the value has one.
  sized-freed : eqb (step % 2) 0 ≡ false → Sized (changed (change_of step (tag (p.slot_of v)) size) table) (free_own size (p.slot_of v) p)
  unfolding free_slot
  sized-freed odd = go (p.slot_of v) refl
    where
      go : (o : Option ℕ) → p.slot_of v ≡ o → Sized (changed (change_of step (tag o) size) table) (free_own size o p)
      go none e = h
      go (some slot) e =
          subst (λ (t : List Holder). Sized t (free_slot slot size p)) (sym (changed-odd step slot size table odd))
          (sized_set table slot (given_back (get_or table slot nobody)) p.made (omega (arith, made-low good slot (good.given v slot e), long)) (h slot) (λ k _. h k))

-- before the first step no slot is made
blank-sized : (n k : ℕ) → size_in (replicate n nobody) k ≡ 0
blank-sized zero k = refl
blank-sized (suc n) zero = refl
blank-sized (suc n) (suc k) = blank-sized n k

pub length-sizes : (table : List Holder) (k : ℕ) (sizes : List ℕ) → length (sizes_over table k sizes) ≡ length sizes
length-sizes table zero sizes = refl
length-sizes table (suc k) sizes = length-set (sizes_over table k sizes) k (size_in table k) ∙ length-sizes table k sizes

-- ALL STEPS, where each one's place is the slot that it is about.
module _ (s steps places : List ℕ) (count : ℕ) (in_steps : count ≤ length steps)
    (found : (i : ℕ) → i < count → get_or places i 0 ≡ tag (placed s steps i)) (good : (i : ℕ) → i ≤ count → SlotsGood row_values (slots_after s steps i)) where
  abbrev holders : ℕ → List Holder
  holders = holders_by s steps places count in_steps found good

  -- THE LAW: every entry has its slot's size.
  pub holders-sized : (i : ℕ) → i ≤ count → (k : ℕ) → size_in (holders i) k ≡ get_or (slots_after s steps i).made k 0
  holders-sized = holders-kept s steps places count in_steps found good Sized sized-given sized-freed (blank-sized largest_values)

  -- so the sizes read from the table are the slots'
  sizes-read : (sizes : List ℕ) → row_values ≤ length sizes → (n : ℕ) → n ≤ length (slots_after s steps count).made
      → take n (sizes_over (holders count) n sizes) ≡ take n (slots_after s steps count).made
  sizes-read sizes room zero le = refl
  sizes-read sizes room (suc n) le =
      let made = (slots_after s steps count).made in
      take-suc-set (sizes_over (holders count) n sizes) n (size_in (holders count) n) (omega (arith, le, room, (good count (omega arith)).few, length-sizes (holders count) n sizes))
      ∙ ap₂ (λ (xs : List ℕ) (x : ℕ). xs ++ (x ∷ [])) (sizes-read sizes room n (omega (arith, le))) (holders-sized count (omega arith) n)
      ∙ sym (take-suc made n 0 le)

  pub sizes-replayed :
      (r : ℕ) → r ≡ length (slots_after s steps count).made → (sizes : List ℕ) → row_values ≤ length sizes
      → take r (sizes_over (holders count) r sizes) ≡ (slots_after s steps count).made
  sizes-replayed r e sizes room =
      let made = (slots_after s steps count).made in
      rw e (sizes-read sizes room (length made) (omega arith) ∙ take-length made)
