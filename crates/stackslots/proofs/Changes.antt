-- What the tables stand for behind each change: a slot made, a freed one taken, one freed.
use Prim.Native.Nat.{ℕ, suc, ◌+◌, ◌-◌, ◌<◌}
use mathlib.Core.Path.{◌≡◌, refl, sym, ap, ap₂, subst, ◌∙◌}
use mathlib.Core.Bool.{not}
use mathlib.Core.Option.{Option, none, some}
use mathlib.Core.List.{List, [], ◌∷◌}
use native.Mathlib.Omega.{arith}
use native.Mathlib.Numerals.{add-one}
use lib.ListN.{length, get_or, set, length-append}
use lib.Seq.{get_or-set_same, get_or-set_other}
use lib.Dec.{T}
use Rattle.rules.specs.Lists.{has, is_none, update, NumberSet}
use Rattle.rules.specs.Records.{slot_sizes}
use Rattle.rules.specs.Slots.{StackSlots, slot_from, give_slot, free_slot}
use Rattle.lists.specs.Tests.{neqb→ne}
use Rattle.lists.specs.Lack.{one, lack-insert}
use Rattle.fixpoint.specs.Finding.{update-elim}
use Rattle.demand3.specs.SlotTables.{SlotsGood, give-good, free-good}
use Rattle.slots.specs.Classes.{index, bytes}
use Rattle.slots.specs.declared.SlotSize.{SlotSize}
use Rattle.rows.specs.Rows.{row_values}
use Rattle.numbering.specs.Beside.{made}
use Rattle.stackslots.specs.Tables.{SlotTables, slot_tables, value_of, Freed, Stands, Room}
use Rattle.stackslots.proofs.Classes.{index-less}
use Rattle.stackslots.proofs.Lists.{freed-kept, slots_kept, freed-none, class-changed}

module _ {steps : List ℕ} {n : ℕ} {p : StackSlots} {t : SlotTables} (h : Stands steps n p t) where
  -- a step that changes nothing
  pub stands_on : Stands steps (suc n) p t
  stands_on =
      record {
        counted = h.counted;
        slots = h.slots;
        free = λ c.
            freed-kept steps t.older t.older t.tags t.tags n (suc n) (omega arith) (λ node l. refl) (λ v slot e. e)
            (get_or t.heads (index c) 0) (p.free (bytes c)) (h.free c);
        good = h.good;
      }

  -- which slot a tag is
  pub tag-none : (v : ℕ) → get_or t.tags v 0 ≡ 0 → p.slot_of v ≡ none
  tag-none v e = sym (h.slots v) ∙ ap made e

  pub tag-some : (v slot : ℕ) → get_or t.tags v 0 ≡ suc slot → p.slot_of v ≡ some slot
  tag-some v slot e = sym (h.slots v) ∙ ap made e

  -- a value that has a slot is given none
  pub given-again : (v size slot : ℕ) → get_or t.tags v 0 ≡ suc slot → give_slot v size p ≡ p
  unfolding give_slot
  given-again v size slot e = ap (λ (o : Option ℕ). slot_from v size o (p.free size) p) (tag-some v slot e)

  -- a value gets a slot
  tagged : (v slot : ℕ) → v < length t.tags → (w : ℕ) → made (get_or (set t.tags v (suc slot)) w 0) ≡ update v (some slot) p.slot_of w
  tagged v slot l w =
      update-elim (λ (o : Option ℕ). made (get_or (set t.tags v (suc slot)) w 0) ≡ o) v (some slot) p.slot_of w
      (λ e. ap made (ap (λ u. get_or (set t.tags v (suc slot)) u 0) e ∙ get_or-set_same t.tags v (suc slot) 0 l))
      (λ other. ap made (get_or-set_other t.tags v w (suc slot) 0 (neqb→ne w v other)) ∙ h.slots w)

  module _ {m : ℕ} (room : Room m t) (v size : ℕ) (low : v < row_values) (fits : T (has size slot_sizes)) (c : SlotSize) (is : bytes c ≡ size) where
    inside : index c < length t.heads
    inside = omega (arith, index-less c, room.heads)

    own : Freed steps n t.older t.tags (get_or t.heads (index c) 0) (p.free size)
    own = subst (λ k. Freed steps n t.older t.tags (get_or t.heads (index c) 0) (p.free k)) is (h.free c)

    module _ (bare : get_or t.tags v 0 ≡ 0) where
      no_slot : p.slot_of v ≡ none
      no_slot = tag-none v bare

      -- a slot is left to be made
      pub one_left : t.made < row_values
      one_left =
          let has-slot : NumberSet = λ u. not (is_none (p.slot_of u)) in
          let lacking = lack-insert one row_values has-slot v low (subst (λ (o : Option ℕ). T (not (not (is_none o)))) (sym no_slot) tt) in
          omega (arith, h.counted, h.good.few, lacking)

      -- what is on another list stays there
      others : (slot : ℕ) (c : SlotSize) → Freed steps n t.older (set t.tags v (suc slot)) (get_or t.heads (index c) 0) (p.free (bytes c))
      others slot c =
          freed-kept steps t.older t.older t.tags (set t.tags v (suc slot)) n n (omega arith) (λ node l. refl)
          (slots_kept t.tags v (suc slot) bare) (get_or t.heads (index c) 0) (p.free (bytes c)) (h.free c)

      -- NO SLOT OF THE SIZE IS FREE: a new one.
      pub stands-made :
          get_or t.heads (index c) 0 ≡ 0
          → Stands steps n (give_slot v size p) (slot_tables t.heads t.older (set t.tags v (t.made + 1)) (t.made + 1))
      unfolding give_slot
      stands-made e =
          let none_free : p.free size ≡ [] = freed-none steps n t.older t.tags (get_or t.heads (index c) 0) (p.free size) own e in
          let new : give_slot v size p ≡ slot_from v size none [] p = ap₂ (λ (o : Option ℕ) (l : List ℕ). slot_from v size o l p) no_slot none_free in
          rw (add-one t.made, new)
          (record {
            counted = omega (arith, h.counted, length-append p.made (size ∷ []));
            slots = rw h.counted (tagged v (length p.made) (omega (arith, low, room.tags)));
            free = others t.made;
            good = subst (SlotsGood row_values) new (give-good row_values v size p fits low h.good);
          })

      -- ONE IS: the last freed.
      pub stands-taken :
          0 < get_or t.heads (index c) 0
          → Stands steps n (give_slot v size p)
          (slot_tables (set t.heads (index c) (get_or t.older (get_or t.heads (index c) 0 - 1) 0)) t.older
          (set t.tags v (get_or t.tags (value_of steps (get_or t.heads (index c) 0 - 1)) 0)) t.made)
      unfolding give_slot
      stands-taken some-free = go (p.free size) refl own
        where
          go : (l : List ℕ) → p.free size ≡ l → Freed steps n t.older t.tags (get_or t.heads (index c) 0) l
              → Stands steps n (give_slot v size p)
              (slot_tables (set t.heads (index c) (get_or t.older (get_or t.heads (index c) 0 - 1) 0)) t.older
              (set t.tags v (get_or t.tags (value_of steps (get_or t.heads (index c) 0 - 1)) 0)) t.made)
          go [] e l = absurd (omega (arith, some-free, l))
          go (slot ∷ rest) e l =
              let node : get_or t.heads (index c) 0 - 1 ≡ l.0 = omega (arith, l.1) in
              let new : give_slot v size p ≡ slot_from v size none (slot ∷ rest) p = ap₂ (λ (o : Option ℕ) (l : List ℕ). slot_from v size o l p) no_slot e in
              let changed =
              class-changed steps n t.older (set t.tags v (suc slot)) t.heads p.free c (get_or t.older l.0 0) rest inside
              (freed-kept steps t.older t.older t.tags (set t.tags v (suc slot)) n n (omega arith) (λ node l. refl)
              (slots_kept t.tags v (suc slot) bare) (get_or t.older l.0 0) rest l.4)
              (others slot) in
              rw (node, l.3, new)
              (record {
                counted = h.counted;
                slots = tagged v slot (omega (arith, low, room.tags));
                free =
                    subst (λ k. (d : SlotSize) → Freed steps n t.older (set t.tags v (suc slot))
                    (get_or (set t.heads (index c) (get_or t.older l.0 0)) (index d) 0) (update k rest p.free (bytes d))) is changed;
                good = subst (SlotsGood row_values) new (give-good row_values v size p fits low h.good);
              })

    -- A SLOT IS FREED.
    pub stands-freed :
        (slot : ℕ) → n < length t.older → value_of steps n ≡ v → get_or t.tags v 0 ≡ suc slot
        → Stands steps (suc n) (free_slot slot size p)
        (slot_tables (set t.heads (index c) (n + 1)) (set t.older n (get_or t.heads (index c) 0)) t.tags t.made)
    unfolding free_slot
    stands-freed slot l names e =
        let last = get_or t.heads (index c) 0 in
        let kept : (tag : ℕ) (xs : List ℕ) → Freed steps n t.older t.tags tag xs → Freed steps (suc n) (set t.older n last) t.tags tag xs =
        freed-kept steps t.older (set t.older n last) t.tags t.tags n (suc n) (omega arith)
        (λ node less. get_or-set_other t.older n node last 0 (λ same. omega (arith, less))) (λ v slot e. e) in
        let first : Freed steps (suc n) (set t.older n last) t.tags (suc n) (slot ∷ p.free size) = (
          n,
          refl,
          omega arith,
          rw names e,
          subst (λ k. Freed steps (suc n) (set t.older n last) t.tags k (p.free size)) (sym (get_or-set_same t.older n last 0 l)) (kept last (p.free size) own),
        ) in
        let changed =
        class-changed steps (suc n) (set t.older n last) t.tags t.heads p.free c (suc n) (slot ∷ p.free size) inside first
        (λ d. kept (get_or t.heads (index d) 0) (p.free (bytes d)) (h.free d)) in
        rw (add-one n)
        (record {
          counted = h.counted;
          slots = h.slots;
          free =
              subst (λ k. (d : SlotSize) → Freed steps (suc n) (set t.older n last) t.tags (get_or (set t.heads (index c) (suc n)) (index d) 0)
              (update k (slot ∷ p.free size) p.free (bytes d))) is changed;
          good = free-good row_values v slot size p (tag-some v slot e) h.good;
        })
