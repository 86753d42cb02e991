-- One step of the replay: from what the tables stand for before it to what they stand for behind it.
use Prim.Native.Nat.{ℕ, suc, ◌+◌, ◌-◌, ◌%◌, ◌<◌, ◌≤◌}
use mathlib.Core.Path.{◌≡◌, refl, sym, ap, subst, ◌∙◌}
use mathlib.Core.Bool.{cond}
use mathlib.Core.Option.{Option, some}
use mathlib.Core.List.{List, [], ◌∷◌}
use native.Mathlib.Omega.{arith}
use lib.ListN.{length, get_or, set, length-set}
use lib.Dec.{T, eqb}
use Rattle.rules.specs.Lists.{has, is_none}
use Rattle.rules.specs.Tree.{Function}
use Rattle.rules.specs.Records.{slot_sizes, log2}
use Rattle.rules.specs.File.{function_in}
use Rattle.rules.specs.Graph.{size_of}
use Rattle.rules.specs.Slots.{StackSlots, give_slot}
use Rattle.lists.specs.Members.{here}
use Rattle.sharing.specs.SlotSteps.{gives, frees, free_own, taken}
use Rattle.sharing.specs.Holding.{HasSlot, replayed-keeps, replayed-has}
use Rattle.slots.specs.Classes.{index, bytes}
use Rattle.slots.specs.declared.SlotSize.{SlotSize}
use Rattle.rows.specs.Rows.{row_values}
use Rattle.stackslots.specs.Tables.{SlotTables, slot_tables, value_of, SameLong, slots_after, Turn, Turned}
use Rattle.stackslots.specs.Stepping.{slots_next}
use Rattle.stackslots.proofs.Classes.{index-less, class-number}
use Rattle.stackslots.proofs.Lists.{freed-bound}
use Rattle.stackslots.proofs.Changes.{stands_on, tag-none, tag-some, given-again, one_left, stands-made, stands-taken, stands-freed}

-- a tag that is not 0 is a slot's
tag-of-slot : (n : ℕ) → 0 < n → n ≡ suc (n - 1)
tag-of-slot n l = omega arith

module _ (s steps : List ℕ) (i : ℕ) (t : SlotTables) (h : Turn s steps i t) where
  abbrev f : Function
  f = function_in s

  abbrev v : ℕ
  v = value_of steps i

  abbrev before : StackSlots
  before = slots_after s steps i

  abbrev tag : ℕ
  tag = get_or t.tags v 0

  abbrev Fits : Type 0
  Fits = (v < row_values) × T (has (size_of f v) slot_sizes)

  same-long : SameLong t t
  same-long = record { heads = refl; older = refl; tags = refl }

  -- a value that has a slot then fits
  has-fits : (slot : ℕ) → HasSlot (slots_after s steps (suc i)) v slot → Fits
  has-fits slot e = h.fitting v (ap is_none e)

  -- A SLOT GIVEN
  module _ (even : get_or steps i 0 % 2 ≡ 0) where
    give-next : slots_after s steps (suc i) ≡ give_slot v (size_of f v) before
    give-next =
        slots_next f steps i h.in_steps
        ∙ ap (λ k. taken (size_of f) (cond (eqb k 0) (gives v) (frees v)) before) even

    pub give-fits : Fits
    give-fits =
        let given = replayed-has (size_of f) {ss = gives v ∷ []} {u = v} before (here refl) in
        has-fits given.0 (subst (λ (p : StackSlots). HasSlot p v given.0) (sym give-next) given.1)

    -- to a value that has one
    pub turned-again : 0 < tag → Turned s steps i t t
    turned-again l =
        let same = given-again h.stands v (size_of f v) (tag - 1) (tag-of-slot tag l) in
        record { stands = rw (give-next ∙ same) (stands_on h.stands); long = same-long }

    module _ (bare : tag ≡ 0) (size class : ℕ) (sized : size ≡ size_of f v) (number : class ≡ log2 size) where
      given-class : (c : SlotSize) × (bytes c ≡ size_of f v) × (class ≡ index c)
      given-class = class-number (size_of f v) give-fits.1 class (number ∙ ap log2 sized)

      -- a new one
      pub make-room : (v < length t.tags) × (t.made < row_values)
      make-room =
          let left = one_left h.stands h.room v (size_of f v) give-fits.0 give-fits.1 given-class.0 given-class.1 bare in
          (omega (arith, give-fits.0, h.room.tags), left)

      pub turned-made :
          get_or t.heads class 0 ≡ 0 → (t' : SlotTables) → t' ≡ slot_tables t.heads t.older (set t.tags v (t.made + 1)) (t.made + 1) → Turned s steps i t t'
      turned-made empty t' e =
          let none_free : get_or t.heads (index given-class.0) 0 ≡ 0 = ap (λ k. get_or t.heads k 0) (sym given-class.2) ∙ empty in
          rw e
          (record {
            stands = rw give-next (stands_on (stands-made h.stands h.room v (size_of f v) give-fits.0 give-fits.1 given-class.0 given-class.1 bare none_free));
            long = record { heads = refl; older = refl; tags = length-set t.tags v _ };
          })

      -- the one last freed
      module _ (some-free : 0 < get_or t.heads class 0) where
        pub take-room :
            (class < length t.heads) × (0 < get_or t.heads class 0) × (get_or t.heads class 0 ≤ length t.older)
            × (get_or t.heads class 0 ≤ length steps) × (v < length t.tags)
        take-room =
            let bound : get_or t.heads class 0 ≤ i =
            rw given-class.2 (freed-bound steps i t.older t.tags (get_or t.heads (index given-class.0) 0) (before.free (bytes given-class.0)) (h.stands.free given-class.0)) in (
              omega (arith, given-class.2, index-less given-class.0, h.room.heads),
              some-free,
              omega (arith, bound, h.room.older),
              omega (arith, bound, h.in_steps),
              omega (arith, give-fits.0, h.room.tags),
            )

        pub turned_taken :
            (t' : SlotTables)
            → t'
            ≡ slot_tables (set t.heads class (get_or t.older (get_or t.heads class 0 - 1) 0)) t.older
            (set t.tags v (get_or t.tags (value_of steps (get_or t.heads class 0 - 1)) 0)) t.made
            → Turned s steps i t t'
        turned_taken t' e =
            let first : 0 < get_or t.heads (index given-class.0) 0 = subst (λ k. 0 < get_or t.heads k 0) given-class.2 some-free in
            rw (e, given-class.2)
            (record {
              stands = rw give-next (stands_on (stands-taken h.stands h.room v (size_of f v) give-fits.0 give-fits.1 given-class.0 given-class.1 bare first));
              long = record { heads = length-set t.heads (index given-class.0) _; older = refl; tags = length-set t.tags v _ };
            })

  -- A SLOT FREED
  module _ (odd : get_or steps i 0 % 2 ≡ 1) where
    free-next : slots_after s steps (suc i) ≡ free_own (size_of f v) (before.slot_of v) before
    free-next =
        slots_next f steps i h.in_steps
        ∙ ap (λ k. taken (size_of f) (cond (eqb k 0) (gives v) (frees v)) before) odd

    -- of a value that has none
    pub turned-bare : tag ≡ 0 → Turned s steps i t t
    turned-bare bare =
        let same = free-next ∙ ap (λ (o : Option ℕ). free_own (size_of f v) o before) (tag-none h.stands v bare) in
        record { stands = rw same (stands_on h.stands); long = same-long }

    module _ (tagged : 0 < tag) where
      slot-there : before.slot_of v ≡ some (tag - 1)
      slot-there = tag-some h.stands v (tag - 1) (tag-of-slot tag tagged)

      pub free-fits : Fits
      free-fits =
          let kept = replayed-keeps (size_of f) (frees v ∷ []) before {u = v} {s = tag - 1} slot-there in
          has-fits (tag - 1) (subst (λ (p : StackSlots). HasSlot p v (tag - 1)) (sym free-next) kept)

      module _ (size class : ℕ) (sized : size ≡ size_of f v) (number : class ≡ log2 size) where
        freed-class : (c : SlotSize) × (bytes c ≡ size_of f v) × (class ≡ index c)
        freed-class = class-number (size_of f v) free-fits.1 class (number ∙ ap log2 sized)

        pub turned-freed :
            (t' : SlotTables) → t' ≡ slot_tables (set t.heads class (i + 1)) (set t.older i (get_or t.heads class 0)) t.tags t.made → Turned s steps i t t'
        turned-freed t' e =
            let same = free-next ∙ ap (λ (o : Option ℕ). free_own (size_of f v) o before) slot-there in
            rw (e, freed-class.2)
            (record {
              stands =
                  rw same
                  (stands-freed h.stands h.room v (size_of f v) free-fits.0 free-fits.1 freed-class.0 freed-class.1 (tag - 1)
                  (omega (arith, h.room.older)) refl (tag-of-slot tag tagged));
              long = record { heads = length-set t.heads (index freed-class.0) _; older = length-set t.older i _; tags = refl };
            })
