-- What planning leaves to be replayed: only spilled values have slots, so where no refusal 9 applies their sizes are ones
-- that a slot can have.
use Rattle.std.specs.Prelude.{ℕ, ◌<◌, ◌≤◌, ◌≡◌, false, not, List, [], ◌∷◌, length, T}
use Rattle.std.proofs.Common.{sym, subst, arith}
use Rattle.std.proofs.Math.Option.{Option, none, some}
use Rattle.rules.specs.Lists.{is_none, has, update}
use Rattle.rules.specs.Tree.{Function}
use Rattle.rules.specs.Records.{slot_sizes}
use Rattle.rules.specs.Graph.{size_of}
use Rattle.rules.specs.Liveness.{is_spilled}
use Rattle.rules.specs.Slots.{StackSlots, slot_from, give_slot, free_slot}
use Rattle.rules.specs.Plan.{planned}
use Rattle.rules.specs.Refusals.{numbers_in_file, spilled_size}
use Rattle.lists.specs.Tests.{test-elim}
use Rattle.walks.specs.InFile.{reachable-in-file}
use Rattle.fixpoint.specs.Finding.{any-intro, ∈-keep, ∈-up_from, update-elim}
use Rattle.fixpoint.specs.Rule.{marked-in-file}
use Rattle.sharing.specs.Spilled.{spilled-marked}
use Rattle.agreement.specs.Spilled.{listed-spilled}
use Rattle.agreement.specs.Growing.{StepsKeep, planned-costs}
use Rattle.rows.specs.Rows.{row_values}
use Rattle.planning.specs.Standing.{slots_by}
use Rattle.stackslots.specs.Tables.{Fitting}

-- every value that has a slot is so
abbrev Slotted : (ℕ → Type 0) → StackSlots → Type 0
Slotted Is p = (v : ℕ) → is_none (p.slot_of v) ≡ false → Is v

-- giving a slot to one that is so keeps it
give-slotted : (Is : ℕ → Type 0) (v size : ℕ) (p : StackSlots) → Is v → Slotted Is p → Slotted Is (give_slot v size p)
unfolding give_slot
give-slotted Is v size p is all u = go (p.slot_of v) (p.free size)
  where
    one : (slot : ℕ) → is_none (update v (some slot) p.slot_of u) ≡ false → Is u
    one slot = update-elim (λ (o : Option ℕ). is_none o ≡ false → Is u) v (some slot) p.slot_of u (λ e _. subst Is (sym e) is) (λ _. all u)

    go : (o : Option ℕ) (l : List ℕ) → is_none ((slot_from v size o l p).slot_of u) ≡ false → Is u
    go (some _) l = all u
    go none (slot ∷ rest) = one slot
    go none [] = one (length p.made)

module _ (f : Function) where
  abbrev Spilled : ℕ → Type 0
  Spilled v = T (is_spilled f v)

  -- ONLY SPILLED VALUES HAVE SLOTS.
  spilled-kept : (pointer : ℕ) → StepsKeep f pointer (λ _. Unit) Spilled (λ p. Slotted Spilled p.slots)
  unfolding free_slot
  spilled-kept pointer =
      record {
        value = λ size fine p all. all;
        block = λ p all. all;
        slot = λ v is p all. give-slotted Spilled v (size_of f v) p.slots is all;
        free = λ v slot p e all. all;
        pointer-fine = tt;
        spilled-fine = λ v is. tt;
        spilled-given = λ v is. is;
        parameter-fine = λ b v m. tt;
      }

  module _ (in-file : T (numbers_in_file f)) (some_block : 0 < length f.blocks) where
    pub planned-spilled : (pointer v : ℕ) → is_none ((planned f pointer).1.slots.slot_of v) ≡ false → T (is_spilled f v)
    planned-spilled pointer =
        (planned-costs f pointer (λ _. Unit) Spilled (λ p. Slotted Spilled p.slots) (spilled-kept pointer)
        (λ b m x k v q. listed-spilled f b (reachable-in-file f in-file some_block m) x k v q)).good (λ v e. absurd (subst T e tt))

    -- a spilled value is one of the file's, and its size is a slot's where refusal 9 does not apply
    spilled-inside : (v : ℕ) → T (is_spilled f v) → v < length f.values
    spilled-inside v t = marked-in-file f v (spilled-marked f v t)

    spilled-sized : spilled_size f ≡ false → (v : ℕ) → T (is_spilled f v) → T (has (size_of f v) slot_sizes)
    spilled-sized none_other v t =
        test-elim (has (size_of f v) slot_sizes) (λ h. h)
        (λ h.
        absurd (subst T none_other
        (any-intro (λ w. not (has (size_of f w) slot_sizes))
        (∈-keep (is_spilled f) (∈-up_from 0 (length f.values) v (omega arith) (omega (arith, spilled-inside v t))) t) h)))

    -- THE LAW, for whoever replays planning's steps.
    pub planned-fitting :
        (pointer : ℕ) (steps : List ℕ) (count : ℕ) → slots_by f steps count ≡ (planned f pointer).1.slots → spilled_size f ≡ false
        → length f.values ≤ row_values → Fitting f (slots_by f steps count)
    planned-fitting pointer steps count same sized few v h =
        let t = planned-spilled pointer v (subst (λ (p : StackSlots). is_none (p.slot_of v) ≡ false) same h) in
        (omega (arith, spilled-inside v t, few), spilled-sized sized v t)
