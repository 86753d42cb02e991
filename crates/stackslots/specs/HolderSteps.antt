-- THE TABLE OF HOLDERS AFTER THE NOTED STEPS, where each step's place is the slot that it is about: what one step keeps
-- holds after all of them, of the table and of the slots together.
use Prim.Native.Nat.{ℕ, zero, suc, ◌/◌, ◌%◌, ◌<◌, ◌≤◌}
use Rattle.std.specs.Prelude.{◌≡◌, Bool, true, false, cond, List, length, get_or, set, replicate, T, eqb}
use Rattle.std.proofs.Math.Path.{refl}
use Rattle.std.proofs.Common.{sym, ap, subst, ◌∙◌, arith}
use Rattle.std.proofs.Math.Option.{Option, none, some}
use Rattle.std.proofs.lemmas.List.{length-replicate}
use Rattle.rules.specs.Limits.{largest_values}
use Rattle.rules.specs.Lists.{has}
use Rattle.rules.specs.Records.{slot_sizes, records}
use Rattle.rules.specs.File.{function_in, ordered}
use Rattle.rules.specs.Graph.{size_of}
use Rattle.rules.specs.Slots.{StackSlots, no_slots, give_slot}
use Rattle.lists.specs.Members.{get_d-∈}
use Rattle.sharing.specs.SlotSteps.{gives, frees, free_own, taken}
use Rattle.demand3.specs.SlotTables.{SlotsGood}
use Rattle.rows.specs.Rows.{row_values}
use Rattle.numbering.specs.Beside.{tag}
use Rattle.planning.specs.Standing.{noted, slots_by}
use Rattle.holders.specs.declared.Holder.{Holder}
use Rattle.holders.specs.declared.Change.TheVariants as change
use Rattle.holders.specs.Table.{nobody, taken_by, given_back, changed, change_of, holders_after, Replayable}
use Rattle.holders.specs.Replays.{length-after}
use Rattle.stackslots.specs.Tables.{value_of, new_slot, slots_after, placed}
use Rattle.stackslots.specs.Stepping.{slots_next}

-- the slot that giving value v one gives it, none where it has one
abbrev pub slot_given : ℕ → ℕ → StackSlots → Option ℕ
slot_given v size p = new_slot (p.slot_of v) ((give_slot v size p).slot_of v)

-- step i, and the size of its value
abbrev pub step_at : List ℕ → ℕ → ℕ
step_at steps i = get_or steps i 0

abbrev pub size_at : (s steps : List ℕ) → ℕ → ℕ
size_at s steps i = size_of (function_in s) (step_at steps i / 2)

-- A STEP AT A SLOT takes it or gives it back.
pub changed-at :
    (step slot size : ℕ) (table : List Holder)
    → changed (change_of step (suc slot) size) table
    ≡ cond (eqb (step % 2) 0) (set table slot (taken_by (get_or table slot nobody) (step / 2) size)) (set table slot (given_back (get_or table slot nobody)))
changed-at step slot size table = go (eqb (step % 2) 0)
  where
    go : (even : Bool) → changed (cond even (change.Takes slot (step / 2) size) (change.Gives slot (step / 2) size)) table
        ≡ cond even (set table slot (taken_by (get_or table slot nobody) (step / 2) size)) (set table slot (given_back (get_or table slot nobody)))
    go true = refl
    go false = refl

-- so an even one takes it, and an odd one gives it back
module _ (step slot size : ℕ) (table : List Holder) where
  abbrev entry : Holder
  entry = get_or table slot nobody

  pub changed-even : eqb (step % 2) 0 ≡ true → changed (change_of step (suc slot) size) table ≡ set table slot (taken_by entry (step / 2) size)
  changed-even even =
      changed-at step slot size table ∙ ap (λ (t : Bool). cond t (set table slot (taken_by entry (step / 2) size)) (set table slot (given_back entry))) even

  pub changed-odd : eqb (step % 2) 0 ≡ false → changed (change_of step (suc slot) size) table ≡ set table slot (given_back entry)
  changed-odd odd =
      changed-at step slot size table ∙ ap (λ (t : Bool). cond t (set table slot (taken_by entry (step / 2) size)) (set table slot (given_back entry))) odd

module _ {p : StackSlots} (good : SlotsGood row_values p) where
  -- a slot that is made has a size, and an entry
  pub made-size : (slot : ℕ) → slot < length p.made → get_or p.made slot 0 ≡ 0 → ⊥
  made-size slot l e = subst (λ n. T (has n slot_sizes)) e (good.sizes (get_or p.made slot 0) (get_d-∈ p.made slot 0 l))

  pub made-low : (slot : ℕ) → slot < length p.made → slot < row_values
  made-low slot l = omega (arith, good.few, l)

  slot-low : (o : Option ℕ) {v : ℕ} → p.slot_of v ≡ o → tag o ≤ row_values
  slot-low none e = omega arith
  slot-low (some slot) {v} e = made-low slot (good.given v slot e)

-- WHAT A STEP KEEPS.
module _ (Kept : List Holder → StackSlots → Type 0) where
  -- giving a value a slot keeps it: none where it has one, the one last freed of its size, else a new one
  abbrev pub KeptGiving : Type 0
  KeptGiving =
      (table : List Holder) → length table ≡ row_values → (step size : ℕ) (p : StackSlots) → SlotsGood row_values p → Kept table p
      → eqb (step % 2) 0 ≡ true → SlotsGood row_values (give_slot (step / 2) size p)
      → Kept (changed (change_of step (tag (slot_given (step / 2) size p)) size) table) (give_slot (step / 2) size p)

  -- and so does freeing its slot, if it has one
  abbrev pub KeptFreeing : Type 0
  KeptFreeing =
      (table : List Holder) → length table ≡ row_values → (step size : ℕ) (p : StackSlots) → SlotsGood row_values p → Kept table p
      → eqb (step % 2) 0 ≡ false → Kept (changed (change_of step (tag (p.slot_of (step / 2))) size) table) (free_own size (p.slot_of (step / 2)) p)

-- ALL STEPS, where each one's place is the slot that it is about.
module _ (s steps places : List ℕ) (count : ℕ) (in_steps : count ≤ length steps)
    (found : (i : ℕ) → i < count → get_or places i 0 ≡ tag (placed s steps i)) (good : (i : ℕ) → i ≤ count → SlotsGood row_values (slots_after s steps i)) where
  abbrev pub holders_by : ℕ → List Holder
  holders_by i = holders_after s steps places i (replicate largest_values nobody)

  pub holders-long : (i : ℕ) → length (holders_by i) ≡ row_values
  holders-long i = length-after s steps places i (replicate largest_values nobody) ∙ length-replicate largest_values nobody

  module _ (i : ℕ) (le : suc i ≤ count) where
    abbrev step : ℕ
    step = step_at steps i

    abbrev size : ℕ
    size = size_at s steps i

    abbrev before : StackSlots
    before = slots_after s steps i

    next : slots_after s steps (suc i) ≡ taken (size_of (function_in s)) (cond (eqb (step % 2) 0) (gives (step / 2)) (frees (step / 2))) before
    next = slots_next (function_in s) steps i (omega (arith, le, in_steps))

    -- what an even step leaves, and where it is,
    pub slots-given : eqb (step % 2) 0 ≡ true → slots_after s steps (suc i) ≡ give_slot (step / 2) size before
    slots-given even = next ∙ ap (λ (t : Bool). taken (size_of (function_in s)) (cond t (gives (step / 2)) (frees (step / 2))) before) even

    pub place-given : eqb (step % 2) 0 ≡ true → get_or places i 0 ≡ tag (slot_given (step / 2) size before)
    place-given even =
        let v = step / 2 in
        found i le
        ∙ ap (λ (t : Bool). tag (cond t (new_slot (before.slot_of v) ((slots_after s steps (suc i)).slot_of v)) (before.slot_of v))) even
        ∙ ap (λ (p : StackSlots). tag (new_slot (before.slot_of v) (p.slot_of v))) (slots-given even)

    -- and an odd one
    pub slots-freed : eqb (step % 2) 0 ≡ false → slots_after s steps (suc i) ≡ free_own size (before.slot_of (step / 2)) before
    slots-freed odd = next ∙ ap (λ (t : Bool). taken (size_of (function_in s)) (cond t (gives (step / 2)) (frees (step / 2))) before) odd

    pub place-freed : eqb (step % 2) 0 ≡ false → get_or places i 0 ≡ tag (before.slot_of (step / 2))
    place-freed odd =
        let v = step / 2 in
        found i le ∙ ap (λ (t : Bool). tag (cond t (new_slot (before.slot_of v) ((slots_after s steps (suc i)).slot_of v)) (before.slot_of v))) odd

  module _ (Kept : List Holder → StackSlots → Type 0) (giving : KeptGiving Kept) (freeing : KeptFreeing Kept) where
    -- a step at a place and with slots behind it that are told otherwise
    told : (i place : ℕ) (behind : StackSlots) → get_or places i 0 ≡ place → slots_after s steps (suc i) ≡ behind
        → Kept (changed (change_of (step_at steps i) place (size_at s steps i)) (holders_by i)) behind → Kept (holders_by (suc i)) (slots_after s steps (suc i))
    told i place behind e b is =
        subst (λ (p : StackSlots). Kept (holders_by (suc i)) p) (sym b) (subst (λ k. Kept (changed (change_of (step_at steps i) k (size_at s steps i)) (holders_by i)) behind) (sym e) is)

    one_more : (i : ℕ) → suc i ≤ count → Kept (holders_by i) (slots_after s steps i) → (even : Bool) → eqb (step_at steps i % 2) 0 ≡ even → Kept (holders_by (suc i)) (slots_after s steps (suc i))
    one_more i le h true even =
        told i (tag (slot_given (step_at steps i / 2) (size_at s steps i) (slots_after s steps i))) (give_slot (step_at steps i / 2) (size_at s steps i) (slots_after s steps i)) (place-given i le even) (slots-given i le even)
        (giving (holders_by i) (holders-long i) (step_at steps i) (size_at s steps i) (slots_after s steps i) (good i (omega (arith, le))) h even (subst (SlotsGood row_values) (slots-given i le even) (good (suc i) le)))
    one_more i le h false odd =
        told i (tag ((slots_after s steps i).slot_of (step_at steps i / 2))) (free_own (size_at s steps i) ((slots_after s steps i).slot_of (step_at steps i / 2)) (slots_after s steps i)) (place-freed i le odd) (slots-freed i le odd)
        (freeing (holders_by i) (holders-long i) (step_at steps i) (size_at s steps i) (slots_after s steps i) (good i (omega (arith, le))) h odd)

    -- THE LAW: what holds before the first step and is kept holds after each.
    pub holders-kept : Kept (replicate largest_values nobody) no_slots → (i : ℕ) → i ≤ count → Kept (holders_by i) (slots_after s steps i)
    unfolding slots_by noted
    holders-kept blank zero le = blank
    holders-kept blank (suc i) le = one_more i le (holders-kept blank i (omega (arith, le))) (eqb (step_at steps i % 2) 0) refl

  -- the steps reach only entries that the table has
  place-low : (i : ℕ) → i < count → tag (placed s steps i) ≤ row_values
  place-low i l =
      let v = value_of steps i in
      go (eqb (get_or steps i 0 % 2) 0) ((slots_after s steps i).slot_of v) ((slots_after s steps (suc i)).slot_of v)
      (slot-low (good i (omega (arith, l))) ((slots_after s steps i).slot_of v) {v = v} refl)
      (slot-low (good (suc i) l) ((slots_after s steps (suc i)).slot_of v) {v = v} refl)
    where
      go : (even : Bool) (a b : Option ℕ) → tag a ≤ row_values → tag b ≤ row_values → tag (cond even (new_slot a b) a) ≤ row_values
      go true none b la lb = lb
      go true (some x) b la lb = omega arith
      go false a b la lb = la

  pub replayable : ordered 0 (records s) ≡ true → count ≤ length places → Replayable s steps places count (replicate largest_values nobody)
  replayable order in_places =
      record {
        in_order = order;
        in_steps = in_steps;
        in_places = in_places;
        reached = λ i l. rw (found i l, length-replicate largest_values nobody) (place-low i l);
      }
