-- All steps of the replay: the tables stand for no slots at the start, and a value that has a slot keeps it to the end.
use Prim.Native.Nat.{ℕ, zero, suc, ◌+◌, ◌-◌, ◌%◌, ◌<◌, ◌≤◌}
use mathlib.Core.Path.{◌≡◌, refl, sym, ap, ap₂, subst, ◌∙◌}
use mathlib.Core.Bool.{Bool, true, false, cond}
use mathlib.Core.Option.{Option, none, some}
use mathlib.Core.List.{List, ◌++◌, map}
use native.Mathlib.Omega.{arith}
use borrow.Author.Tests.{ne_eqb}
use lib.ListN.{length, get_or, set, take, drop, length-set}
use lib.Seq.{take-add, get_or-set_same, get_or-set_other}
use lib.Dec.{T, eqb, eqb→eq}
use Rattle.rules.specs.Lists.{has, is_none}
use Rattle.rules.specs.Tree.{Function}
use Rattle.rules.specs.Records.{slot_sizes}
use Rattle.rules.specs.File.{function_in}
use Rattle.rules.specs.Graph.{size_of}
use Rattle.rules.specs.Slots.{StackSlots, no_slots}
use Rattle.lists.specs.Maps.{map-append}
use Rattle.lists.specs.Tests.{test-elim, neqb→ne}
use Rattle.sharing.specs.SlotSteps.{SlotStep, replayed, replayed-append}
use Rattle.sharing.specs.Holding.{HasSlot, replayed-keeps}
use Rattle.demand3.specs.SlotTables.{SlotsGood, none-good}
use Rattle.slots.specs.Classes.{index}
use Rattle.graph.specs.Zeros.{zeros-at}
use Rattle.rows.specs.Rows.{row_values}
use Rattle.numbering.specs.Beside.{made, tag}
use Rattle.planning.specs.Standing.{step_of, noted, slots_by}
use Rattle.stackslots.specs.Tables.{SlotTables, slot_tables, value_of, place_number, new_slot, Stands, Fitting, SameLong, slots_after, placed, Turn, Turned, Lent, PlacesFound}

-- A VALUE KEEPS ITS SLOT
noted-add : (steps : List ℕ) (i k : ℕ) → noted steps (i + k) ≡ noted steps i ++ map step_of (take k (drop i steps))
unfolding noted
noted-add steps i k = rw (take-add i k steps) (map-append step_of (take i steps) (take k (drop i steps)))

slot_kept : (f : Function) (steps : List ℕ) (i k v slot : ℕ) → HasSlot (slots_by f steps i) v slot → HasSlot (slots_by f steps (i + k)) v slot
unfolding slots_by
slot_kept f steps i k v slot e =
    let rest = map step_of (take k (drop i steps)) in
    let later : slots_by f steps (i + k) ≡ replayed (size_of f) rest (slots_by f steps i) =
    ap (λ (ss : List SlotStep). replayed (size_of f) ss no_slots) (noted-add steps i k) ∙ replayed-append (size_of f) (noted steps i) rest no_slots in
    subst (λ (p : StackSlots). HasSlot p v slot) (sym later) (replayed-keeps (size_of f) rest (slots_by f steps i) e)

-- so what fits in the end fits before
fitting-before : (f : Function) (steps : List ℕ) (i count : ℕ) → i ≤ count → Fitting f (slots_by f steps count) → Fitting f (slots_by f steps i)
fitting-before f steps i count le fits v h = go ((slots_by f steps i).slot_of v) refl h
  where
    go : (o : Option ℕ) → (slots_by f steps i).slot_of v ≡ o → is_none o ≡ false → (v < row_values) × T (has (size_of f v) slot_sizes)
    go none e h = absurd (subst T h tt)
    go (some slot) e h =
        let all : i + (count - i) ≡ count = omega arith in
        fits v (ap is_none (subst (λ n. HasSlot (slots_by f steps n) v slot) all (slot_kept f steps i (count - i) v slot e)))

long-then : {t u w : SlotTables} → SameLong t u → SameLong u w → SameLong t w
long-then a b = record { heads = b.heads ∙ a.heads; older = b.older ∙ a.older; tags = b.tags ∙ a.tags }

-- what a step's number is, where the tags before it and behind it are known
place-number : (step before after : ℕ) → place_number step before after ≡ tag (cond (eqb (step % 2) 0) (new_slot (made before) (made after)) (made before))
place-number step before after = go (eqb (step % 2) 0) before after
  where
    tag-made : (n : ℕ) → n ≡ tag (made n)
    tag-made zero = refl
    tag-made (suc n) = refl

    go : (even : Bool) (x y : ℕ) → cond even (cond (eqb x 0) y 0) x ≡ tag (cond even (new_slot (made x) (made y)) (made x))
    go true zero y = tag-made y
    go true (suc x) y = ap (λ (t : Bool). cond t y 0) (ne_eqb (suc x) 0 (λ e. omega (arith, e)))
    go false x y = tag-made x

module _ (s steps : List ℕ) (count : ℕ) (heads older tags places : List ℕ) where
  abbrev start : SlotTables
  start = slot_tables heads older tags 0

  -- what is kept: the tables stand for the slots after i steps, and the places of these are noted
  pub record Going (i : ℕ) (t : SlotTables) (noted : List ℕ) : Type 0 where
    pub within : i ≤ count
    pub stands : Stands steps i (slots_after s steps i) t
    pub good : (j : ℕ) → j ≤ i → SlotsGood row_values (slots_after s steps j)
    pub found : (j : ℕ) → j < i → get_or noted j 0 ≡ tag (placed s steps j)
    pub long : SameLong start t
    pub places_long : length noted ≡ length places

  module _ (lent : Lent s steps count heads older tags) (room : count ≤ length places) where
    pub going_start : Going 0 start places
    unfolding slots_by noted
    going_start =
        record {
          within = omega arith;
          stands =
              record {
                counted = refl;
                slots = λ v. ap made (zeros-at lent.empty_tags v);
                free = λ c. zeros-at lent.empty_heads (index c);
                good = none-good row_values;
              };
          good = λ j l. let none : j ≡ 0 = omega (arith, l) in rw none (none-good row_values);
          found = λ j l. absurd (omega (arith, l));
          long = record { heads = refl; older = refl; tags = refl };
          places_long = refl;
        }

    module _ (i : ℕ) (t : SlotTables) (noted : List ℕ) (h : Going i t noted) where
      pub going-turn : i < count → Turn s steps i t
      going-turn l =
          record {
            in_order = lent.in_order;
            in_steps = omega (arith, l, lent.in_steps);
            stands = h.stands;
            room =
                record {
                  heads = omega (arith, lent.room.heads, h.long.heads);
                  older = omega (arith, l, lent.room.older, h.long.older);
                  tags = omega (arith, lent.room.tags, h.long.tags);
                };
            fitting = fitting-before (function_in s) steps (suc i) count l lent.fitting;
          }

      pub going-noted : i < count → (i < length steps) × (i < length noted)
      going-noted l = (omega (arith, l, lent.in_steps), omega (arith, l, room, h.places_long))

      pub going_more :
          i < count → (t' : SlotTables) → Turned s steps i t t'
          → (before : ℕ) → before ≡ get_or t.tags (value_of steps i) 0
          → (noted' : List ℕ) → noted' ≡ set noted i (place_number (get_or steps i 0) before (get_or t'.tags (value_of steps i) 0))
          → Going (suc i) t' noted'
      going_more l t' e before was noted' new =
          let v = value_of steps i in
          let number = place_number (get_or steps i 0) before (get_or t'.tags v 0) in
          let is : number ≡ tag (placed s steps i) =
          place-number (get_or steps i 0) before (get_or t'.tags v 0)
          ∙ ap₂ (λ (x y : Option ℕ). tag (cond (eqb (get_or steps i 0 % 2) 0) (new_slot x y) x)) (ap made was ∙ h.stands.slots v) (e.stands.slots v) in
          rw new
          (record {
            within = l;
            stands = e.stands;
            good = λ j le. test-elim (eqb j (suc i)) (λ same. subst (λ k. SlotsGood row_values (slots_after s steps k)) (sym (eqb→eq j (suc i) same)) e.stands.good) (λ other. h.good j (omega (arith, le, neqb→ne j (suc i) other)));
            found = λ j less.
                test-elim (eqb j i)
                (λ same. subst (λ k. get_or (set noted i number) k 0 ≡ tag (placed s steps k)) (sym (eqb→eq j i same)) (get_or-set_same noted i number 0 (going-noted l).1 ∙ is))
                (λ other. get_or-set_other noted i j number 0 (neqb→ne j i other) ∙ h.found j (omega (arith, less, neqb→ne j i other)));
            long = long-then h.long e.long;
            places_long = length-set noted i number ∙ h.places_long;
          })

      pub going_done : count ≤ i → PlacesFound s steps count heads older tags places t.made t.heads t.older t.tags noted
      going_done l =
          let all : i ≡ count = omega (arith, l, h.within) in
          let stands : Stands steps count (slots_after s steps count) t = rw all at h.stands in
          record {
            counted = stands.counted;
            tagged = stands.slots;
            good = λ j le. h.good j (omega (arith, le, all));
            found = λ j less. h.found j (omega (arith, less, all));
            long = h.long;
            places_long = h.places_long;
          }
