-- STORES. A spilled value that has been asked for is stored through an address, and its slot is free.
use Prim.Native.Nat.{ℕ, ◌+◌, ◌*◌, ◌<◌}
use mathlib.Core.Path.{◌≡◌, refl, sym, ap, subst, ◌∙◌}
use mathlib.Core.Bool.{true, not}
use mathlib.Core.Option.{Option, none, some}
use mathlib.Core.List.{List, [], ◌∷◌, ◌++◌}
use mathlib.Core.List.{append_assoc}
use native.Mathlib.Omega.{arith}
use lib.ListN.{length, set, length-set}
use lib.Dec.{T}
use Rattle.rules.specs.Lists.{is_none}
use Rattle.rules.specs.Tree.{Value, Function}
use Rattle.rules.specs.Graph.{size_of}
use Rattle.rules.specs.Liveness.{is_spilled}
use Rattle.rules.specs.Slots.{StackSlots, free_slot}
use Rattle.rules.specs.Plan.{plan_definition, plan_store}
use Rattle.sharing.specs.SlotSteps.{SlotStep, free_own, taken}
use Rattle.rows.specs.Rows.{rows, row_values}
use Rattle.numbering.specs.NewValues.{unmarked, new_values}
use Rattle.planning.specs.Standing.{Progress, Tables, tables, slots_by, plan_of, Good, Ran}
use Rattle.planning.specs.Walking.{new_values-more}
use Rattle.planning.proofs.Asking.{free-number, slots-more, plan-same}

-- a freed slot stays its value's
free-keeps : (size : ℕ) (o : Option ℕ) (p : StackSlots) → (free_own size o p).slot_of ≡ p.slot_of
unfolding free_slot
free-keeps size none p = refl
free-keeps size (some slot) p = refl

module _ (f : Function) (v : ℕ) (low : v < row_values) (spilled : is_spilled f v ≡ true) (asked steps sizes : List ℕ) (p : Progress) where
  abbrev start : Tables
  start = tables asked steps sizes p

  abbrev slots : StackSlots
  slots = slots_by f steps p.steps

  abbrev end : Tables
  end =
      tables asked (set steps p.steps (2 * v + 1)) (set sizes p.made p.pointer)
      (record { pointer = p.pointer; given = p.given; made = p.made + 1; blocks = p.blocks; steps = p.steps + 1 })

  module _ (g : Good f start 1) (has : rows asked 0 v ≡ true) where
    freed : slots_by f (set steps p.steps (2 * v + 1)) (p.steps + 1) ≡ free_own (size_of f v) (slots.slot_of v) slots
    freed =
        slots-more f steps p.steps (2 * v + 1) (omega (arith, g.room_steps))
        ∙ ap (λ (x : SlotStep). taken (size_of f) x slots) (free-number v)

    one_value : f.values ++ new_values (set sizes p.made p.pointer) (p.made + 1) ≡ (f.values ++ new_values sizes p.made) ++ (unmarked p.pointer ∷ [])
    one_value =
        ap (λ (xs : List Value). f.values ++ xs) (new_values-more sizes p.made p.pointer (omega (arith, g.room_sizes)))
        ∙ sym (append_assoc f.values (new_values sizes p.made) (unmarked p.pointer ∷ []))

    -- its definition is the store,
    by-slot :
        (o : Option ℕ) → slots.slot_of v ≡ o
        → (plan_of f end ≡ (plan_store f p.pointer v o (plan_of f start)).1)
        × ((plan_store f p.pointer v o (plan_of f start)).0 ≡ some (length (plan_of f start).values))
    by-slot (some slot) e = (plan-same (freed ∙ ap (λ (o : Option ℕ). free_own (size_of f v) o slots) e) one_value, refl)
    by-slot none e = absurd (subst T (sym has ∙ g.known v low ∙ ap (λ (o : Option ℕ). not (is_none o)) e) tt)

    -- whose address is the next value
    pub stored-number : (plan_definition f p.pointer v (plan_of f start)).0 ≡ some (length (plan_of f start).values)
    stored-number = rw spilled (by-slot (slots.slot_of v) refl).1

    pub stored : Ran f (plan_definition f p.pointer v) 1 start end
    stored =
        record {
          state = rw spilled (by-slot (slots.slot_of v) refl).0;
          kept =
              record {
                good =
                    λ k h.
                    record {
                      counted = h.counted;
                      few = h.few;
                      row = h.row;
                      known =
                          λ w l.
                          h.known w l
                          ∙ sym (ap (λ (t : ℕ → Option ℕ). not (is_none (t w)))
                          (ap (λ (x : StackSlots). x.slot_of) freed ∙ free-keeps (size_of f v) (slots.slot_of v) slots));
                      room_steps = simp length-set (omega (arith, h.room_steps));
                      room_sizes = simp length-set (omega (arith, h.room_sizes));
                      small = simp length-set h.small;
                    };
                pointer = refl;
                asked_long = refl;
                steps_long = simp length-set;
                sizes_long = simp length-set;
              };
        }
