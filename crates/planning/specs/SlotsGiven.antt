-- Slots for a list of values, in the rules' words: a step of planning for each member.
use Rattle.std.specs.Prelude.{ℕ, ◌+◌, ◌≡◌, refl, List, [], ◌∷◌}
use Rattle.std.proofs.Common.{sym, ap, ◌∙◌, arith}
use Rattle.rules.specs.Tree.{Function}
use Rattle.rules.specs.Slots.{StackSlots}
use Rattle.rules.specs.Plan.{Plan, for_each, plan_slot}
use Rattle.planning.specs.Standing.{Progress, tables, plan_of, give_all, Good, Ran, Slotted}

module _ (f : Function) (pointer : ℕ) where
  -- a plan with other slots
  abbrev with_slots : StackSlots → Plan → Plan
  with_slots slots p = record { slots = slots; values = p.values; blocks = p.blocks }

  slots-each : (vs : List ℕ) (p : Plan) → (for_each (plan_slot f pointer) vs p).1 ≡ with_slots (give_all f vs p.slots) p
  slots-each [] p = refl
  slots-each (v ∷ vs) p = slots-each vs (plan_slot f pointer v p).1

  -- THE LAW.
  pub slotted-ran :
      (vs asked steps sizes : List ℕ) (p : Progress) (room : ℕ) → Good f (tables asked steps sizes p) room
      → (asked' steps' : List ℕ) (n : ℕ) → Slotted vs asked steps p.steps asked' steps' n
      → Ran f (for_each (plan_slot f pointer) vs) 0 (tables asked steps sizes p)
      (tables asked' steps' sizes (record { pointer = p.pointer; given = p.given; made = p.made; blocks = p.blocks; steps = n }))
  slotted-ran vs asked steps sizes p room g asked' steps' n slotted =
      let before = plan_of f (tables asked steps sizes p) in
      record {
        state = ap (λ (x : StackSlots). with_slots x before) (slotted.slots f g.known) ∙ sym (slots-each vs before);
        kept =
            record {
              good =
                  λ k h.
                  record {
                    counted = h.counted;
                    few = h.few;
                    row = omega (arith, h.row, slotted.asked_long);
                    known = slotted.known f h.known;
                    room_steps = omega (arith, slotted.room (0 + k) h.room_steps);
                    room_sizes = omega (arith, h.room_sizes);
                    small = h.small;
                  };
              pointer = refl;
              asked_long = slotted.asked_long;
              steps_long = slotted.steps_long;
              sizes_long = refl;
            };
      }
