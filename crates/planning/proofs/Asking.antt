-- One step noted and one value made, on the tables: what the plan that they stand for gets.
use Prim.Native.Nat.{ℕ, ◌+◌, ◌*◌, ◌/◌, ◌%◌, ◌<◌, ◌≤◌}
use mathlib.Core.Path.{◌≡◌, refl, sym, ap, ap₂, subst, ◌∙◌}
use mathlib.Core.Bool.{Bool, true, false, not, ◌||◌, cond}
use mathlib.Core.Option.{Option, none, some}
use mathlib.Core.List.{List, [], ◌∷◌, ◌++◌, append_assoc}
use native.Mathlib.Omega.{arith}
use native.Mathlib.Numerals.{add-one}
use lib.ListN.{length, set, take, length-set}
use lib.Seq.{take-suc-set}
use lib.Dec.{T, eqb, eqb_refl}
use Rattle.rules.specs.Lists.{is_none, update, NumberSet, adding}
use Rattle.rules.specs.Tree.{Value, Function}
use Rattle.rules.specs.Graph.{size_of}
use Rattle.rules.specs.Slots.{StackSlots, no_slots, give_slot, slot_from}
use Rattle.lists.specs.Tests.{or_left, or_right, is_true}
use Rattle.lists.specs.Maps.{map-append}
use Rattle.lists.specs.Lack.{lack, one, lack-drop}
use Rattle.sharing.specs.SlotSteps.{SlotStep, gives, frees, taken, replayed, replayed-append}
use Rattle.rows.specs.Rows.{rows, row_values}
use Rattle.rules.specs.Plan.{Plan, plan_load}
use Rattle.numbering.specs.NewValues.{unmarked, new_values}
use Rattle.planning.specs.Standing.{Progress, step_of, noted, Tables, tables, Asked, slots_by, Known, Good, Ran}
use Rattle.planning.specs.Walking.{new_values-more}

pub give-number : (v : ℕ) → step_of (2 * v) ≡ gives v
give-number v =
    let even : (2 * v) % 2 ≡ 0 = omega arith in
    let half : (2 * v) / 2 ≡ v = omega arith in
    rw (even, half)

pub free-number : (v : ℕ) → step_of (2 * v + 1) ≡ frees v
free-number v =
    let odd : (2 * v + 1) % 2 ≡ 1 = omega arith in
    let half : (2 * v + 1) / 2 ≡ v = omega arith in
    rw (odd, half)

-- one step more
noted_more : (steps : List ℕ) (n x : ℕ) → n < length steps → noted (set steps n x) (n + 1) ≡ noted steps n ++ (step_of x ∷ [])
unfolding noted
noted_more steps n x l = rw (add-one n, take-suc-set steps n x l) (map-append step_of (take n steps) (x ∷ []))

pub slots-more :
    (f : Function) (steps : List ℕ) (n x : ℕ) → n < length steps
    → slots_by f (set steps n x) (n + 1) ≡ taken (size_of f) (step_of x) (slots_by f steps n)
unfolding slots_by
slots-more f steps n x l =
    ap (λ (ss : List SlotStep). replayed (size_of f) ss no_slots) (noted_more steps n x l)
    ∙ replayed-append (size_of f) (noted steps n) (step_of x ∷ []) no_slots

-- a value that has a slot is given none
pub give-again : (v size : ℕ) (p : StackSlots) → not (is_none (p.slot_of v)) ≡ true → give_slot v size p ≡ p
unfolding give_slot
give-again v size p e = go (p.slot_of v) e
  where
    go : (o : Option ℕ) → not (is_none o) ≡ true → slot_from v size o (p.free size) p ≡ p
    go (some _) e = refl
    go none e = absurd (subst T (sym e) tt)

-- and who has a slot then
pub give-has :
    (v size : ℕ) (p : StackSlots) (w : ℕ) → not (is_none (p.slot_of v)) ≡ false
    → not (is_none ((give_slot v size p).slot_of w)) ≡ adding (v ∷ []) (λ x. not (is_none (p.slot_of x))) w
unfolding give_slot
give-has v size p w e = go (p.slot_of v) e (p.free size)
  where
    given : (s : ℕ) → not (is_none (update v (some s) p.slot_of w)) ≡ adding (v ∷ []) (λ x. not (is_none (p.slot_of x))) w
    given s = by (eqb w v)
      where
        by : (b : Bool) → not (is_none (cond b (some s) (p.slot_of w))) ≡ (b || false) || not (is_none (p.slot_of w))
        by true = refl
        by false = refl

    go : (o : Option ℕ) → not (is_none o) ≡ false → (free : List ℕ)
        → not (is_none ((slot_from v size o free p).slot_of w)) ≡ adding (v ∷ []) (λ x. not (is_none (p.slot_of x))) w
    go none e (s ∷ rest) = given s
    go none e [] = given (length p.made)
    go (some _) e free = absurd (subst T e tt)

-- A SLOT ASKED FOR
module _ (v : ℕ) (low : v < row_values) (asked steps : List ℕ) (n k : ℕ) (room : n + lack one row_values (rows asked 0) + k ≤ length steps) where
  -- one value fewer is left to be asked for
  asking-drop : rows asked 0 v ≡ false → lack one row_values (adding (v ∷ []) (rows asked 0)) + 1 ≤ lack one row_values (rows asked 0)
  asking-drop e =
      lack-drop one row_values (rows asked 0) (adding (v ∷ []) (rows asked 0)) v
      (λ w h. or_right (eqb w v || false) (rows asked 0 w) h) low (subst (λ b. T (not b)) (sym e) tt)
      (or_left (eqb v v || false) (rows asked 0 v) (or_left (eqb v v) false (eqb_refl v)))

  -- there is a place for the step
  pub asking-room : rows asked 0 v ≡ false → n < length steps
  asking-room e = omega (arith, asking-drop e, room)

  module _ (asked' steps' : List ℕ) (n' : ℕ) (a : Asked v asked steps n asked' steps' n') where
    -- there is as much room for all else,
    pub asked-room : n' + lack one row_values (rows asked' 0) + k ≤ length steps'
    asked-room = go (rows asked 0 v) refl
      where
        go : (b : Bool) → rows asked 0 v ≡ b → n' + lack one row_values (rows asked' 0) + k ≤ length steps'
        go true e =
            let count : n' ≡ n = a.counted ∙ ap (λ b. cond b n (n + 1)) e in
            let row : rows asked' 0 ≡ rows asked 0 =
            ap (λ (r : ℕ → NumberSet). r 0) (a.row ∙ ap (λ b. cond b (rows asked) (update 0 (adding (v ∷ []) (rows asked 0)) (rows asked))) e) in
            rw row (omega (arith, count, room, a.steps_long))
        go false e =
            let count : n' ≡ n + 1 = a.counted ∙ ap (λ b. cond b n (n + 1)) e in
            let row : rows asked' 0 ≡ adding (v ∷ []) (rows asked 0) =
            ap (λ (r : ℕ → NumberSet). r 0) (a.row ∙ ap (λ b. cond b (rows asked) (update 0 (adding (v ∷ []) (rows asked 0)) (rows asked))) e) in
            rw row (omega (arith, count, room, a.steps_long, asking-drop e))

    -- nobody who was asked for is forgotten,
    pub asked-grows : (w : ℕ) → rows asked 0 w ≡ true → rows asked' 0 w ≡ true
    asked-grows w h = ap (λ (r : ℕ → NumberSet). r 0 w) a.row ∙ go (rows asked 0 v)
      where
        go : (b : Bool) → cond b (rows asked) (update 0 (adding (v ∷ []) (rows asked 0)) (rows asked)) 0 w ≡ true
        go true = h
        go false = ap (λ b. (eqb w v || false) || b) h ∙ is_true ((eqb w v || false) || true) (or_right (eqb w v || false) true tt)

    module _ (f : Function) (known : Known f asked steps n) where
      abbrev slots : StackSlots
      slots = slots_by f steps n

      -- the value is given its slot,
      pub asked-slots : slots_by f steps' n' ≡ give_slot v (size_of f v) slots
      asked-slots = go (rows asked 0 v) refl
        where
          go : (b : Bool) → rows asked 0 v ≡ b → slots_by f steps' n' ≡ give_slot v (size_of f v) slots
          go true e =
              let same : steps' ≡ steps = a.step ∙ ap (λ b. cond b steps (set steps n (2 * v))) e in
              let count : n' ≡ n = a.counted ∙ ap (λ b. cond b n (n + 1)) e in
              ap₂ (slots_by f) same count ∙ sym (give-again v (size_of f v) slots (sym (known v low) ∙ e))
          go false e =
              let more : steps' ≡ set steps n (2 * v) = a.step ∙ ap (λ b. cond b steps (set steps n (2 * v))) e in
              let count : n' ≡ n + 1 = a.counted ∙ ap (λ b. cond b n (n + 1)) e in
              ap₂ (slots_by f) more count
              ∙ slots-more f steps n (2 * v) (asking-room e)
              ∙ ap (λ (x : SlotStep). taken (size_of f) x slots) (give-number v)

      -- and the row knows it
      pub asked-known : Known f asked' steps' n'
      asked-known w l = go (rows asked 0 v) refl ∙ sym (ap (λ (p : StackSlots). not (is_none (p.slot_of w))) asked-slots)
        where
          go : (b : Bool) → rows asked 0 v ≡ b → rows asked' 0 w ≡ not (is_none ((give_slot v (size_of f v) slots).slot_of w))
          go true e =
              ap (λ (r : ℕ → NumberSet). r 0 w) (a.row ∙ ap (λ b. cond b (rows asked) (update 0 (adding (v ∷ []) (rows asked 0)) (rows asked))) e)
              ∙ known w l
              ∙ sym (ap (λ (p : StackSlots). not (is_none (p.slot_of w))) (give-again v (size_of f v) slots (sym (known v low) ∙ e)))
          go false e =
              ap (λ (r : ℕ → NumberSet). r 0 w) (a.row ∙ ap (λ b. cond b (rows asked) (update 0 (adding (v ∷ []) (rows asked 0)) (rows asked))) e)
              ∙ ap (λ b. (eqb w v || false) || b) (known w l)
              ∙ sym (give-has v (size_of f v) slots w (sym (known v low) ∙ e))

-- plans are equal by their parts
pub plan-same :
    {x x' : StackSlots} {y y' : List Value} {b : ℕ} → x ≡ x' → y ≡ y'
    → ◌≡◌ {A = Plan} (record { slots = x; values = y; blocks = b }) (record { slots = x'; values = y'; blocks = b })
plan-same {b = b} s v = λ i. record { slots = s i; values = v i; blocks = b }

-- LOADS. An address and a loaded value, behind a slot that is asked for.
module _ (f : Function) (v : ℕ) (low : v < row_values) (asked steps sizes : List ℕ) (p : Progress) where
  abbrev start : Tables
  start = tables asked steps sizes p

  pub loaded :
      (asked' steps' : List ℕ) (n size : ℕ) → Good f start 1 → Asked v asked steps p.steps asked' steps' n → size ≡ size_of f v
      → Ran f (plan_load f p.pointer v) 1 start
      (tables asked' steps' (set (set sizes p.made p.pointer) (p.made + 1) size)
      (record { pointer = p.pointer; given = p.given; made = p.made + 2; blocks = p.blocks; steps = n }))
  loaded asked' steps' n size g a is =
      record {
        state =
            plan-same (asked-slots v low asked steps p.steps 1 g.room_steps asked' steps' n a f g.known)
            (two-values ∙ ap (λ (x : ℕ). ((f.values ++ new_values sizes p.made) ++ (unmarked p.pointer ∷ [])) ++ (unmarked x ∷ [])) is);
        kept =
            record {
              good =
                  λ k h.
                  record {
                    counted = h.counted;
                    few = h.few;
                    row = omega (arith, h.row, a.asked_long);
                    known = asked-known v low asked steps p.steps (1 + k) h.room_steps asked' steps' n a f h.known;
                    room_steps =
                        omega (arith, asked-room v low asked steps p.steps (1 + k) h.room_steps asked' steps' n a);
                    room_sizes = simp length-set (omega (arith, h.room_sizes));
                    small = simp length-set h.small;
                  };
              pointer = refl;
              asked_long = a.asked_long;
              steps_long = a.steps_long;
              sizes_long = simp length-set;
            };
      }
    where
      two-values :
          f.values ++ new_values (set (set sizes p.made p.pointer) (p.made + 1) size) (p.made + 2)
          ≡ ((f.values ++ new_values sizes p.made) ++ (unmarked p.pointer ∷ [])) ++ (unmarked size ∷ [])
      two-values =
          let again : p.made + 2 ≡ p.made + 1 + 1 = omega arith in
          let first : p.made < length sizes = omega (arith, g.room_sizes) in
          let second : p.made + 1 < length (set sizes p.made p.pointer) = simp length-set (omega (arith, g.room_sizes)) in
          ap (λ (xs : List Value). f.values ++ xs)
          (ap (new_values (set (set sizes p.made p.pointer) (p.made + 1) size)) again
          ∙ new_values-more (set sizes p.made p.pointer) (p.made + 1) size second
          ∙ ap (λ (xs : List Value). xs ++ (unmarked size ∷ [])) (new_values-more sizes p.made p.pointer first))
          ∙ sym (append_assoc f.values (new_values sizes p.made ++ (unmarked p.pointer ∷ [])) (unmarked size ∷ []))
          ∙ ap (λ (xs : List Value). xs ++ (unmarked size ∷ [])) (sym (append_assoc f.values (new_values sizes p.made) (unmarked p.pointer ∷ [])))
