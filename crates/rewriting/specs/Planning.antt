-- What a plan is made from and what it leaves: the tables of planning and of the slots, put together.
use Rattle.std.specs.Prelude.{ℕ, ◌+◌, ◌*◌, ◌<◌, ◌≤◌, ◌≡◌, refl, false, List, map, length, get_or, take, replicate, T, is_ok}
use Rattle.std.proofs.Common.{sym, ap, subst, ◌∙◌, arith}
use Rattle.std.proofs.lemmas.List.{length-replicate, length-take-le}
use Rattle.std.proofs.Math.Seq.{take-length}
use Rattle.rules.specs.Limits.{largest_records, largest_values, largest_blocks, largest_instructions, table_words, row_words}
use Rattle.rules.specs.Lists.{or_else}
use Rattle.rules.specs.Tree.{Function}
use Rattle.rules.specs.Records.{record_count, records}
use Rattle.rules.specs.File.{ordered, function_in}
use Rattle.rules.specs.Liveness.{process, is_spilled}
use Rattle.rules.specs.Refusals.{first_of, file_refusals, spilled_size}
use Rattle.rules.specs.Slots.{StackSlots, no_slots}
use Rattle.sharing.specs.SlotSteps.{replayed}
use Rattle.rules.specs.Graph.{size_of}
use Rattle.rules.specs.Plan.{Plan, planned}
use Rattle.lists.specs.Tests.{is_true}
use Rattle.graph.specs.Few.{records-few, values-few, blocks-few, instructions-few}
use Rattle.graph.specs.Links.{Walked}
use Rattle.graph.specs.ByTable.{places-long, values-by-table}
use Rattle.graph.specs.Zeros.{Zeros, zeros-zeros}
use Rattle.rows.specs.Rows.{rows, row_values}
use Rattle.listing.specs.Ascending.{length-lists-instructions}
use Rattle.listing.specs.Crossings.{listed}
use Rattle.listing.specs.Firsts.{Firsts}
use Rattle.planning.specs.Standing.{Tables, step_of, noted, slots_by}
use Rattle.planner.specs.Functions.{PlanGiven, FunctionPlanned}
use Rattle.planner.specs.Functions.{PlanLent as LentToPlanner}
use Rattle.layout.specs.Whole.{PlanTables}
use Rattle.stackslots.specs.Tables.{Lent, Replayed}
use Rattle.stackslots.specs.Planned.{planned-fitting}
use Rattle.acceptance.specs.Survey.{accepted-is, walked-exact}
use Rattle.rewriting.specs.declared.Found.{Found}
use Rattle.rewriting.specs.declared.Planned.{Planned}
use Rattle.rewriting.specs.Plans.{counts_of, PlanFound}
use Rattle.rewriting.specs.Rows.{PointerFine, Spilling}
use Rattle.analysis.specs.Tables.{index-tables}
use Rattle.rewriting.specs.Trees.{accepted-tree}

-- an accepted file by its tables, with its live sets, its lists and its spilled values as rows, of sizes that a slot can have
pub record Plannable (s places order outs lists' spilled : List ℕ) (found : Found) : Type 0 where
  pub accepted : T (is_ok (first_of (file_refusals s)))
  pub walked : Walked s places order found.blocks.reachable
  pub all-counted : found.blocks.all ≡ length (function_in s).blocks
  pub outs-long : length outs ≡ table_words
  pub live : rows outs ≡ (process (function_in s)).outs
  pub lists-long : length lists' ≡ largest_instructions * row_words
  pub listed-rows : rows lists' ≡ listed (function_in s)
  pub spilled-long : length spilled ≡ row_words
  pub spilled-row : rows spilled 0 ≡ is_spilled (function_in s)
  pub sized : spilled_size (function_in s) ≡ false

-- what is lent: zeros, a place for each record, each value, each new value and each slot
pub record PlanLent (numbers slots new_sizes slot_sizes : List ℕ) : Type 0 where
  pub blank-numbers : Zeros numbers
  pub numbers-long : largest_records ≤ length numbers
  pub blank-slots : Zeros slots
  pub slots-long : row_values ≤ length slots
  pub new_sizes-long : length new_sizes ≡ 2 * largest_records
  pub slot_sizes-long : row_values ≤ length slot_sizes

-- THE PLAN, as tables
pub record RecordsPlanned (s places lists' : List ℕ) (found : Found) (pointer : ℕ) (numbers slots new_sizes slot_sizes : List ℕ) (p : Planned) : Type 0 where
  pub pointed : p.pointer ≡ pointer
  pub plan : PlanTables s numbers slots lists' new_sizes slot_sizes (counts_of places found p) pointer
  pub made-room : p.made ≤ length new_sizes
  pub slots-room : p.slots ≤ length slot_sizes
  pub slots-few : p.slots ≤ row_values
  pub blocks-planned : p.blocks ≡ (planned (function_in s) pointer).1.blocks

module _ {s places order outs lists' spilled : List ℕ} {found : Found} (h : Plannable s places order outs lists' spilled found) where
  abbrev f : Function
  f = function_in s

  in-order : T (ordered 0 (records s))
  in-order = h.walked.given.in_order

  pub values-counted : get_or places 0 0 ≡ length f.values
  values-counted = values-by-table s places h.walked.given

  pub places-some : 0 < length places
  places-some = let l = places-long s places h.walked.given in omega (arith, l)

  blocks-small : length f.blocks ≤ largest_blocks
  blocks-small = blocks-few s (accepted-is s h.accepted).readable.few

  records-small : record_count s ≤ largest_records
  records-small = records-few s (accepted-is s h.accepted).readable.few

  values-small : length f.values ≤ row_values
  values-small = values-few s (accepted-is s h.accepted).readable.few

  -- PLANNING can begin
  pub plan-given : {firsts : List ℕ} → Firsts s firsts → PlanGiven s firsts spilled lists' outs
  plan-given numbered =
      let r = (accepted-is s h.accepted).readable in
      record {
        accepted = h.accepted;
        numbered = numbered;
        spilled_row = omega (arith, h.spilled-long);
        spilled_are = h.spilled-row;
        live = h.live;
        outs_room = omega (arith, h.outs-long, blocks-small);
        rows_are = h.listed-rows;
        lists_room = omega (arith, h.lists-long, length-lists-instructions f, instructions-few s r.few r.in_order);
      }

  pub plan-lent :
      {numbers slots new_sizes slot_sizes : List ℕ} → PlanLent numbers slots new_sizes slot_sizes
      → LentToPlanner s (replicate row_words 0) (replicate (largest_values + largest_records) 0) new_sizes numbers
  plan-lent g =
      record {
        row = omega (arith, length-replicate {A = ℕ} row_words 0);
        unasked = zeros-zeros row_words;
        steps_room = omega (arith, records-small, length-replicate {A = ℕ} (largest_values + largest_records) 0);
        sizes_room = omega (arith, records-small, g.new_sizes-long);
        small = omega (arith, g.new_sizes-long);
        blank = g.blank-numbers;
        numbers_room = omega (arith, records-small, g.numbers-long);
      }

  module _ {pointer : ℕ} {t t' : Tables} {numbers numbers' : List ℕ} (a : FunctionPlanned s pointer t t' numbers numbers') where
    -- its slots are its steps replayed
    slots-replayed : slots_by f t'.steps t'.progress.steps ≡ (planned f pointer).1.slots
    slots-replayed = ap (λ (p : Plan). p.slots) a.plan

    -- exactly the noted steps
    abbrev own : List ℕ
    own = take t'.progress.steps t'.steps

    own-long : length own ≡ t'.progress.steps
    own-long = length-take-le t'.progress.steps t'.steps (omega (arith, a.good.room_steps))

    own-replayed : slots_by f own (length own) ≡ (planned f pointer).1.slots
    unfolding slots_by noted
    own-replayed = ap (λ (xs : List ℕ). replayed (size_of f) (map step_of xs) no_slots) (take-length own) ∙ slots-replayed

    -- REPLAYING can begin
    pub replay-lent :
        (steps tags sizes : List ℕ) → steps ≡ t'.steps → length t'.steps ≤ largest_values + largest_records → Zeros tags → row_values ≤ length tags
        → row_values ≤ length sizes
        → Lent s (take t'.progress.steps steps) (length (take t'.progress.steps steps)) (replicate 5 0) (replicate (largest_values + largest_records) 0) tags
        × (length (take t'.progress.steps steps) ≤ largest_values + largest_records) × (row_values ≤ length sizes)
    replay-lent steps tags sizes e short blank l m =
        let tree = accepted-tree s h.accepted in
        let older-long = length-replicate {A = ℕ} (largest_values + largest_records) 0 in
        let few : length own ≤ largest_values + largest_records = omega (arith, own-long, a.good.room_steps, short) in
        rw e (
          record {
            in_order = is_true (ordered 0 (records s)) in-order;
            in_steps = omega arith;
            room = record { heads = omega arith; older = omega (arith, few, older-long); tags = l };
            empty_heads = zeros-zeros 5;
            empty_tags = blank;
            fitting = planned-fitting f tree.in-file tree.some_block pointer own (length own) own-replayed h.sized values-small;
          },
          few,
          m,
        )

    -- THE WHOLE PLAN
    pub records-planned :
        {older tags sizes : List ℕ} (steps own_numbers new_sizes : List ℕ) (r : ℕ) {heads' older' tags' sizes' : List ℕ}
        → steps ≡ t'.steps → own_numbers ≡ numbers' → new_sizes ≡ t'.sizes
        → Replayed s (take t'.progress.steps steps) (length (take t'.progress.steps steps)) (replicate 5 0) older tags sizes r heads' older' tags' sizes'
        → row_values ≤ length sizes
        → RecordsPlanned s places lists' found pointer own_numbers tags' new_sizes sizes'
        (record { pointer = pointer; made = t'.progress.made; slots = r; blocks = t'.progress.blocks })
    records-planned steps own_numbers new_sizes r e en es given room =
        let g = rw e at given in
        rw (en, es)
        (record {
          pointed = refl;
          plan =
              record {
                numbered = (accepted-is s h.accepted).readable.numbered;
                listed_rows = h.listed-rows;
                values = ap (λ (p : Plan). p.values) a.plan;
                slots_made = g.slots ∙ ap (λ (x : StackSlots). x.made) own-replayed;
                slot_numbers = λ v. ap (or_else 0) (g.tagged v ∙ ap (λ (x : StackSlots). x.slot_of v) own-replayed);
                plans = a.blocks;
              };
          made-room = omega (arith, a.good.room_sizes);
          slots-room = omega (arith, g.few, g.sizes_long, room);
          slots-few = g.few;
          blocks-planned = ap (λ (p : Plan). p.blocks) a.plan;
        })

-- FROM WHAT IS FOUND to what can be planned, and from what is planned to what can be written.
module _ {s places order index outs lists' spilled : List ℕ} {found : Found} {pointer : ℕ} (h : Spilling s places order index outs lists' spilled found pointer) where
  pub plannable : Plannable s places (take found.blocks.reachable order) outs lists' spilled found
  plannable =
      let r = h.rows-found in
      record {
        accepted = r.tables.accepted;
        walked = walked-exact r.tables.walked;
        all-counted = r.tables.all-counted;
        outs-long = r.outs-long;
        live = r.live;
        lists-long = r.lists-long;
        listed-rows = r.listed-rows;
        spilled-long = r.spilled-long;
        spilled-row = r.spilled-row;
        sized = h.sized;
      }

  pub plan-found :
      {numbers slots new_sizes slot_sizes : List ℕ} {p : Planned} → RecordsPlanned s places lists' found pointer numbers slots new_sizes slot_sizes p
      → largest_records ≤ length numbers → length new_sizes ≡ 2 * largest_records
      → PlanFound s places index lists' numbers slots new_sizes slot_sizes found p
  plan-found {p = p} a long sizes =
      let r = h.rows-found in
      record {
        accepted = r.tables.accepted;
        tables = index-tables r.tables;
        all-counted = r.tables.all-counted;
        lists-long = r.lists-long;
        instructions = r.instructions;
        visits = r.visits;
        pushes = r.pushes;
        pointer-fine = subst PointerFine (sym a.pointed) h.pointer-fine;
        sized = h.sized;
        changed = h.changed;
        plan = subst (PlanTables s _ _ lists' _ _ (counts_of places found p)) (sym a.pointed) a.plan;
        numbers-long = long;
        made-room = a.made-room;
        made-few = omega (arith, a.made-room, sizes);
        slots-room = a.slots-room;
        slots-few = a.slots-few;
        blocks-planned = a.blocks-planned ∙ ap (λ (x : ℕ). (planned (function_in s) x).1.blocks) (sym a.pointed);
      }

-- tables of a service's own
pub own-lent : PlanLent (replicate largest_records 0) (replicate largest_values 0) (replicate (2 * largest_records) 0) (replicate largest_values 0)
own-lent =
    record {
      blank-numbers = zeros-zeros largest_records;
      numbers-long = omega (arith, length-replicate {A = ℕ} largest_records 0);
      blank-slots = zeros-zeros largest_values;
      slots-long = omega (arith, length-replicate {A = ℕ} largest_values 0);
      new_sizes-long = length-replicate {A = ℕ} (2 * largest_records) 0;
      slot_sizes-long = omega (arith, length-replicate {A = ℕ} largest_values 0);
    }
