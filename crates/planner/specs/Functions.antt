-- THE WHOLE FUNCTION: what is lent to planning at its start, and what it promises.
use Prim.Native.Nat.{ℕ, ◌+◌, ◌*◌, ◌≤◌}
use Rattle.std.specs.Prelude.{◌≡◌, false, not, length, T}
use Rattle.std.proofs.Math.Path.{ap}
use Rattle.std.proofs.Common.{sym, ◌∙◌, arith}
use mathlib.Core.List.{List, map, append-nil}
use Rattle.rules.specs.Limits.{row_words, largest_records}
use Rattle.rules.specs.Lists.{is_none, NumberSet}
use Rattle.rules.specs.Slots.{no_slots}
use Rattle.rules.specs.Tree.{Function}
use Rattle.rules.specs.Records.{record_count, records}
use Rattle.rules.specs.File.{ordered, function_in}
use Rattle.rules.specs.Graph.{reachable}
use Rattle.rules.specs.Liveness.{process, lists, is_spilled}
use Rattle.rules.specs.Plan.{Plan, BlockPlan, for_each, plan_block, planned}
use Rattle.rules.specs.Refusals.{first_of, file_refusals}
use Rattle.std.specs.Prelude.{is_ok}
use Rattle.lists.specs.Lack.{lack-one-le}
use Rattle.lists.specs.Tests.{is_true}
use Rattle.acceptance.specs.Survey.{accepted-is}
use Rattle.graph.specs.Few.{records-few, values-few, blocks-few}
use Rattle.graph.specs.Tables.{Given}
use Rattle.graph.specs.Zeros.{Zeros}
use Rattle.listing.specs.Crossings.{listed}
use Rattle.listing.specs.Firsts.{Firsts}
use Rattle.rows.specs.Rows.{rows, row_values, HasRow, rows-zeros}
use Rattle.numbering.specs.Beside.{block_plan_at}
use Rattle.numbering.specs.NewValues.{new_values}
use Rattle.planning.specs.Operands.{Reading}
use Rattle.planning.specs.Standing.{Progress, unplanned, Tables, tables, noted, slots_by, plan_of, Good}
use Rattle.planning.specs.Walking.{good-less}
use Rattle.planning_edges.specs.Noted.{SameBut, Able}
use Rattle.planner.specs.AllBlocks.{InBlocks, widths, BlocksNoted}
use Rattle.planner.specs.BlockTables.{PlanTables}

-- WHAT IS GIVEN: an accepted file, what is live out of each block and the lists of all safepoints as rows, the row of spilled
-- values, and the number of each block's first instruction.
pub record PlanGiven (s firsts spilled table outs : List ℕ) : Type 0 where
  pub accepted : T (is_ok (first_of (file_refusals s)))
  pub numbered : Firsts s firsts
  pub spilled_row : HasRow spilled 0
  pub spilled_are : rows spilled 0 ≡ is_spilled (function_in s)
  pub live : rows outs ≡ (process (function_in s)).outs
  pub outs_room : row_words * length (function_in s).blocks ≤ length outs
  pub rows_are : rows table ≡ listed (function_in s)
  pub lists_room : row_words * length (lists (function_in s)) ≤ length table

module _ {s firsts spilled table outs : List ℕ} (g : PlanGiven s firsts spilled table outs) where
  pub given-reading : Reading s spilled
  given-reading = record { in_order = is_true (ordered 0 (records s)) (accepted-is s g.accepted).readable.in_order; row = g.spilled_row; is_row = g.spilled_are }

  pub given-tables : {places : List ℕ} → Given s places → PlanTables s places table outs
  given-tables given =
      let a = accepted-is s g.accepted in
      record {
        given = given;
        is_sound = a.is_sound;
        values = omega (arith, values-few s a.readable.few);
        live = g.live;
        outs_room = g.outs_room;
        rows_are = g.rows_are;
        lists_room = g.lists_room;
      }

-- what is lent: zeros, with room for what every record of the file may make
pub record PlanLent (s asked steps sizes numbers : List ℕ) : Type 0 where
  pub row : HasRow asked 0
  pub unasked : Zeros asked
  pub steps_room : row_values + record_count s ≤ length steps
  pub sizes_room : 2 * record_count s ≤ length sizes
  pub small : length sizes ≤ 2 * largest_records
  pub blank : Zeros numbers
  pub numbers_room : record_count s ≤ length numbers

-- and how far planning is: at its start, with the file's values and blocks
abbrev pub Begun : List ℕ → Tables → Type 0
Begun s t = t.progress ≡ unplanned t.progress.pointer (length (function_in s).values) (length (function_in s).blocks)

-- THE PROMISE: the tables stand for the rules' plan, and its numbers stand beside the records
pub record FunctionPlanned (s : List ℕ) (pointer : ℕ) (t t' : Tables) (numbers numbers' : List ℕ) : Type 0 where
  pub plan : plan_of (function_in s) t' ≡ (planned (function_in s) pointer).1
  pub blocks : map (block_plan_at s numbers') (reachable (function_in s)) ≡ (planned (function_in s) pointer).0
  -- numbers stand beside records of reachable blocks only
  pub elsewhere : SameBut (InBlocks s (reachable (function_in s))) numbers numbers'
  -- the tables have held it all
  pub good : Good (function_in s) t' 0
  pub same_pointer : t'.progress.pointer ≡ t.progress.pointer
  pub asked_long : length t'.asked ≡ length t.asked
  pub steps_long : length t'.steps ≡ length t.steps
  pub sizes_long : length t'.sizes ≡ length t.sizes
  pub long : length numbers' ≡ length numbers

module _ (s : List ℕ) (t : Tables) (numbers : List ℕ) (lent : PlanLent s t.asked t.steps t.sizes numbers) (begun : Begun s t) where
  abbrev f : Function
  f = function_in s

  -- nobody has been asked for
  none-asked : rows t.asked ≡ (λ _ _. false)
  none-asked = ap rows lent.unasked ∙ rows-zeros (length t.asked)

  none-noted : t.progress.steps ≡ 0
  none-noted = ap (λ (p : Progress). p.steps) begun

  none-made : t.progress.made ≡ 0
  none-made = ap (λ (p : Progress). p.made) begun

  pub unplanned-able : T (is_ok (first_of (file_refusals s))) → Able f t (record_count s)
  unfolding slots_by noted
  unplanned-able accepted =
      let few = (accepted-is s accepted).readable.few in
      record {
        good =
            record {
              counted = ap (λ (p : Progress). p.given) begun;
              few = values-few s few;
              row = lent.row;
              known = λ v l. ap (λ (r : ℕ → NumberSet). r 0 v) none-asked ∙ sym (ap (λ (n : ℕ). not (is_none ((slots_by f t.steps n).slot_of v))) none-noted);
              room_steps = omega (arith, none-noted, lent.steps_room, lack-one-le row_values (rows t.asked 0));
              room_sizes = omega (arith, none-made, lent.sizes_room);
              small = lent.small;
            };
        few_blocks = omega (arith, ap (λ (p : Progress). p.blocks) begun, blocks-few s few, records-few s few);
      }

  -- the plan at its start
  unplanned-is : plan_of f t ≡ record { slots = no_slots; values = f.values; blocks = length f.blocks }
  unfolding slots_by noted new_values
  unplanned-is =
      ap (λ (p : Progress). plan_of f (tables t.asked t.steps t.sizes p)) begun
      ∙ (λ j. record { slots = no_slots; values = append-nil f.values j; blocks = length f.blocks })

  pub function-planned :
      (t' : Tables) (numbers' : List ℕ) → T (is_ok (first_of (file_refusals s))) → widths s (reachable f) ≤ record_count s
      → BlocksNoted s t.progress.pointer (reachable f) t numbers t' numbers' → FunctionPlanned s t.progress.pointer t t' numbers numbers'
  unfolding planned
  function-planned t' numbers' accepted fits a =
      let all = a.answer ∙ ap (for_each (plan_block f t.progress.pointer) (reachable f)) unplanned-is in
      record {
        plan = ap (λ (x : List BlockPlan × Plan). x.1) all;
        blocks = ap (λ (x : List BlockPlan × Plan). x.0) all;
        elsewhere = a.same;
        good = a.kept.good 0 (good-less f t (record_count s) (widths s (reachable f) + 0) (omega arith) (unplanned-able accepted).good);
        same_pointer = a.kept.pointer;
        asked_long = a.kept.asked_long;
        steps_long = a.kept.steps_long;
        sizes_long = a.kept.sizes_long;
        long = a.long;
      }
