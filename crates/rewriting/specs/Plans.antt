-- What is planned of a file, as tables: what the count of its records and the writing of them stand on, and the answers that
-- follow.
use Rattle.std.specs.Prelude.{ℕ, zero, suc, ◌+◌, ◌-◌, ◌*◌, ◌^◌, ◌<◌, ◌≤◌, ◌≡◌, Bool, true, false, List, [], ◌++◌, get_or, take, drop, replicate, T, is_ok, Ok, Err}
use Rattle.std.proofs.Common.{sym, ap₂, ◌∙◌, arith}
use Rattle.std.proofs.Math.Path.{ap}
use Rattle.std.proofs.Math.ListN.{length, length-append}
use Rattle.std.proofs.lemmas.List.{length-map}
use Rattle.std.proofs.Math.Seq.{length-take-le}
use Rattle.rules.specs.Limits.{record_bytes, largest_records, largest_blocks, largest_instructions, row_words}
use Rattle.rules.specs.Lists.{padded, up_from}
use Rattle.rules.specs.Tree.{Function}
use Rattle.rules.specs.Records.{IsBytes, record_count, records, bytes}
use Rattle.rules.specs.File.{ordered, function_records, function_in}
use Rattle.rules.specs.Graph.{reachable}
use Rattle.rules.specs.Liveness.{process, lists}
use Rattle.rules.specs.Refusals.{first_of, file_refusals, spilled_size}
use Rattle.rules.specs.Services.{is_unchanged, records_of}
use Rattle.rules.specs.Slots.{no_slots}
use Rattle.rules.specs.Plan.{Plan, planned}
use Rattle.rules.specs.Rewriting.{rewritten}
use Rattle.rules.specs.declared.Record.{Record}
use Rattle.rules.specs.declared.Refusal.TheVariants as refusal
use Rattle.fixpoint.specs.Sums.{sum}
use Rattle.agreement.specs.Growing.{Grown, nothing-kept, planned-costs, block_cost}
use Rattle.demand3.specs.Totals.{plan_most, cost-few}
use Rattle.graph.specs.Few.{records-few, values-few, blocks-few, instructions-few}
use Rattle.graph.specs.Values.{values-first}
use Rattle.graph.specs.ByTable.{places-long, values-by-table}
use Rattle.soundness.specs.Tails.{sound-tails}
use Rattle.rows.specs.Rows.{rows, row_values, size}
use Rattle.listing.specs.Ascending.{length-lists-instructions}
use Rattle.listing.specs.Crossings.{listed}
use Rattle.listing.specs.Tables.{IndexTables}
use Rattle.numbering.specs.NewValues.{new_values}
use Rattle.writing.specs.Wrote.{room, Wrote, length-bytes}
use Rattle.layout.specs.declared.whole.Counts.{Counts}
use Rattle.layout.specs.Whole.{FunctionTables, PlanTables, function_run, function-written}
use Rattle.counting.specs.OfFile.{blocks-of-file}
use Rattle.counting.specs.Totals.{block_added, records-counted}
use Rattle.acceptance.specs.Survey.{accepted-is}
use Rattle.rewriting.specs.declared.Found.{Found}
use Rattle.rewriting.specs.declared.Planned.{Planned}
use Rattle.rewriting.specs.Answers.{Outcome, outcome-short, outcome-accepted, verdict-short, verdict-fits, records-changed}
use Rattle.rewriting.specs.Rows.{PointerFine}
use Rattle.rewriting.specs.Trees.{accepted-tree}

-- how many there are of what is written
abbrev pub counts_of : List ℕ → Found → Planned → Counts
counts_of places found p = record { values = get_or places 0 0; blocks = found.blocks.all; made = p.made; slots = p.slots }

-- an accepted file with its lists, and the tables of its plan
pub record PlanFound (s places index lists' numbers slots new_sizes slot_sizes : List ℕ) (found : Found) (p : Planned) : Type 0 where
  pub accepted : T (is_ok (first_of (file_refusals s)))
  pub tables : IndexTables s places index
  pub all-counted : found.blocks.all ≡ length (function_in s).blocks
  pub lists-long : length lists' ≡ largest_instructions * row_words
  pub instructions : found.instructions ≡ length (lists (function_in s))
  pub visits : found.live.visits ≡ length (process (function_in s)).visited
  pub pushes : found.live.pushes ≡ (process (function_in s)).pushes
  pub pointer-fine : PointerFine p.pointer
  pub sized : spilled_size (function_in s) ≡ false
  pub changed : is_unchanged (function_in s) ≡ false
  pub plan : PlanTables s numbers slots lists' new_sizes slot_sizes (counts_of places found p) p.pointer
  pub numbers-long : largest_records ≤ length numbers
  pub made-room : p.made ≤ length new_sizes
  pub made-few : p.made ≤ 2 * largest_records
  pub slots-room : p.slots ≤ length slot_sizes
  pub slots-few : p.slots ≤ row_values
  pub blocks-planned : p.blocks ≡ (planned (function_in s) p.pointer).1.blocks

module _ {s places index lists' numbers slots new_sizes slot_sizes : List ℕ} {found : Found} {p : Planned} (h : PlanFound s places index lists' numbers slots new_sizes slot_sizes found p) where
  abbrev f : Function
  f = function_in s

  abbrev pointer : ℕ
  pointer = p.pointer

  in-order : T (ordered 0 (records s))
  in-order = h.tables.given.in_order

  pub records-small : record_count s ≤ largest_records
  records-small = records-few s (accepted-is s h.accepted).readable.few

  values-small : length f.values ≤ row_values
  values-small = values-few s (accepted-is s h.accepted).readable.few

  pub blocks-small : found.blocks.all ≤ largest_blocks
  blocks-small = omega (arith, h.all-counted, blocks-few s (accepted-is s h.accepted).readable.few)

  pub instructions-small : found.instructions ≤ largest_instructions
  instructions-small =
      let r = (accepted-is s h.accepted).readable in
      omega (arith, h.instructions, length-lists-instructions f, instructions-few s r.few r.in_order)

  values-counted : get_or places 0 0 ≡ length f.values
  values-counted = values-by-table s places h.tables.given

  pub places-some : 0 < length places
  places-some = let l = places-long s places h.tables.given in omega (arith, l)

  -- THE COUNT of records, by its parts.
  abbrev parts_count : (added entries : ℕ) → ℕ
  parts_count added entries = record_count s + p.made + p.slots + added + entries

  values-made : length (planned f pointer).1.values ≡ length f.values + p.made
  unfolding new_values
  values-made =
      ap length (sym h.plan.values) ∙ length-append f.values (new_values new_sizes p.made)
      ∙ ap (λ (n : ℕ). length f.values + n) (length-map (take p.made new_sizes) _ ∙ length-take-le p.made new_sizes h.made-room)

  pub count-is :
      IsBytes s → (added entries : ℕ) → added ≡ sum (block_added s numbers) (up_from 0 found.blocks.all)
      → entries ≡ sum (λ i. size (rows lists' i)) (up_from 0 found.instructions) → parts_count added entries ≡ records_of s pointer
  count-is is_bytes added entries a e =
      let counted = records-counted s numbers pointer is_bytes in-order (accepted-tree s h.accepted) h.plan.plans p.made values-made values-small in
      let own = blocks-of-file s in-order in
      let made : p.slots ≡ length (planned f pointer).1.slots.made =
      sym (length-take-le p.slots slot_sizes h.slots-room) ∙ ap length h.plan.slots_made in
      let blocks = ap (λ (n : ℕ). sum (block_added s numbers) (up_from 0 n)) h.all-counted in
      let rows_in = ap (λ (t : ℕ → ℕ → Bool). sum (λ i. size (t i)) (up_from 0 found.instructions)) h.plan.listed_rows in
      let number = ap (λ (n : ℕ). sum (λ i. size (listed f i)) (up_from 0 n)) h.instructions in
      omega (arith, counted, own, values-first s in-order, made, blocks, rows_in, number, a, e, records-changed s pointer 0 h.changed)

  pub count_small : (added entries : ℕ) → added ≤ found.blocks.all * (3 * largest_records) → entries ≤ found.instructions * 512 → parts_count added entries < 2 ^ 20
  count_small added entries a e = omega (arith, records-small, h.made-few, h.slots-few, blocks-small, instructions-small, a, e)

  -- LANDINGS are few: a plan grows by no more than its file's records can ask for.
  abbrev begun : Plan
  begun = record { slots = no_slots; values = f.values; blocks = length f.blocks }

  grown : Grown (λ _. Unit) (sum (block_cost f) (reachable f)) begun (planned f pointer).1
  grown = planned-costs f pointer (λ _. Unit) (λ _. Unit) (λ _. Unit) (nothing-kept f pointer) (λ b m x k v q. tt)

  pub landings-there : found.blocks.all ≤ p.blocks
  landings-there = omega (arith, grown.blocks, h.blocks-planned, h.all-counted)

  pub landings-few : p.blocks ≤ largest_blocks + plan_most
  landings-few =
      let cost = cost-few s (accepted-is s h.accepted).readable.few in-order (accepted-tree s h.accepted) in
      omega (arith, grown.blocks-by, h.blocks-planned, h.all-counted, blocks-small, cost)

  -- WRITING
  pub function-tables : FunctionTables s places index numbers lists' new_sizes slot_sizes (counts_of places found p)
  function-tables =
      record {
        by_block =
            record {
              tables = h.tables;
              beside = omega (arith, records-small, h.numbers-long);
              few = omega (arith, values-counted, values-small);
              lists_room = omega (arith, h.lists-long, h.instructions, instructions-small);
              tails = sound-tails s in-order (accepted-is s h.accepted).is_sound;
            };
        value_count = values-counted;
        block_count = h.all-counted;
        new_room = h.made-room;
        slot_room = h.slots-room;
      }

  written_is :
      function_records (rewritten f pointer) ≡ function_run s places numbers slots (rows lists') new_sizes slot_sizes (counts_of places found p)
  written_is = function-written function-tables pointer h.plan

  -- the room that is needed
  pub room-needed : (count n : ℕ) → count ≡ records_of s pointer → record_bytes * count ≤ n
      → room (function_run s places numbers slots (rows lists') new_sizes slot_sizes (counts_of places found p)) ≤ n
  room-needed count n c l = omega (arith, c, l, records-changed s pointer n h.changed, ap length written_is)

  -- 11
  pub outcome-too-short : (count n : ℕ) → count ≡ records_of s pointer → n < record_bytes * count → Outcome s pointer n (Err (refusal.TooShort count)) (replicate n 0)
  outcome-too-short count n c l =
      outcome-short s pointer n
      (verdict-short s pointer n h.pointer-fine h.accepted h.sized h.changed (omega (arith, c, l))) count c

  -- zeros behind what is written
  drop-zeros : (k n : ℕ) → drop {A = ℕ} k (replicate n 0) ≡ replicate (n - k) 0
  drop-zeros zero n = let same : n ≡ n - 0 = omega arith in ap (λ (m : ℕ). replicate m 0) same
  drop-zeros (suc k) zero = let same : 0 ≡ 0 - suc k = omega arith in ap (λ (m : ℕ). replicate m 0) same
  drop-zeros (suc k) (suc n) = let same : n - k ≡ suc n - suc k = omega arith in drop-zeros k n ∙ ap (λ (m : ℕ). replicate m 0) same

  pub outcome-written :
      (count n : ℕ) → count ≡ records_of s pointer → record_bytes * count ≤ n → {r : ℕ} {lent out : List ℕ} → lent ≡ replicate n 0
      → Wrote lent (function_run s places numbers slots (rows lists') new_sizes slot_sizes (counts_of places found p)) r out
      → Outcome s pointer n
      (Ok
      (record {
        records = count;
        slots = p.slots;
        landings = p.blocks - found.blocks.all;
        visits = found.live.visits;
        pushes = found.live.pushes;
        unchanged = false;
      }))
      out
  outcome-written count n c l {r} {lent} {out} blank w =
      let rs = function_records (rewritten f pointer) in
      let run = function_run s places numbers slots (rows lists') new_sizes slot_sizes (counts_of places found p) in
      let made : p.slots ≡ length (planned f pointer).1.slots.made =
      sym (length-take-le p.slots slot_sizes h.slots-room) ∙ ap length h.plan.slots_made in
      let landed : p.blocks - found.blocks.all ≡ (planned f pointer).1.blocks - length f.blocks =
      ap₂ (λ (a b : ℕ). a - b) h.blocks-planned h.all-counted in
      let padding : out ≡ padded n (bytes rs) =
      w.front
      ∙ ap (λ (t : List ℕ). bytes run ++ t) (ap (drop (room run)) blank ∙ drop-zeros (room run) n ∙ ap (λ (k : ℕ). replicate (n - k) 0) (sym (length-bytes run)))
      ∙ ap (λ (xs : List Record). padded n (bytes xs)) (sym written_is) in
      outcome-accepted s pointer n (verdict-fits s pointer n h.pointer-fine h.accepted h.sized h.changed (omega (arith, c, l))) _
      (λ i.
      record {
        records = c i;
        slots = made i;
        landings = landed i;
        visits = h.visits i;
        pushes = h.pushes i;
        unchanged = sym h.changed i;
      })
      _
      (padding ∙ ap (λ (u : Bool). padded n (elim u as (λ _. List ℕ) [ true ↦ [] | false ↦ bytes rs ])) (sym h.changed))
