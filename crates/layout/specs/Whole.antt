-- The whole function as it is written, and that it is the rewritten function where the tables are those of a plan.
use Prim.Native.Nat.{ℕ, zero, suc, ◌+◌, ◌<◌, ◌≤◌}
use Rattle.std.specs.Prelude.{◌≡◌, refl, ◌||◌, length, get_or, take, T, eqb}
use Rattle.std.proofs.Math.Path.{sym, ap}
use Rattle.std.proofs.Common.{ap₂, ◌∙◌, arith, add-one, eqb→eq}
use Rattle.std.proofs.Math.Bool.{Bool, true, false}
use mathlib.Core.List.{List, [], ◌∷◌, ◌++◌, map, append_assoc, append-nil}
use Rattle.rules.specs.Lists.{has, concat_map, NumberSet}
use Rattle.rules.specs.Tree.{Value, Block, Function}
use Rattle.rules.specs.File.{block_records, function_records, function_in}
use Rattle.rules.specs.Graph.{block_at, size_of, reachable}
use Rattle.rules.specs.Liveness.{listed_instructions}
use Rattle.rules.specs.Refusals.{numbered_from}
use Rattle.rules.specs.Plan.{BlockPlan, planned}
use Rattle.rules.specs.Rewriting.{rewritten_block, slot_number, laid, rewritten}
use Rattle.rules.specs.declared.Record.{Record}
use Rattle.rules.specs.declared.Record.TheVariants as record'
use Rattle.lists.specs.Tests.{and_left, and_right, eqb_same}
use Rattle.lists.specs.Maps.{map-append, concat_map-concat_map}
use Rattle.graph.specs.Blocks.{place_of}
use Rattle.graph.specs.ByTable.{place_at}
use Rattle.rows.specs.Rows.{rows}
use Rattle.numbering.specs.Beside.{block_plan_at}
use Rattle.numbering.specs.NewValues.{new_values}
use Rattle.listing.specs.Crossings.{listed}
use Rattle.writing.specs.Parts.{slot_in}
use Rattle.writing.specs.Places.{from_to, from_to-same}
use Rattle.layout.specs.declared.whole.Counts.{Counts}
use Rattle.layout.specs.BlockRuns.{copy_at, block_run}
use Rattle.layout.specs.Copied.{block-copied}
use Rattle.layout.specs.Planned.{block-planned}
use Rattle.layout.specs.Laid.{BlockTables, block_part_at}
use Rattle.layout.specs.Sizes.{new_value_at, slot_at, concat-by-number, new-values-are, slots-are, values-copied}

-- what the writer reads: the file by its tables, its counts, and tables of sizes as long as they say
pub record FunctionTables (s places index numbers list_rows new_sizes slot_sizes : List ℕ) (n : Counts) : Type 0 where
  pub by_block : BlockTables s places index numbers list_rows n.values
  pub value_count : n.values ≡ length (function_in s).values
  pub block_count : n.blocks ≡ length (function_in s).blocks
  pub new_room : n.made ≤ length new_sizes
  pub slot_room : n.slots ≤ length slot_sizes

-- the file's values, the new ones, the slots and the blocks
unfoldable pub function_run : (s places numbers slots : List ℕ) → (ℕ → NumberSet) → (new_sizes slot_sizes : List ℕ) → Counts → List Record
function_run s places numbers slots sets new_sizes slot_sizes n =
    ((from_to (copy_at s) 0 n.values ++ from_to (new_value_at new_sizes) 0 n.made) ++ from_to (slot_at slot_sizes) 0 n.slots)
    ++ from_to (block_part_at s places numbers slots n.values sets) 0 n.blocks

-- THE TABLES OF A PLAN: its numbers beside the file's records, its slots by value, the sizes of what it makes; and the lists
-- as rows. The file's blocks are numbered by their position.
pub record PlanTables (s numbers slots list_rows new_sizes slot_sizes : List ℕ) (n : Counts) (pointer : ℕ) : Type 0 where
  pub numbered : T (numbered_from 0 (function_in s).blocks)
  pub listed_rows : rows list_rows ≡ listed (function_in s)
  pub values : (function_in s).values ++ new_values new_sizes n.made ≡ (planned (function_in s) pointer).1.values
  pub slots_made : take n.slots slot_sizes ≡ (planned (function_in s) pointer).1.slots.made
  pub slot_numbers : (v : ℕ) → slot_in slots v ≡ slot_number (function_in s) pointer v
  pub plans : map (block_plan_at s numbers) (reachable (function_in s)) ≡ (planned (function_in s) pointer).0

-- a block that is planned is laid out by the plan of its number, another is copied
laid-by-number :
    (f : Function) (pointer : ℕ) (plan : ℕ → BlockPlan) (xs : List ℕ) (x : Block)
    → laid f pointer xs (map plan xs) x
    ≡ elim (has x.number xs) [
      | true ↦ rewritten_block (size_of f) (slot_number f pointer) x (listed_instructions f x.number) (plan x.number)
      | false ↦ x ∷ []
    ]
laid-by-number f pointer plan [] x = refl
laid-by-number f pointer plan (y ∷ ys) x =
    go (eqb y x.number) (eqb→eq y x.number) (laid-by-number f pointer plan ys x)
    ∙ ap (λ (c : Bool). chosen_by (c || has x.number ys)) (eqb_same y x.number)
  where
    block : ℕ → List Block
    block k = rewritten_block (size_of f) (slot_number f pointer) x (listed_instructions f k) (plan k)

    chosen_by : Bool → List Block
    chosen_by c = elim c [ true ↦ block x.number | false ↦ x ∷ [] ]

    go : (c : Bool) → (T c → y ≡ x.number) → laid f pointer ys (map plan ys) x ≡ chosen_by (has x.number ys)
        → elim c [ true ↦ block y | false ↦ laid f pointer ys (map plan ys) x ] ≡ chosen_by (c || has x.number ys)
    go true same later = ap block (same tt)
    go false same later = later

-- block j of blocks that are numbered from n on has number n + j
number_at : (n : ℕ) (bs : List Block) (d : Block) → T (numbered_from n bs) → (j : ℕ) → j < length bs → (get_or bs j d).number ≡ n + j
number_at n [] d h j l = absurd (omega arith)
number_at n (b ∷ bs) d h zero l = let same : n ≡ n + 0 = omega arith in eqb→eq b.number n (and_left (eqb b.number n) (numbered_from (suc n) bs) h) ∙ same
number_at n (b ∷ bs) d h (suc j) l =
    let next : suc n + j ≡ n + suc j = omega arith in
    number_at (suc n) bs d (and_right (eqb b.number n) (numbered_from (suc n) bs) h) j (omega arith) ∙ next

module _ {s places index numbers slots list_rows new_sizes slot_sizes : List ℕ} {n : Counts} (t : FunctionTables s places index numbers list_rows new_sizes slot_sizes n) (pointer : ℕ) (h : PlanTables s numbers slots list_rows new_sizes slot_sizes n pointer) where
  abbrev f : Function
  f = function_in s

  abbrev sets : ℕ → NumberSet
  sets = rows list_rows

  block-number : (b : ℕ) → b < length f.blocks → (block_at f b).number ≡ b
  block-number b l =
      let same : 0 + b ≡ b = omega arith in
      number_at 0 f.blocks (record { cold = false; number = 0; parameters = []; items = [] }) h.numbered b l ∙ same

  slots_same : slot_number f pointer ≡ slot_in slots
  slots_same = λ i v. sym (h.slot_numbers v) i

  -- a block by its runs
  planned-run :
      (b : ℕ) → b < length f.blocks
      → concat_map block_records (rewritten_block (size_of f) (slot_number f pointer) (block_at f b) (listed_instructions f b) (block_plan_at s numbers b))
      ≡ block_run s numbers slots n.values sets (get_or places b 0) (get_or places (b + 1) 0)
  planned-run b l =
      let g = t.by_block.tables.given in
      ap (λ (slot : ℕ → ℕ). concat_map block_records (rewritten_block (size_of f) slot (block_at f b) (listed_instructions f b) (block_plan_at s numbers b))) slots_same
      ∙ block-planned s numbers slots g.in_order b l
      ∙ ap₂ (λ (v : ℕ) (x : ℕ → NumberSet). block_run s numbers slots v x (place_of s b) (place_of s (suc b))) (sym t.value_count) (sym h.listed_rows)
      ∙ ap₂ (block_run s numbers slots n.values sets) (sym (place_at s places g b))
      (sym (place_at s places g (b + 1) ∙ ap (place_of s) (add-one b)))

  copied-run : (b : ℕ) → b < length f.blocks → concat_map block_records (block_at f b ∷ []) ≡ from_to (copy_at s) (get_or places b 0) (get_or places (b + 1) 0)
  copied-run b l =
      let g = t.by_block.tables.given in
      append-nil (block_records (block_at f b))
      ∙ block-copied s g.in_order b l
      ∙ ap₂ (from_to (copy_at s)) (sym (place_at s places g b)) (sym (place_at s places g (b + 1) ∙ ap (place_of s) (add-one b)))

  block-run :
      (b : ℕ) → b < length f.blocks
      → concat_map block_records (laid f pointer (reachable f) (planned f pointer).0 (block_at f b))
      ≡ block_part_at s places numbers slots n.values sets b
  unfolding block_part_at
  block-run b l =
      ap (λ (ns : List BlockPlan). concat_map block_records (laid f pointer (reachable f) ns (block_at f b))) (sym h.plans)
      ∙ ap (concat_map block_records) (laid-by-number f pointer (block_plan_at s numbers) (reachable f) (block_at f b))
      ∙ ap (λ (k : ℕ). concat_map block_records (chosen_by k (has k (reachable f)))) (block-number b l)
      ∙ go (has b (reachable f)) (planned-run b l) (copied-run b l)
    where
      chosen_by : ℕ → Bool → List Block
      chosen_by k c =
          elim c [
            | true ↦ rewritten_block (size_of f) (slot_number f pointer) (block_at f b) (listed_instructions f k) (block_plan_at s numbers k)
            | false ↦ block_at f b ∷ []
          ]

      go : (c : Bool)
          → concat_map block_records (chosen_by b true) ≡ block_run s numbers slots n.values sets (get_or places b 0) (get_or places (b + 1) 0)
          → concat_map block_records (chosen_by b false) ≡ from_to (copy_at s) (get_or places b 0) (get_or places (b + 1) 0)
          → concat_map block_records (chosen_by b c)
          ≡ elim c [
            | true ↦ block_run s numbers slots n.values sets (get_or places b 0) (get_or places (b + 1) 0)
            | false ↦ from_to (copy_at s) (get_or places b 0) (get_or places (b + 1) 0)
          ]
      go true by_plan as_is = by_plan
      go false by_plan as_is = as_is

  blocks-run :
      concat_map block_records (concat_map (laid f pointer (reachable f) (planned f pointer).0) f.blocks)
      ≡ from_to (block_part_at s places numbers slots n.values sets) 0 n.blocks
  blocks-run =
      let each : Block → List Record = λ x. concat_map block_records (laid f pointer (reachable f) (planned f pointer).0 x) in
      concat_map-concat_map block_records (laid f pointer (reachable f) (planned f pointer).0) f.blocks
      ∙ concat-by-number each (record { cold = false; number = 0; parameters = []; items = [] }) f.blocks n.blocks t.block_count
      ∙ from_to-same (λ b. each (block_at f b)) (block_part_at s places numbers slots n.values sets) 0 n.blocks
      (λ b _ m. block-run b (omega (arith, m, t.block_count)))

  values-run :
      map (λ (x : Value). record'.Value x.size x.marked) (planned f pointer).1.values
      ≡ from_to (copy_at s) 0 n.values ++ from_to (new_value_at new_sizes) 0 n.made
  values-run =
      let made : Value → Record = λ x. record'.Value x.size x.marked in
      ap (map made) (sym h.values)
      ∙ map-append made f.values (new_values new_sizes n.made)
      ∙ ap₂ (λ (a b : List Record). a ++ b) (values-copied s t.by_block.tables.given.in_order n.values t.value_count)
      (new-values-are new_sizes n.made t.new_room)

  slots-run : map record'.Slot (planned f pointer).1.slots.made ≡ from_to (slot_at slot_sizes) 0 n.slots
  slots-run = ap (map record'.Slot) (sym h.slots_made) ∙ slots-are slot_sizes n.slots t.slot_room

  -- THE REWRITTEN FUNCTION is what is written.
  pub function-written : function_records (rewritten f pointer) ≡ function_run s places numbers slots sets new_sizes slot_sizes n
  unfolding function_records rewritten function_run
  function-written =
      (λ j. values-run j ++ (slots-run j ++ blocks-run j))
      ∙ sym (append_assoc (from_to (copy_at s) 0 n.values ++ from_to (new_value_at new_sizes) 0 n.made) (from_to (slot_at slot_sizes) 0 n.slots)
      (from_to (block_part_at s places numbers slots n.values sets) 0 n.blocks))
