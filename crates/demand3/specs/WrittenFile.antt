-- The rewritten function of an accepted file can be written, so it is read back from its bytes.
use Rattle.std.specs.Prelude.{ℕ, ◌≤◌, ◌<◌, ◌≡◌, refl, false, not, List, [], length, T, ltb, eqb}
use Rattle.std.proofs.Common.{arith, sym, subst, T_not, ltb→lt, nltb→le, eqb→eq}
use Rattle.std.proofs.Math.Option.{Option, none, some}
use Rattle.std.proofs.Math.ListN.{get_or-eq_default}
use Rattle.rules.specs.Limits.{largest_records}
use Rattle.rules.specs.Lists.{has, or_else}
use Rattle.rules.specs.Tree.{Value, Instruction, Block, Function}
use Rattle.rules.specs.Records.{IsBytes, slot_sizes}
use Rattle.rules.specs.File.{function_records, function_in}
use Rattle.rules.specs.Graph.{block_at, value_at, size_of, instructions_of, reachable}
use Rattle.rules.specs.Liveness.{is_spilled}
use Rattle.rules.specs.Slots.{no_slots}
use Rattle.rules.specs.Plan.{Plan, planned}
use Rattle.rules.specs.Rewriting.{slot_number, rewritten}
use Rattle.rules.specs.Refusals.{all_instructions, spilled_size}
use Rattle.lists.specs.Tests.{test-elim, or_elim}
use Rattle.lists.specs.Members.{◌∈◌, not-∈-nil, get_d-∈, ∈-concat_map}
use Rattle.records.specs.Writing.{IsWord, AllWritable}
use Rattle.walks.specs.InFile.{reachable-in-file}
use Rattle.fixpoint.specs.Sums.{sum}
use Rattle.fixpoint.specs.Finding.{any-intro, ∈-keep, ∈-up_from}
use Rattle.fixpoint.specs.Rule.{marked-in-file}
use Rattle.agreement.specs.Growing.{Grown, block_cost, planned-costs}
use Rattle.agreement.specs.Accepted.{Accepted, block-in-file, edge-in-file, parameter-in-file, argument-in-file, result-in-file, context-in-file}
use Rattle.sharing.specs.Spilled.{spilled-marked}
use Rattle.agreement.specs.Spilled.{listed-spilled}
use Rattle.demand3.specs.SlotTables.{ValueSize, PlanGood, none-good, steps-keep-good}
use Rattle.demand3.specs.Verdicts.{FileAccepted, tree-accepted}
use Rattle.demand3.specs.Words.{value-sized, tag_small, argument-small, entries_none}
use Rattle.demand3.specs.Totals.{plan_most, values-few, blocks-few, cost-few}
use Rattle.demand3.specs.Fine.{FineInstruction, FineFunction, function-writable}
use Rattle.demand3.specs.Writable.{SmallPlan}
use Rattle.demand3.specs.WrittenBlocks.{blocks-fine}

module _ (s : List ℕ) (pointer n : ℕ) (is_bytes : IsBytes s) (file : FileAccepted s pointer n) where
  abbrev f : Function
  f = function_in s

  accepted : Accepted f
  accepted = tree-accepted s pointer n file

  -- SIZES
  value-size : (v : ℕ) → v < length f.values → ValueSize (size_of f v)
  value-size v l = value-sized s is_bytes file.in-order (value_at f v) (get_d-∈ f.values v (record { size = 0; marked = false }) l)

  spilled-inside : (v : ℕ) → T (is_spilled f v) → v < length f.values
  spilled-inside v t = marked-in-file f v (spilled-marked f v t)

  -- refusal 9: a spilled value has a slot's size
  spilled-size : (v : ℕ) → T (is_spilled f v) → T (has (size_of f v) slot_sizes)
  spilled-size v t =
      test-elim (has (size_of f v) slot_sizes) (λ h. h)
      (λ h.
      absurd (T_not (spilled_size f) file.slot-sizes
      (any-intro (λ w. not (has (size_of f w) slot_sizes))
      (∈-keep (is_spilled f) (∈-up_from 0 (length f.values) v (omega arith) (omega (arith, spilled-inside v t))) t) h)))

  pointer-size : ValueSize pointer
  pointer-size =
      or_elim (eqb pointer 4) (eqb pointer 8)
      (λ t. let four = eqb→eq pointer 4 t in (omega (arith, four), omega (arith, four)))
      (λ t. let eight = eqb→eq pointer 8 t in (omega (arith, eight), omega (arith, eight))) file.pointer-size

  parameter-size : (b v : ℕ) → v ∈ (block_at f b).parameters → ValueSize (size_of f v)
  parameter-size b v m =
      test-elim (ltb b (length f.blocks))
      (λ t. value-size v (parameter-in-file f accepted b (ltb→lt b (length f.blocks) t) v m))
      (λ t.
      let nowhere : Block = record { cold = false; number = 0; parameters = []; items = [] } in
      absurd (not-∈-nil (subst (λ (c : Block). v ∈ c.parameters) (get_or-eq_default f.blocks nowhere (nltb→le b (length f.blocks) t)) m)))

  -- THE PLAN
  abbrev begun : Plan
  begun = record { slots = no_slots; values = f.values; blocks = length f.blocks }

  grown : Grown (PlanGood (length f.values)) (sum (block_cost f) (reachable f)) begun (planned f pointer).1
  grown =
      planned-costs f pointer ValueSize (λ v. T (has (size_of f v) slot_sizes) × (v < length f.values)) (PlanGood (length f.values))
      (steps-keep-good f pointer pointer-size (λ v t. (spilled-size v t, spilled-inside v t, value-size v (spilled-inside v t))) parameter-size)
      (λ b m x k v q.
      let t = listed-spilled f b (reachable-in-file f accepted.in-file accepted.some_block m) x k v q in
      (spilled-size v t, spilled-inside v t))

  good : PlanGood (length f.values) (planned f pointer).1
  good = grown.good (record { values = value-sized s is_bytes file.in-order; slots = none-good (length f.values) })

  few-values : length f.values ≤ largest_records
  few-values = values-few s file.few file.in-order

  few-blocks : length f.blocks ≤ largest_records
  few-blocks = blocks-few s file.few file.in-order

  few-costs : sum (block_cost f) (reachable f) ≤ plan_most
  few-costs = cost-few s file.few file.in-order accepted

  slot-word : (v : ℕ) → IsWord (slot_number f pointer v)
  slot-word v = go ((planned f pointer).1.slots.slot_of v) refl
    where
      go : (o : Option ℕ) → (planned f pointer).1.slots.slot_of v ≡ o → IsWord (or_else 0 o)
      go none e = omega arith
      go (some k) e = omega (arith, good.slots.given v k e, good.slots.few, few-values)

  size_word : (v : ℕ) → IsWord (size_of f v)
  size_word v =
      test-elim (ltb v (length f.values))
      (λ t. let size = value-size v (ltb→lt v (length f.values) t) in omega (arith, size.1))
      (λ t.
      let none : Value = record { size = 0; marked = false } in
      subst (λ (x : Value). IsWord x.size) (sym (get_or-eq_default f.values none (nltb→le v (length f.values) t))) (omega arith))

  -- an instruction of the file
  own-fine : (b : ℕ) → b < length f.blocks → (i : Instruction) → i ∈ instructions_of (block_at f b) → FineInstruction i
  own-fine b inside i m =
      let stands = block-in-file f accepted b inside in
      let known : i ∈ all_instructions f = ∈-concat_map instructions_of stands m in
      record {
        tag = tag_small s is_bytes file.in-order (block_at f b) stands i m;
        arguments = λ v k. omega (arith, argument-in-file f accepted b inside i m v k, few-values);
        results = λ v k. omega (arith, result-in-file f accepted b inside i m v k, few-values);
        edges = λ e k.
            record {
              target = omega (arith, edge-in-file f accepted b inside i m e k, few-blocks);
              arguments = argument-small s is_bytes file.in-order e (∈-concat_map (λ (i : Instruction). i.edges) known k);
            };
        contexts = λ v k. omega (arith, context-in-file f accepted b inside i m v k, few-values);
        entries = λ x k. absurd (not-∈-nil (subst (◌∈◌ x) (entries_none s is_bytes file.in-order (block_at f b) stands i m) k));
      }

  small-plan : SmallPlan f pointer
  small-plan =
      record {
        values = grown.values;
        numbers = λ a l. omega (arith, l, grown.values-by, few-values, few-costs);
        blocks = λ b l. omega (arith, l, grown.blocks-by, few-blocks, few-costs);
        own-blocks = grown.blocks;
        slots = slot-word;
        sizes = size_word;
        own = own-fine;
      }

  -- Its records can be written.
  rewritten-fine : FineFunction (rewritten f pointer)
  unfolding rewritten
  rewritten-fine = record { values = good.values; slots = good.slots.sizes; blocks = blocks-fine f pointer accepted small-plan }

  pub rewritten-writable : AllWritable (function_records (rewritten f pointer))
  rewritten-writable = function-writable (rewritten f pointer) rewritten-fine
