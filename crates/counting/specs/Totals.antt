-- HOW MANY RECORDS THERE ARE IN ALL: the file's, a record for each new value and each slot, what is added to each reachable
-- block, and a map entry for each listed value.
use Prim.Native.Nat.{ℕ, zero, suc, ◌+◌, ◌≤◌}
use Rattle.std.specs.Prelude.{◌≡◌, refl, Bool, get_or, T, eqb}
use Rattle.std.proofs.Common.{sym, subst, ◌∙◌, eqb→eq}
use Rattle.std.proofs.Math.Path.{ap}
use Rattle.std.proofs.Math.Bool.{true, false}
use Rattle.std.proofs.Math.Option.{Option, none, some}
use mathlib.Core.List.{List, [], ◌∷◌, ◌++◌, map}
use native.Mathlib.Omega.{arith}
use Rattle.std.proofs.Math.ListN.{length, length-append, length-map}
use Rattle.rules.specs.Lists.{has, is_none, concat_map, zip_with, up_from}
use Rattle.rules.specs.Tree.{Instruction, instruction, Block, Function}
use Rattle.rules.specs.Records.{IsBytes, records}
use Rattle.rules.specs.File.{ordered, block_records, function_records, function_in}
use Rattle.rules.specs.Graph.{block_at, size_of, instructions_of, reachable}
use Rattle.rules.specs.Liveness.{process, lists_among, lists_of, listed_instructions, lists}
use Rattle.rules.specs.Refusals.{numbered_from}
use Rattle.rules.specs.Plan.{BlockPlan, planned}
use Rattle.rules.specs.Rewriting.{slot_number, laid, rewritten}
use Rattle.rules.specs.declared.Record.TheVariants as record'
use Rattle.lists.specs.Tests.{test-elim, T_and, is_false, chosen, left_out}
use Rattle.lists.specs.Members.{◌∈◌, here, there, not-∈-nil, ∈-elim, has→∈}
use Rattle.lists.specs.Pairs.{Paired, each-paired}
use Rattle.lists.specs.Maps.{concat_map-append}
use Rattle.fixpoint.specs.Sums.{sum, sum-add, sum-cong}
use Rattle.agreement.specs.Accepted.{Accepted, block-by-number}
use Rattle.agreement.specs.Layout.{lists_length, listed-firsts, laid-planned, laid-copied}
use Rattle.agreement.specs.Plans.{value_limit, BlockNumbered}
use Rattle.agreement.specs.Rewritten.{listed-instruction, blocks-numbered}
use Rattle.demand3.specs.Words.{entries_none}
use Rattle.rows.specs.Rows.{row_values, size, size-members}
use Rattle.listing.specs.Crossings.{listed}
use Rattle.listing.specs.Listed.{listed-none}
use Rattle.listing.specs.Ascending.{size-ascending, list-ascending}
use Rattle.numbering.specs.Beside.{block_plan_at}
use Rattle.counting.specs.Added.{block_adds, entry_count, blocks_length, Plain, block-length}

-- what the numbers of block b add, if it is reachable
unfoldable pub block_added : (s numbers : List ℕ) → ℕ → ℕ
block_added s numbers b = elim (has b (reachable (function_in s))) [ true ↦ block_adds (block_plan_at s numbers b) | false ↦ 0 ]

-- SUMS
sum-append : {A : Type 0} (g : A → ℕ) (xs ys : List A) → sum g (xs ++ ys) ≡ sum g xs + sum g ys
sum-append g [] ys = omega arith
sum-append g (x ∷ xs) ys = omega (arith, sum-append g xs ys)

sum-concat_map : {A B : Type 0} (g : B → ℕ) (h : A → List B) (xs : List A) → sum g (concat_map h xs) ≡ sum (λ x. sum g (h x)) xs
sum-concat_map g h [] = refl
sum-concat_map g h (x ∷ xs) = omega (arith, sum-append g (h x) (concat_map h xs), sum-concat_map g h xs)

-- by place
sum-behind : (g : ℕ → ℕ) (a n : ℕ) → sum g (up_from (suc a) n) ≡ sum (λ i. g (suc i)) (up_from a n)
sum-behind g a zero = refl
sum-behind g a (suc n) = ap (λ k. g (suc a) + k) (sum-behind g (suc a) n)

sum-by-place : {A : Type 0} (g : A → ℕ) (xs : List A) (d : A) → sum g xs ≡ sum (λ i. g (get_or xs i d)) (up_from 0 (length xs))
sum-by-place g [] d = refl
sum-by-place g (x ∷ xs) d = ap (λ n. g x + n) (sum-by-place g xs d ∙ sym (sum-behind (λ i. g (get_or (x ∷ xs) i d)) 0 (length xs)))

-- ENTRIES of lists
zip-seconds : {A B : Type 0} (w : B → ℕ) (xs : List A) (ys : List B) → length ys ≡ length xs
    → sum (λ (z : A × B). w z.1) (zip_with (λ x y. (x, y)) xs ys) ≡ sum w ys
zip-seconds w [] [] e = refl
zip-seconds w [] (y ∷ ys) e = absurd (omega arith)
zip-seconds w (x ∷ xs) [] e = absurd (omega arith)
zip-seconds w (x ∷ xs) (y ∷ ys) e = ap (λ n. w y + n) (zip-seconds w xs ys (omega arith))

nones-entries : {A : Type 0} (xs : List A) → sum entry_count (map (λ _. none) xs) ≡ 0
nones-entries [] = refl
nones-entries (x ∷ xs) = omega (arith, nones-entries xs)

module _ (f : Function) where
  -- the entries in a block's maps
  abbrev entries_at : ℕ → ℕ
  entries_at b = sum entry_count (lists_of f b)

  entries-listed : (b : ℕ) → sum (λ (x : Instruction × Option (List ℕ)). entry_count x.1) (listed_instructions f b) ≡ entries_at b
  entries-listed b = zip-seconds entry_count (instructions_of (block_at f b)) (lists_of f b) (lists_length f b)

  entries-unreachable : (b : ℕ) → has b (reachable f) ≡ false → entries_at b ≡ 0
  unfolding lists_of
  entries-unreachable b e =
      let is = instructions_of (block_at f b) in
      ap (λ (r : Bool). sum entry_count (elim r as (λ _. List (Option (List ℕ))) [ true ↦ lists_among f is ((process f).outs b) | false ↦ map (λ _. none) is ])) e
      ∙ nones-entries is

  -- a list has as many as its row has values
  entry_row : length f.values ≤ row_values → (i : ℕ) → entry_count (get_or (lists f) i none) ≡ size (listed f i)
  entry_row few i = go (is_none (get_or (lists f) i none)) refl
    where
      no-entries : (x : Option (List ℕ)) → is_none x ≡ true → entry_count x ≡ 0
      no-entries none e = refl
      no-entries (some _) e = absurd (subst T (sym e) tt)

      go : (b : Bool) → is_none (get_or (lists f) i none) ≡ b → entry_count (get_or (lists f) i none) ≡ size (listed f i)
      go true e =
          let empty = listed-none f i e in
          no-entries (get_or (lists f) i none) e ∙ sym (size-members 0 (listed f i) (omega arith) (λ v _. ap (λ set. set v) empty))
      go false e = ap entry_count (list-ascending f few i e) ∙ sym (size-ascending (listed f i))

  pub entries-by-rows :
      length f.values ≤ row_values → sum entry_count (lists f) ≡ sum (λ i. size (listed f i)) (up_from 0 (length (lists f)))
  entries-by-rows few =
      sum-by-place entry_count (lists f) none
      ∙ sum-cong (λ i. entry_count (get_or (lists f) i none)) (λ i. size (listed f i)) (entry_row few) (up_from 0 (length (lists f)))

-- a plan beside a block is that block's
paired-map : {A B : Type 0} (g : A → B) (xs : List A) (x : A) (y : B) → Paired x y xs (map g xs) → y ≡ g x
paired-map g [] x y m = absurd (not-∈-nil m)
paired-map {A} {B} g (a ∷ xs) x y m =
    ∈-elim (λ e. ap (λ (z : A × B). z.1) e ∙ sym (ap (λ (z : A × B). g z.0) e)) (paired-map g xs x y) m

-- blocks that have their positions for numbers
numbers_up : (n : ℕ) (bs : List Block) → T (numbered_from n bs) → map (λ (b : Block). b.number) bs ≡ up_from n (length bs)
numbers_up n [] t = refl
numbers_up n (b ∷ bs) t =
    let both = T_and (eqb b.number n) (numbered_from (suc n) bs) t in
    ap (λ (x : ℕ). x ∷ map (λ (b : Block). b.number) bs) (eqb→eq b.number n both.0) ∙ ap (λ (xs : List ℕ). n ∷ xs) (numbers_up (suc n) bs both.1)

module _ (s numbers : List ℕ) (pointer : ℕ) (bytes : IsBytes s) (order : T (ordered 0 (records s))) (accepted : Accepted (function_in s)) (plans : map (block_plan_at s numbers) (reachable (function_in s)) ≡ (planned (function_in s) pointer).0) where
  abbrev f : Function
  f = function_in s

  abbrev laid_out : Block → List Block
  laid_out = laid f pointer (reachable f) (planned f pointer).0

  -- A BLOCK with what is added to it
  abbrev added_at : ℕ → ℕ
  added_at b = block_added s numbers b + entries_at f b

  laid-length : (b : Block) → b ∈ f.blocks → blocks_length (laid_out b) ≡ length (block_records b) + added_at b.number
  unfolding block_added
  laid-length b m =
      test-elim (has t (reachable f))
      (λ y.
      let found = laid-planned f pointer (BlockNumbered f limit) (reachable f) (planned f pointer).0 (blocks-numbered f pointer accepted) b (has→∈ (reachable f) y) in
      let n = found.0 in
      let numbered = each-paired (BlockNumbered f limit) (reachable f) (planned f pointer).0 (blocks-numbered f pointer accepted) found.1 in
      let plan : n ≡ block_plan_at s numbers t =
      paired-map (block_plan_at s numbers) (reachable f) t n (subst (λ (ns : List BlockPlan). Paired t n (reachable f) ns) (sym plans) found.1) in
      let added = chosen (has t (reachable f)) (block_adds (block_plan_at s numbers t)) 0 y in
      let long =
      block-length f limit (size_of f) (slot_number f pointer) b t n numbered (ap (λ (x : Block). x.parameters) (sym at)) items plain in
      omega (arith, ap blocks_length found.2, long, ap block_adds plan, added, entries-listed f t))
      (λ no-plan.
      let copied = laid-copied f pointer (reachable f) (planned f pointer).0 b no-plan in
      let added = left_out (has t (reachable f)) (block_adds (block_plan_at s numbers t)) 0 no-plan in
      let unlisted = entries-unreachable f t (is_false (has t (reachable f)) no-plan) in
      omega (arith, ap blocks_length copied, length-append (block_records b) [], added, unlisted))
    where
      t : ℕ
      t = b.number

      limit : ℕ
      limit = value_limit f pointer

      at : block_at f t ≡ b
      at = (block-by-number f accepted b m).1

      items : b.items ≡ map instruction (map (λ (x : Instruction × Option (List ℕ)). x.0) (listed_instructions f t))
      items = accepted.plain b m ∙ ap (map instruction) (ap instructions_of (sym at) ∙ sym (listed-firsts f t))

      plain : Plain f limit (size_of f) (slot_number f pointer) (listed_instructions f t)
      plain x k = entries_none s bytes order b m x.0 (subst (λ (c : Block). x.0 ∈ instructions_of c) at (listed-instruction f pointer accepted t x k))

  all_laid : (bs : List Block) → ((b : Block) → b ∈ bs → b ∈ f.blocks)
      → blocks_length (concat_map laid_out bs) ≡ blocks_length bs + sum added_at (map (λ (b : Block). b.number) bs)
  all_laid [] inside = refl
  all_laid (b ∷ bs) inside =
      omega (
        arith,
        laid-length b (inside b (here refl)),
        all_laid bs (λ x m. inside x (there m)),
        ap length (concat_map-append block_records (laid_out b) (concat_map laid_out bs)),
        length-append (concat_map block_records (laid_out b)) (concat_map block_records (concat_map laid_out bs)),
        length-append (block_records b) (concat_map block_records bs),
      )

  -- THE LAW. All records of the rewritten function.
  pub records-counted :
      (made : ℕ) → length (planned f pointer).1.values ≡ length f.values + made → length f.values ≤ row_values
      → length (function_records (rewritten f pointer))
      ≡ length f.values + blocks_length f.blocks + made + length (planned f pointer).1.slots.made
      + sum (block_added s numbers) (up_from 0 (length f.blocks))
      + sum (λ i. size (listed f i)) (up_from 0 (length (lists f)))
  unfolding function_records rewritten
  records-counted made values few =
      let n = length f.blocks in
      let news = map (λ x. record'.Value x.size x.marked) (planned f pointer).1.values in
      let slots = map record'.Slot (planned f pointer).1.slots.made in
      let blocks = concat_map block_records (concat_map laid_out f.blocks) in
      omega (
        arith,
        length-append news (slots ++ blocks),
        length-append slots blocks,
        length-map (planned f pointer).1.values (λ x. record'.Value x.size x.marked),
        length-map (planned f pointer).1.slots.made record'.Slot,
        values,
        all_laid f.blocks (λ b m. m),
        ap (sum added_at) (numbers_up 0 f.blocks accepted.numbered),
        sum-add (block_added s numbers) (entries_at f) (up_from 0 n),
        sum-concat_map entry_count (lists_of f) (up_from 0 n),
        entries-by-rows f few,
      )
