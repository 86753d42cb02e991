-- How large a plan can become: a file has few records, so the values and blocks that planning adds are far fewer than a word
-- can count.
use Prim.Native.Nat.{ℕ, suc, ◌+◌, ◌*◌, ◌≤◌}
use Rattle.std.proofs.Common.{arith, length-append}
use Rattle.std.specs.Prelude.{◌≡◌, refl, Bool, true, false, not, ◌||◌, List, [], ◌∷◌, map, eqb}
use Rattle.std.proofs.Math.Path.{ap}
use Rattle.std.proofs.Math.Option.{Option}
use Rattle.std.proofs.Math.ListN.{length, length-map}
use Rattle.std.proofs.Math.Dec.{T, T_not, not_T, ltb, nltb→le}
use Rattle.rules.specs.Limits.{largest_records, largest_values, largest_blocks, largest_instructions, largest_edges}
use Rattle.rules.specs.Lists.{count, concat_map}
use Rattle.rules.specs.Tree.{Edge, Instruction, Block, Function}
use Rattle.rules.specs.Records.{encode, kind, record_at, record_count, records, first_words}
use Rattle.rules.specs.File.{Section, cut, ordered, of_kind, block_of, function, function_in}
use Rattle.rules.specs.Graph.{block_at, instructions_of, reachable}
use Rattle.rules.specs.Liveness.{listed_instructions}
use Rattle.rules.specs.Refusals.{too_many, all_instructions, all_edges}
use Rattle.rules.specs.declared.EdgeArgument.{EdgeArgument}
use Rattle.rules.specs.declared.Record.{Record}
use Rattle.rules.specs.declared.Words.{Words}
use Rattle.lists.specs.Tests.{or_left}
use Rattle.lists.specs.Members.{◌∈◌, here, there, not-∈-nil, ∈-elim}
use Rattle.lists.specs.Maps.{concat_map-concat_map}
use Rattle.walks.specs.InFile.{reachable-in-file, length-reachable-le}
use Rattle.records.specs.Places.{each-length}
use Rattle.records.specs.Values.{value_of}
use Rattle.records.specs.Parts.{argument, second, cut-heads, parameters-in-order, results-in-order, arguments-in-order, targets-in-order, edge_arguments-in-order}
use Rattle.fixpoint.specs.Sums.{sum}
use Rattle.agreement.specs.Growing.{one, two, edge_cost, instruction_cost, block_cost}
use Rattle.agreement.specs.Accepted.{Accepted, block-in-file}
use Rattle.agreement.specs.Layout.{listed-firsts}

-- what the definitions, uses and edges of one block can ask for, and those of all reachable blocks
abbrev pub block_most : ℕ
block_most = 7 * largest_records

abbrev pub plan_most : ℕ
plan_most = largest_records * block_most

-- SUMS as lengths
sum_one : {A : Type 0} (xs : List A) → sum one xs ≡ length xs
sum_one [] = refl
sum_one (x ∷ xs) = let rest = sum_one xs in omega (arith, rest)

sum-two : {A : Type 0} (xs : List A) → sum two xs ≡ 2 * length xs
sum-two [] = refl
sum-two (x ∷ xs) = let rest = sum-two xs in omega (arith, rest)

-- what a member gives is no longer than what all give
member-length : {A B : Type 0} (g : A → List B) (xs : List A) (x : A) → x ∈ xs → length (g x) ≤ length (concat_map g xs)
member-length g [] x m = absurd (not-∈-nil m)
member-length g (y ∷ ys) x m =
    let long = length-append (g y) (concat_map g ys) in
    ∈-elim (λ e. let same = ap (λ z. length (g z)) e in omega (arith, long, same)) (λ k. omega (arith, long, member-length g ys x k)) m

edges-cost : (es : List Edge) → sum edge_cost es ≡ length es + 2 * length (concat_map (λ e. e.arguments) es)
edges-cost [] = refl
edges-cost (e ∷ es) =
    omega (arith, sum-two e.arguments, edges-cost es, length-append e.arguments (concat_map (λ e. e.arguments) es))

-- what instructions pass
abbrev passed_by : Instruction → List EdgeArgument
passed_by i = concat_map (λ e. e.arguments) i.edges

instructions-cost : (is : List Instruction)
    → sum instruction_cost is
    ≡ length (concat_map (λ i. i.results) is) + 2 * length (concat_map (λ i. i.arguments) is)
    + length (concat_map (λ i. i.edges) is) + 2 * length (concat_map passed_by is)
instructions-cost [] = refl
instructions-cost (i ∷ is) =
    omega (
      arith,
      sum_one i.results,
      sum-two i.arguments,
      edges-cost i.edges,
      instructions-cost is,
      length-append i.results (concat_map (λ i. i.results) is),
      length-append i.arguments (concat_map (λ i. i.arguments) is),
      length-append i.edges (concat_map (λ i. i.edges) is),
      length-append (passed_by i) (concat_map passed_by is),
    )

-- instructions with their lists cost what they cost without
sum-firsts : (xs : List (Instruction × Option (List ℕ)))
    → sum (λ (x : Instruction × Option (List ℕ)). instruction_cost x.0) xs ≡ sum instruction_cost (map (λ (x : Instruction × Option (List ℕ)). x.0) xs)
sum-firsts [] = refl
sum-firsts (x ∷ xs) = ap (λ n. instruction_cost x.0 + n) (sum-firsts xs)

-- a sum over blocks that each ask for no more than one can
sum-bounded : {A : Type 0} (g : A → ℕ) (xs : List A) → ((x : A) → x ∈ xs → g x ≤ block_most) → sum g xs ≤ length xs * block_most
sum-bounded g [] h = omega arith
sum-bounded g (x ∷ xs) h = omega (arith, h x (here refl), sum-bounded g xs (λ y m. h y (there m)))

-- RECORDS of a kind are some of all
kind-few : (k : ℕ) (rs : List Record) → length (of_kind k rs) ≤ length rs
kind-few k [] = omega arith
kind-few k (r ∷ rs) = go (eqb (kind r) k) (kind-few k rs)
  where
    go : (c : Bool) → length (of_kind k rs) ≤ length rs
        → length {A = Words} (elim c [ true ↦ encode r ∷ of_kind k rs | false ↦ of_kind k rs ]) ≤ suc (length rs)
    go true h = omega arith
    go false h = omega arith

module _ (s : List ℕ) (few : T (not (too_many s))) (order : T (ordered 0 (records s))) where
  abbrev f : Function
  f = function_in s

  abbrev rs : List Record
  rs = records s

  records-few : length rs ≤ largest_records
  unfolding records
  records-few =
      let of : ℕ → ℕ = λ k. count (eqb k) (first_words s) in
      let above = ltb largest_records (record_count s) in
      let fine : T (not above) =
      not_T above
      (λ t.
      T_not (too_many s) few
      (or_left (above || ltb largest_values (of 1) || ltb largest_blocks (of 2) || ltb largest_instructions (of 4)) (ltb largest_edges (of 7))
      (or_left (above || ltb largest_values (of 1) || ltb largest_blocks (of 2)) (ltb largest_instructions (of 4))
      (or_left (above || ltb largest_values (of 1)) (ltb largest_blocks (of 2)) (or_left above (ltb largest_values (of 1)) t))))) in
      omega (arith, nltb→le largest_records (record_count s) fine, each-length (λ t. record_at t 0) (record_count s) s)

  -- a file's values and blocks
  pub values-few : length f.values ≤ largest_records
  unfolding function
  values-few =
      omega (arith, records-few, kind-few 1 rs, length-map (of_kind 1 rs) value_of)

  pub blocks-few : length f.blocks ≤ largest_records
  unfolding function
  blocks-few =
      let ss = (cut (eqb 2) rs).sections in
      omega (arith, records-few, kind-few 2 rs, length-map ss block_of, length-map ss (λ (x : Section). encode x.head), ap length (cut-heads 2 rs))

  -- what all instructions and blocks have of a kind
  results-few : length (concat_map (λ i. i.results) (all_instructions f)) ≤ largest_records
  results-few = omega (arith, records-few, kind-few 5 rs, length-map (of_kind 5 rs) second, ap length (results-in-order rs order))

  arguments-few : length (concat_map (λ i. i.arguments) (all_instructions f)) ≤ largest_records
  arguments-few = omega (arith, records-few, kind-few 6 rs, length-map (of_kind 6 rs) second, ap length (arguments-in-order rs order))

  edges_few : length (all_edges f) ≤ largest_records
  edges_few =
      omega (arith, records-few, kind-few 7 rs, length-map (of_kind 7 rs) second, length-map (all_edges f) (λ (e : Edge). e.target), ap length (targets-in-order rs order))

  passed-few : length (concat_map passed_by (all_instructions f)) ≤ largest_records
  passed-few =
      omega (
        arith,
        records-few,
        kind-few 8 rs,
        length-map (of_kind 8 rs) argument,
        ap length (edge_arguments-in-order rs order),
        ap length (concat_map-concat_map (λ (e : Edge). e.arguments) (λ (i : Instruction). i.edges) (all_instructions f)),
      )

  parameters-few : length (concat_map (λ b. b.parameters) f.blocks) ≤ largest_records
  parameters-few = omega (arith, records-few, kind-few 3 rs, length-map (of_kind 3 rs) second, ap length (parameters-in-order rs order))

  -- what a block of the file has of it
  block-of-all : {B : Type 0} (part : Instruction → List B) (b : Block) → b ∈ f.blocks
      → length (concat_map part (instructions_of b)) ≤ length (concat_map part (all_instructions f))
  block-of-all part b m =
      omega (
        arith,
        member-length (λ (b : Block). concat_map part (instructions_of b)) f.blocks b m,
        ap length (concat_map-concat_map part instructions_of f.blocks),
      )

  block-cost : (b : ℕ) → block_at f b ∈ f.blocks → block_cost f b ≤ block_most
  block-cost b m =
      let is = instructions_of (block_at f b) in
      omega (
        arith,
        sum-firsts (listed_instructions f b),
        ap (sum instruction_cost) (listed-firsts f b),
        instructions-cost is,
        block-of-all (λ i. i.results) (block_at f b) m,
        block-of-all (λ i. i.arguments) (block_at f b) m,
        block-of-all (λ i. i.edges) (block_at f b) m,
        block-of-all passed_by (block_at f b) m,
        results-few,
        arguments-few,
        edges_few,
        passed-few,
        sum_one (block_at f b).parameters,
        member-length (λ (b : Block). b.parameters) f.blocks (block_at f b) m,
        parameters-few,
      )

  -- So a plan of the whole asks for far less than a word can count.
  pub cost-few : Accepted f → sum (block_cost f) (reachable f) ≤ plan_most
  cost-few accepted =
      let all-bounded =
      sum-bounded (block_cost f) (reachable f)
      (λ b m. block-cost b (block-in-file f accepted b (reachable-in-file f accepted.in-file accepted.some_block m))) in
      omega (arith, all-bounded, length-reachable-le f accepted.in-file accepted.some_block, blocks-few)
