-- Demand 3 as one statement about bytes, and its premise: domination, by paths.
use Rattle.std.specs.Prelude.{ℕ, ◌≡◌, Bool, true, T, is_ok}
use mathlib.Core.List.{List, [], ◌∷◌, ◌++◌, Memᴰ}
use Rattle.rules.specs.Lists.{concat_map, nothing}
use Rattle.rules.specs.Tree.{Instruction, Function}
use Rattle.rules.specs.Records.{IsBytes}
use Rattle.rules.specs.File.{function_in}
use Rattle.rules.specs.Graph.{block_at, is_marked, instructions_of, values_passed, successors}
use Rattle.rules.specs.Services.{rewriting_answer, rewriting_output, final_records}
use Rattle.rules.specs.TwoRuns.{World, Mover, trace}

-- a path from block 0 to a block, with the blocks passed before it, last first
pub data PathTo (f : Function) : ℕ → List ℕ → Type 0 where
  start : PathTo f 0 []
  onward : {b t : ℕ} {passed : List ℕ} → PathTo f b passed → Memᴰ t (successors f b) → PathTo f t (b ∷ passed)

-- the values that a list of instructions defines, and those that a block does
abbrev pub results_of : List Instruction → List ℕ
results_of is = concat_map (λ i. i.results) is

abbrev pub defined_in : Function → ℕ → List ℕ
defined_in f b = (block_at f b).parameters ++ results_of (instructions_of (block_at f b))

-- Every use is dominated by its definition: on every path to it the definition comes before. Arguments and contexts are
-- used before their instruction, edge arguments after it.
pub record Dominated (f : Function) : Type 0 where
  pub before :
      {b : ℕ} {passed : List ℕ} → PathTo f b passed
      → (earlier : List Instruction) (i : Instruction) (later : List Instruction) → instructions_of (block_at f b) ≡ earlier ++ (i ∷ later)
      → (v : ℕ) → Memᴰ v (i.arguments ++ i.contexts)
      → Memᴰ v (concat_map (defined_in f) passed ++ ((block_at f b).parameters ++ results_of earlier))
  pub after :
      {b : ℕ} {passed : List ℕ} → PathTo f b passed
      → (earlier : List Instruction) (i : Instruction) (later : List Instruction) → instructions_of (block_at f b) ≡ earlier ++ (i ∷ later)
      → (v : ℕ) → Memᴰ v (values_passed i)
      → Memᴰ v (concat_map (defined_in f) passed ++ ((block_at f b).parameters ++ results_of (earlier ++ (i ∷ []))))

-- in these runs each instruction of the file is a step
abbrev pub every_instruction : Instruction → Bool
every_instruction _ = true

-- the file that rewriting leaves, by its own answer
abbrev pub final_file : List ℕ → ℕ → ℕ → List ℕ
final_file s pointer n = final_records (rewriting_answer s pointer n) s (rewriting_output s pointer n)

-- For every accepted file in which every reachable use is dominated, every world, mover, first content of words and slots
-- and number of steps: the original, in which every marked value defined so far moves, and the final records, in which
-- only the listed slots move, are seen to do the same.
unfoldable pub Demand3 : Type 0
Demand3 =
    (s : List ℕ) (pointer n : ℕ) → IsBytes s → T (is_ok (rewriting_answer s pointer n)) → Dominated (function_in s)
    → (world : World) (mover : Mover) (words words' slots slots' : ℕ → ℕ) (steps : ℕ)
    → trace (function_in s) every_instruction (is_marked (function_in s)) world mover words slots steps
    ≡ trace (function_in (final_file s pointer n)) every_instruction nothing world mover words' slots' steps
