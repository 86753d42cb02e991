-- The parts of a function that comes in, by number, and the walk that gives the reachable blocks their post-order indices.
use Rattle.std.specs.Prelude.{ℕ, zero, suc, Bool, true, false, List, [], ◌∷◌, map, reverse, length, get_or}
use Rattle.rules.specs.Lists.{concat_map, foldl, has}
use Rattle.rules.specs.Tree.{Value, Edge, Instruction, Item, instruction, slot_address, store, load, jump, Block, Function}
use Rattle.rules.specs.declared.EdgeArgument.{EdgeArgument}
use Rattle.rules.specs.declared.EdgeArgument.TheVariants as passes

-- block b, by position, which is its number in a file that is accepted
abbrev pub block_at : Function → ℕ → Block
block_at f b = get_or f.blocks b (record { cold = false; number = 0; parameters = []; items = [] })

abbrev pub value_at : Function → ℕ → Value
value_at f v = get_or f.values v (record { size = 0; marked = false })

abbrev pub size_of : Function → ℕ → ℕ
size_of f v = (value_at f v).size

abbrev pub is_marked : Function → ℕ → Bool
is_marked f v = (value_at f v).marked

-- the instructions among items
abbrev pub instructions_among : List Item → List Instruction
instructions_among [] = []
instructions_among (instruction i ∷ xs) = i ∷ instructions_among xs
instructions_among (slot_address _ _ ∷ xs) = instructions_among xs
instructions_among (store _ _ ∷ xs) = instructions_among xs
instructions_among (load _ _ _ ∷ xs) = instructions_among xs
instructions_among (jump _ ∷ xs) = instructions_among xs

abbrev pub instructions_of : Block → List Instruction
instructions_of b = instructions_among b.items

-- the values among edge arguments
abbrev pub values_among : List EdgeArgument → List ℕ
values_among [] = []
values_among (passes.Value v ∷ xs) = v ∷ values_among xs
values_among (passes.Returned _ ∷ xs) = values_among xs
values_among (passes.Exception _ ∷ xs) = values_among xs

-- the values that an instruction's edges pass, in file order
abbrev pub values_passed : Instruction → List ℕ
values_passed i = concat_map (λ e. values_among e.arguments) i.edges

-- the edges out of a block, in file order
abbrev pub edges_out : Block → List Edge
edges_out b = concat_map (λ i. i.edges) (instructions_of b)

-- the blocks that a block's edges lead to, once an edge, in file order
abbrev pub successors : Function → ℕ → List ℕ
successors f b = map (λ e. e.target) (edges_out (block_at f b))

-- how far a walk has come: the blocks entered, and those whose edges are done, each last first
pub record Walk : Type 0 where
  pub entered : List ℕ
  pub done : List ℕ

-- a walk goes on into block b, at most depth blocks deep: a block already entered is skipped
abbrev pub enter : Function → ℕ → Walk → ℕ → Walk
enter f zero w b = w
enter f (suc depth) w b =
    elim (has b w.entered) [
      | true ↦ w
      | false ↦
          let inside : Walk = foldl (enter f depth) (record { entered = b ∷ w.entered; done = w.done }) (successors f b) in
          record { entered = inside.entered; done = b ∷ inside.done }
    ]

-- The reachable blocks by ascending post-order index. No walk is deeper than the blocks are many.
unfoldable pub reachable : Function → List ℕ
reachable f = reverse (enter f (suc (length f.blocks)) (record { entered = []; done = [] }) 0).done
