-- Marked contexts, a block at a time.
use Rattle.std.specs.Prelude.{ℕ, Bool}
use Rattle.rules.specs.Lists.{any}
use Rattle.rules.specs.Tree.{Function}
use Rattle.rules.specs.Graph.{block_at, is_marked, instructions_of}

-- a block has a marked context
abbrev pub block_marked : Function → ℕ → Bool
block_marked f b = any (λ i. any (is_marked f) i.contexts) (instructions_of (block_at f b))
