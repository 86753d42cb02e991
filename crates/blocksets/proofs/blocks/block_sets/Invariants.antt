-- `blocksets::blocks::block_sets` meets its contract.
use mathlib.Core.Path.{◌≡◌}
use Rattle.rules.specs.File.{function_in}
use Rattle.fixpoint.specs.Rule.{uses as uses_of, kills as kills_of}
use Rattle.rows.specs.Rows.{rows}
use Rattle.blocksets.specs.BlockSets.{below}
use Rattle.blocksets.proofs.blocks.block_sets.Given as goal

abbrev pub invariant-loop-b : goal.invariant-loop-b
invariant-loop-b l = (rows l.uses ≡ below l.b (uses_of (function_in l.blocks.file.bytes.now))) × (rows l.kills ≡ below l.b (kills_of (function_in l.blocks.file.bytes.now)))
