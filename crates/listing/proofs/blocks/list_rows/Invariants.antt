-- `listing::blocks::list_rows` meets its contract.
use mathlib.Core.Path.{◌≡◌}
use Rattle.rules.specs.File.{function_in}
use Rattle.rows.specs.Rows.{rows}
use Rattle.listing.specs.Crossings.{shown, crossings_below}
use Rattle.listing.proofs.blocks.list_rows.Given as goal

abbrev pub invariant-loop-b : goal.invariant-loop-b
invariant-loop-b l = (rows l.lists ≡ shown (crossings_below (function_in l.numbered.indexed.blocks.file.bytes.now) l.b))
