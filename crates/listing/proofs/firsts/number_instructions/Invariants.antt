-- `listing::firsts::number_instructions` meets its contract.
use mathlib.Core.Path.{◌≡◌}
use Prim.Native.Nat.{◌≤◌}
use lib.ListN.{length, get_or}
use Rattle.rules.specs.File.{function_in}
use Rattle.listing.specs.Crossings.{crossings_below}
use Rattle.listing.specs.Firsts.{NumberedTo}
use Rattle.listing.proofs.firsts.number_instructions.Given as goal

abbrev pub invariant-loop-b : goal.invariant-loop-b
invariant-loop-b l = (l.first ≡ length (crossings_below (function_in l.blocks.file.bytes.now) l.b)) × (l.first ≤ get_or l.blocks.places.now l.b 0) × NumberedTo l.blocks.file.bytes.now l.b l.initial.firsts l.firsts
