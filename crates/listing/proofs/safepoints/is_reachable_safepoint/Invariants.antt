-- `listing::safepoints::is_reachable_safepoint` meets its contract.
use Prim.Native.Nat.{◌≤◌, ◌-◌}
use mathlib.Core.Path.{◌≡◌}
use mathlib.Core.Option.{none}
use mathlib.Core.Bool.{not}
use lib.ListN.{get_or}
use Rattle.listing.specs.HasList.{there_from}
use Rattle.rules.specs.Liveness.{lists}
use Rattle.rules.specs.Lists.{is_none}
use Rattle.rules.specs.File.{function_in}
use Rattle.listing.proofs.safepoints.is_reachable_safepoint.Given as goal

abbrev pub invariant-loop-b : goal.invariant-loop-b
invariant-loop-b l = (get_or l.numbered.firsts.now l.b 0 ≤ l.i) × (there_from (function_in l.blocks.file.bytes.now) l.b (l.i - get_or l.numbered.firsts.now l.b 0) ≡ not (is_none (get_or (lists (function_in l.blocks.file.bytes.now)) l.i none)))
