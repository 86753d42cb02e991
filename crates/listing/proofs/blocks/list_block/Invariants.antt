-- `listing::blocks::list_block` meets its contract.
use Prim.Native.Nat.{◌≤◌}
use mathlib.Core.Path.{◌≡◌}
use lib.ListN.{length}
use Rattle.rows.specs.Rows.{rows}
use Rattle.listing.specs.Stepping.{Reached}
use Rattle.listing.proofs.blocks.list_block.Given as goal

abbrev pub invariant-loop-p : goal.invariant-loop-p
invariant-loop-p l = (l.fn.body.start ≤ l.p) × (length l.live ≡ 8)
    × Reached l.file.bytes.now l.fn.body.end l.behind (rows l.outs l.b) (rows l.initial.lists) l.p l.at (rows l.live) (rows l.lists)
