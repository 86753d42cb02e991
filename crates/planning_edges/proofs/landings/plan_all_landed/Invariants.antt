-- `planning_edges::landings::plan_all_landed` meets its contract.
use Rattle.planning_edges.specs.Landed.{landed_at}
use Rattle.planning.specs.Lent.{SameLent, tables_of}
use Rattle.planning.specs.Standing.{Walked}
use Rattle.rules.specs.File.{function_in}
use Prim.Native.Nat.{◌-◌}
use Rattle.planning_edges.proofs.landings.plan_all_landed.Given as goal

abbrev pub invariant-loop-place : goal.invariant-loop-place
invariant-loop-place l =
    Walked (function_in l.spilled.file.bytes.now) (landed_at l.spilled.file.bytes.now l.fn.spiller.pointer l.start l.first) l.start (l.place - l.start) (tables_of l.fn.spiller) l.fn.spiller.numbers.now (tables_of l.spiller) l.spiller.numbers.now
    × SameLent l.fn.spiller l.spiller
