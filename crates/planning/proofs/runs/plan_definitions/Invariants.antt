-- `planning::runs::plan_definitions` meets its contract.
use Rattle.rules.specs.File.{function_in}
use Rattle.planning.specs.Operands.{define_at}
use Rattle.planning.specs.Standing.{tables, Walked}
use Prim.Native.Nat.{◌-◌}
use Rattle.planning.proofs.runs.plan_definitions.Given as goal

abbrev pub invariant-loop-place : goal.invariant-loop-place
invariant-loop-place l =
    Walked (function_in l.spilled.file.bytes.now) (define_at l.spilled.file.bytes.now l.fn.p.pointer l.kind) l.start (l.place - l.start) (tables l.asked l.fn.steps l.fn.sizes l.fn.p) l.fn.numbers (tables l.asked l.steps l.sizes l.done) l.numbers
