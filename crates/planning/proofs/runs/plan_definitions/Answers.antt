-- `planning::runs::plan_definitions` meets its contract.
use Rattle.rules.specs.File.{function_in}
use Rattle.planning.specs.Operands.{define_at}
use Rattle.planning.specs.Standing.{tables}
use Rattle.planning.specs.Walking.{walked_start, walked-turn, room-turn}
use native.Mathlib.Omega.{arith}
use mathlib.Core.Path.{◌≡◌}
use Prim.Native.Nat.{◌-◌}
use Rattle.planning.proofs.runs.plan_definitions.Goals as goal

pub loop-place-init : goal.loop-place-init
loop-place-init c =
    let none : c.args.start - c.args.start ≡ 0 = omega arith in
    rw none (walked_start (function_in c.args.spilled.file.bytes.now) (define_at c.args.spilled.file.bytes.now c.args.p.pointer c.args.kind) c.args.start (tables c.args.asked.now c.args.steps.now c.args.sizes.now c.args.p) c.args.numbers.now)

pub plan_definition-done-requires : goal.plan_definition-done-requires
plan_definition-done-requires c = (omega (arith, c.loop-place-test.true, c.requires.0.in_file), omega (arith, c.loop-place-test.true, c.requires.0.in_numbers, c.loop-place.invariant.long), room-turn (function_in c.args.spilled.file.bytes.now) (λ pointer. define_at c.args.spilled.file.bytes.now pointer c.args.kind) c.args.start c.loop-place.place c.loop-place.auto.place (tables c.args.asked.now c.args.steps.now c.args.sizes.now c.args.p) (tables c.args.asked.now c.loop-place.steps c.loop-place.sizes c.loop-place.done) c.args.numbers.now c.loop-place.numbers c.loop-place.invariant c.args.end c.loop-place-test.true c.requires.1)

pub loop-place-preserved : goal.loop-place-preserved
loop-place-preserved c =
    walked-turn (function_in c.args.spilled.file.bytes.now) (λ pointer. define_at c.args.spilled.file.bytes.now pointer c.args.kind) c.args.start c.loop-place.place c.loop-place.auto.place (tables c.args.asked.now c.args.steps.now c.args.sizes.now c.args.p) (tables c.args.asked.now c.loop-place.steps c.loop-place.sizes c.loop-place.done) c.args.numbers.now c.loop-place.numbers c.loop-place.invariant _ _ c.plan_definition-done.ensures

pub returns : goal.returns
returns c =
    let all : c.loop-place.place ≡ c.args.end = omega (arith, c.loop-place-test.false, c.loop-place.auto.place-end c.requires.0.up) in
    rw all at c.loop-place.invariant
