-- `planning::SafepointSpiller::plan_uses` meets its contract.
use Rattle.planning.specs.Walking.{walked_start, walked-turn, room-turn}
use Rattle.planning.specs.Lent.{lent-none, lent-then, tables_of}
use native.Mathlib.Omega.{arith}
use mathlib.Core.Path.{◌≡◌}
use Rattle.rules.specs.File.{function_in}
use Rattle.planning.specs.Operands.{use_at}
use Prim.Native.Nat.{◌-◌}
use Rattle.planning.proofs.SafepointSpiller.plan_uses.Goals as goal

pub loop-place-init : goal.loop-place-init
loop-place-init c =
    let none : c.args.start - c.args.start ≡ 0 = omega arith in
    (rw none (walked_start (function_in c.args.spilled.file.bytes.now) (use_at c.args.spilled.file.bytes.now c.args.self.now.pointer c.args.kind) c.args.start (tables_of c.args.self.now) c.args.self.now.numbers.now), lent-none c.args.self.now)

pub plan_use-requires : goal.plan_use-requires
plan_use-requires c = (omega (arith, c.loop-place-test.true, c.requires.0.in_file), omega (arith, c.loop-place-test.true, c.requires.0.in_numbers, c.loop-place.invariant.0.long), room-turn (function_in c.args.spilled.file.bytes.now) (λ pointer. use_at c.args.spilled.file.bytes.now pointer c.args.kind) c.args.start c.loop-place.place c.loop-place.auto.place (tables_of c.args.self.now) (tables_of c.loop-place.self) c.args.self.now.numbers.now c.loop-place.self.numbers.now c.loop-place.invariant.0 c.args.end c.loop-place-test.true c.requires.1)

pub loop-place-preserved : goal.loop-place-preserved
loop-place-preserved c =
    (walked-turn (function_in c.args.spilled.file.bytes.now) (λ pointer. use_at c.args.spilled.file.bytes.now pointer c.args.kind) c.args.start c.loop-place.place c.loop-place.auto.place (tables_of c.args.self.now) (tables_of c.loop-place.self) c.args.self.now.numbers.now c.loop-place.self.numbers.now c.loop-place.invariant.0 _ _ c.plan_use.ensures.walked, lent-then c.args.self.now c.loop-place.self c.plan_use.new.self c.loop-place.invariant.1 c.plan_use.ensures.lent)

pub returns-clause-walked : goal.returns-clause-walked
returns-clause-walked c =
    let all : c.loop-place.place ≡ c.args.end = omega (arith, c.loop-place-test.false, c.loop-place.auto.place-end c.requires.0.up) in
    rw all at c.loop-place.invariant.0
