-- `planning_edges::landings::plan_all_landed` meets its contract.
use Rattle.planning_edges.specs.Landed.{landed_at}
use Rattle.planning.specs.Walking.{walked_start, walked-turn, room-turn}
use Rattle.planning.specs.Lent.{lent-none, lent-then, tables_of}
use Rattle.rules.specs.File.{function_in}
use native.Mathlib.Omega.{arith}
use Prim.Native.Nat.{◌-◌}
use mathlib.Core.Path.{◌≡◌}
use Rattle.planning_edges.proofs.landings.plan_all_landed.Goals as goal

pub loop-place-init : goal.loop-place-init
loop-place-init c =
    let none : c.args.start - c.args.start ≡ 0 = omega arith in
    (rw none (walked_start (function_in c.args.spilled.file.bytes.now) (landed_at c.args.spilled.file.bytes.now c.args.spiller.now.pointer c.args.start c.args.first) c.args.start (tables_of c.args.spiller.now) c.args.spiller.now.numbers.now), lent-none c.args.spiller.now)

pub plan_landed-requires : goal.plan_landed-requires
plan_landed-requires c = (c.loop-place.auto.place, omega (arith, c.loop-place-test.true, c.requires.0.in_file), omega (arith, c.loop-place-test.true, c.requires.0.in_numbers, c.loop-place.invariant.0.long), c.requires.1, room-turn (function_in c.args.spilled.file.bytes.now) (λ pointer. landed_at c.args.spilled.file.bytes.now pointer c.args.start c.args.first) c.args.start c.loop-place.place c.loop-place.auto.place (tables_of c.args.spiller.now) (tables_of c.loop-place.spiller) c.args.spiller.now.numbers.now c.loop-place.spiller.numbers.now c.loop-place.invariant.0 c.args.end c.loop-place-test.true c.requires.2)

pub loop-place-preserved : goal.loop-place-preserved
loop-place-preserved c = (walked-turn (function_in c.args.spilled.file.bytes.now) (λ pointer. landed_at c.args.spilled.file.bytes.now pointer c.args.start c.args.first) c.args.start c.loop-place.place c.loop-place.auto.place (tables_of c.args.spiller.now) (tables_of c.loop-place.spiller) c.args.spiller.now.numbers.now c.loop-place.spiller.numbers.now c.loop-place.invariant.0 _ _ c.plan_landed.ensures.walked, lent-then c.args.spiller.now c.loop-place.spiller c.plan_landed.new.spiller c.loop-place.invariant.1 c.plan_landed.ensures.lent)

pub returns-clause-walked : goal.returns-clause-walked
returns-clause-walked c =
    let all : c.loop-place.place ≡ c.args.end = omega (arith, c.loop-place-test.false, c.loop-place.auto.place-end c.requires.0.up) in
    rw all at c.loop-place.invariant.0
