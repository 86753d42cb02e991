-- `solving::solve` meets its contract.
use Rattle.std.proofs.Common.{refl, arith}
use Rattle.solving.specs.Progress.{Popped}
use Rattle.solving.proofs.Solving.{start-requires, count_fits, start-stands, live-tables, ready, solved, solving-less, solving-more}
use Rattle.solving.proofs.solve.Goals as goal
use Rattle.solving.proofs.solve.Goals.{In-Some}

pub stacked-requires : goal.stacked-requires
stacked-requires c =
    let e = c.args.equations in
    start-requires e.reachable.walked e.ruled c.requires

pub overflow_cast-at : goal.overflow_cast-at
overflow_cast-at c =
    let e = c.args.equations in
    omega (arith, count_fits e.reachable.walked e.ruled c.requires)

pub loop-b-init : goal.loop-b-init
loop-b-init c =
    let e = c.args.equations in
    start-stands e.reachable.walked e.ruled c.requires c.stacked.result c.stacked.ensures.0 c.stacked.ensures.1

-- the block was on top
popped : (c : In-Some)
    → Popped c.loop-b.at c.in-Some.b (record { worklist = c.pop.new.self; visits = c.loop-b.at.visits; pushes = c.loop-b.at.pushes })
popped c =
    let h = rw c.in-Some.is at c.pop.ensures in
    record { left = h.0; visits = refl; pushes = refl }

pub visit-requires : goal.visit-requires
visit-requires c =
    let e = c.args.equations in
    let at = goal.at.visit-requires c in (
      live-tables e.reachable.walked e.ruled c.requires _ _ _ c.loop-b.invariant c.loop-b.auto.ins c.loop-b.auto.outs,
      ready e.reachable.walked e.ruled c.requires _ _ _ c.loop-b.invariant _ _ (popped at.In-Some) c.pop.ensures.1,
    )

pub loop-b-smaller : goal.loop-b-smaller
loop-b-smaller c =
    let e = c.args.equations in
    let there = popped (goal.at.loop-b-smaller c).In-Some in
    solving-less e.reachable.walked e.ruled c.requires _ _ c.loop-b.at c.loop-b.invariant _ _ there _ _ c.visit.new.self (c.visit.ensures _ _ there c.loop-b.invariant)

pub loop-b-preserved : goal.loop-b-preserved
loop-b-preserved c =
    let e = c.args.equations in
    let there = popped (goal.at.loop-b-preserved c).In-Some in
    solving-more e.reachable.walked e.ruled c.requires _ _ c.loop-b.at c.loop-b.invariant _ _ there _ _ c.visit.new.self (c.visit.ensures _ _ there c.loop-b.invariant)

pub returns : goal.returns
returns c =
    let e = c.args.equations in
    solved e.reachable.walked e.ruled c.requires _ _ c.loop-b.at c.loop-b.invariant (rw c.in_default.is at c.pop.ensures).0.0
