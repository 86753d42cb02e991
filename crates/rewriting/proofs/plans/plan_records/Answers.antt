-- `rewriting::plans::plan_records` meets its contract.
use native.Mathlib.Omega.{arith}
use borrow.Author.Rules.{rules}
use Rattle.planning.specs.Standing.{Progress}
use Rattle.rewriting.specs.Planning.{plan-given, plan-lent, replay-lent, records-planned}
use Rattle.rules.specs.Limits.{largest_records, largest_values}
use Rattle.std.proofs.Common.{ap₂}
use lib.ListN.{length-replicate}
use Prim.Native.Nat.{ℕ, ◌+◌}
use Rattle.rewriting.proofs.plans.plan_records.Goals as goal

pub plan_function-requires : goal.plan_function-requires
plan_function-requires c =
    let started : (given blocks : ℕ) → Progress = λ given blocks. record { pointer = c.args.pointer; given = given; made = 0; blocks = blocks; steps = 0 } in
    rw c.table.ensures.0
    (plan-given c.requires.0 c.requires.2, plan-lent c.requires.0 c.requires.1, ap₂ started c.values.ensures c.args.reachable.blocks.counted)

pub replay-slots-requires : goal.replay-slots-requires
replay-slots-requires c =
    let planned = rw c.table.ensures.0 at c.plan_function.ensures.planned in
    replay-lent c.requires.0 planned _ c.args.slots.now c.args.slot_sizes.now (search rules)
    (omega (arith, planned.steps_long, length-replicate {A = ℕ} (largest_values + largest_records) 0)) c.requires.1.blank-slots c.requires.1.slots-long c.requires.1.slot_sizes-long

pub returns : goal.returns
returns c =
    records-planned c.requires.0 (rw c.table.ensures.0 at c.plan_function.ensures.planned) _ _ _ c.replay-slots.result (search rules) (search rules) (search rules)
    c.replay-slots.ensures c.requires.1.slot_sizes-long
