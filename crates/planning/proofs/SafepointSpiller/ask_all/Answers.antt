-- `planning::SafepointSpiller::ask_all` meets its contract.
use Rattle.planning.proofs.Slotting.{slotting-start, slotting-passed, slotting-turn, slotting-end}
use Rattle.planning.specs.Standing.{spilled_from}
use Rattle.planning.specs.Lent.{lent-none, lent-then, rest-then}
use Rattle.rows.specs.Rows.{rows}
use Rattle.rules.specs.Lists.{NumberSet}
use native.Mathlib.Omega.{arith}
use mathlib.Core.Path.{◌≡◌, refl, sym, ap, ◌∙◌}
use Prim.Native.Nat.{◌+◌, ◌-◌}
use Rattle.planning.proofs.SafepointSpiller.ask_all.Goals as goal

pub loop-v-init : goal.loop-v-init
loop-v-init c =
    let A = c.args in
    let x = A.self.now in
    let spilled = rows A.spilled.now 0 in
    let set = rows A.set.now A.row in
    let whole : A.values - 0 ≡ A.values = omega arith in
    let start = slotting-start (spilled_from spilled set 0 A.values) x.asked.now x.steps.now x.noted in (
      c.next_in-v.ensures.1,
      slotting-passed spilled set (spilled_from spilled set 0 A.values) x.asked.now x.steps.now x.noted x.asked.now x.steps.now x.noted 0 c.next_in-v.result A.values c.next_in-v.ensures.0 c.next_in-v.ensures.1 c.requires.1
          (λ u l m. ap (λ (s : NumberSet). s u) (sym c.unasked-new.ensures) ∙ c.next_in-v.ensures.2 u l m) (rw whole start),
      lent-none x,
      (refl, refl),
    )

pub ask_spilled-requires : goal.ask_spilled-requires
ask_spilled-requires c =
    let known = c.requires.0 in
    let here = c.loop-v.invariant.1 in
    (record { in_spilled = known.in_spilled; in_set = known.in_set; in_asked = omega (arith, known.in_asked, here.asked_long); room = here.room 0 known.room }, omega (arith, c.loop-v-test.true, c.requires.1))

pub loop-v-preserved : goal.loop-v-preserved
loop-v-preserved c =
    let A = c.args in
    let x = A.self.now in
    let spilled = rows A.spilled.now 0 in
    let set = rows A.set.now A.row in
    let here = c.loop-v in
    let asks = c.ask_spilled.new.self in
    let turned = slotting-turn spilled set (spilled_from spilled set 0 A.values) x.asked.now x.steps.now x.noted here.self.asked.now here.self.steps.now here.self.noted here.v A.values c.loop-v-test.true here.invariant.1 _ _ asks.noted c.ask_spilled.ensures.slotted in (
      c.next_in-v-in-loop-v.ensures.1,
      slotting-passed spilled set (spilled_from spilled set 0 A.values) x.asked.now x.steps.now x.noted _ _ asks.noted (here.v + 1) c.next_in-v-in-loop-v.result A.values c.next_in-v-in-loop-v.ensures.0 c.next_in-v-in-loop-v.ensures.1 c.requires.1
          (λ u l m. ap (λ (s : NumberSet). s u) (sym c.unasked-new.ensures) ∙ c.next_in-v-in-loop-v.ensures.2 u l m) turned,
      lent-then x here.self asks here.invariant.2 c.ask_spilled.ensures.lent,
      rest-then x here.self asks here.invariant.3 c.ask_spilled.ensures.rest,
    )

pub returns-clause-slotted : goal.returns-clause-slotted
returns-clause-slotted c =
    let A = c.args in
    let x = A.self.now in
    let spilled = rows A.spilled.now 0 in
    let set = rows A.set.now A.row in
    let here = c.loop-v in
    slotting-end spilled set (spilled_from spilled set 0 A.values) x.asked.now x.steps.now x.noted here.self.asked.now here.self.steps.now here.self.noted here.v A.values (omega (arith, c.loop-v-test.false, here.invariant.0)) here.invariant.1
