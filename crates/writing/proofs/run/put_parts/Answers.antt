-- `writing::run::put_parts` meets its contract.
use borrow.Author.Rules.{rules}
use mathlib.Core.List.{[]}
use mathlib.Core.Path.{sym, ◌∙◌}
use Prim.Native.Nat.{◌≤◌, ◌<◌}
use native.Mathlib.Omega.{arith}
use Rattle.writing.specs.Parts.{records_of, part_at}
use Rattle.writing.specs.Put.{put_start, put_none, turn_fits, put_turn}
use Rattle.writing.proofs.Running.{part-here, part-other}
use Rattle.writing.proofs.run.put_parts.Goals as goal
use Rattle.writing.proofs.run.put_parts.Goals.{then-kind_at-kind, else-kind_at-kind}

pub loop-i-init : goal.loop-i-init
loop-i-init c = put_start _ _ _ (search rules)

pub put_written-requires : goal.put_written-requires
put_written-requires c =
    let plan = c.args.plan in
    let g = part_at plan.file.bytes.now plan.numbers.now plan.slots.now c.args.kind c.args.part in
    let here = part-here plan.file.bytes.now plan.numbers.now plan.slots.now c.args.kind c.args.part c.loop-i.i (records_of c.part_of.result) (rw c.homes.ensures at c.part_of.ensures) (sym c.kind_at.ensures.0 ∙ c.if-kind_at-kind.true) in
    rw here (turn_fits g c.args.from c.loop-i.i c.args.end (search rules) (search rules) c.requires.2 c.loop-i.invariant)

pub loop-i-preserved : goal.loop-i-preserved
loop-i-preserved c =
    let plan = c.args.plan in
    let g = part_at plan.file.bytes.now plan.numbers.now plan.slots.now c.args.kind c.args.part in
    let low : c.args.from ≤ c.loop-i.i = search rules in
    let high : c.loop-i.i < c.args.end = search rules in
    let fits = turn_fits g c.args.from c.loop-i.i c.args.end low high c.requires.2 c.loop-i.invariant in
    elim c.if-kind_at-kind.branch [
      | then-kind_at-kind w ↦
          let here = part-here plan.file.bytes.now plan.numbers.now plan.slots.now c.args.kind c.args.part c.loop-i.i (records_of w.part_of.result) (rw w.homes.ensures at w.part_of.ensures) (sym c.kind_at.ensures.0 ∙ w.if-kind_at-kind.true) in
          rw w.out-is (put_turn g c.args.from c.loop-i.i c.args.end low high c.requires.2 c.loop-i.invariant (records_of w.part_of.result) here w.put_written.ensures)
      | else-kind_at-kind w ↦
          let none = part-other plan.file.bytes.now plan.numbers.now plan.slots.now c.args.kind c.args.part c.loop-i.i (λ e. w.if-kind_at-kind.false (c.kind_at.ensures.0 ∙ e)) in
          rw w.out-is (put_turn g c.args.from c.loop-i.i c.args.end low high c.requires.2 c.loop-i.invariant [] none (put_none c.loop-i.out (omega arith)))
    ]
