-- `finals::first_records` meets its contract.
use Rattle.std.proofs.Common.{◌≡◌, ◌-◌, ◌*◌, ap, ◌∙◌, arith, take}
use Rattle.rules.specs.Limits.{record_bytes}
use Rattle.finals.specs.Finals.{first-there, first-shorter}
use Rattle.finals.proofs.first_records.Goals as goal

pub returns-in-Some : goal.returns-in-Some
returns-in-Some c =
    let there = c.in-Some.ensures.lookup.0 in
    let n = record_bytes * c.args.records in
    let front : n - 0 ≡ n = omega arith in
    there.2 ∙ ap (λ k. take k c.args.buffer.now) front ∙ first-there c.args.buffer.now c.args.records there.1

pub returns-in-None : goal.returns-in-None
returns-in-None c = first-shorter c.args.buffer.now c.args.records (grind arith)
