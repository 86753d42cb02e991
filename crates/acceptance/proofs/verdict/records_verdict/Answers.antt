-- `acceptance::verdict::records_verdict` meets its contract.
use borrow.Author.Tests.{eq-eqb, ne_eqb, ltb-false}
use Rattle.std.proofs.Common.{sym, ◌∙◌}
use mathlib.Core.Path.{refl}
use Rattle.rules.specs.Limits.{largest_records}
use Rattle.checks.specs.Counts.{too_many-long, too_many-counted}
use Rattle.acceptance.specs.Stages.{records-length, records-many, records-last}
use Rattle.acceptance.proofs.verdict.records_verdict.Goals as goal
use Rattle.acceptance.proofs.verdict.records_verdict.Goals.{then-too_long-via-then-too_long, then-too_long-via-else-too_long+then-above_largest}

pub returns-then-s-ne0 : goal.returns-then-s-ne0
returns-then-s-ne0 c = records-length c.args.s.now (ne_eqb _ 0 c.if-s-ne0.true)

pub returns-then-too_long : goal.returns-then-too_long
returns-then-too_long c =
    let s = c.args.s.now in
    records-many s (eq-eqb _ 0 c.if-s-ne0.false)
    (elim c.then-too_long.branch [
      | then-too_long-via-then-too_long w ↦ too_many-long s (sym c.too_long.ensures ∙ w.if-too_long.true)
      | then-too_long-via-else-too_long+then-above_largest w ↦
          too_many-counted s w.count_kinds.result (sym c.too_long.ensures ∙ w.if-too_long.false) w.count_kinds.ensures
          ∙ sym w.above_largest.ensures
          ∙ w.if-above_largest.true
    ])

pub returns-then-malformed : goal.returns-then-malformed
returns-then-malformed c =
    let s = c.args.s.now in
    let few = too_many-counted s c.count_kinds.result (sym c.too_long.ensures ∙ c.if-too_long.false) c.count_kinds.ensures ∙ sym c.above_largest.ensures ∙ c.if-above_largest.false in
    rw (records-last s (eq-eqb _ 0 c.if-s-ne0.false) few, ← c.malformed.ensures, c.if-malformed.true) refl

pub returns : goal.returns
returns c =
    let s = c.args.s.now in
    let few = too_many-counted s c.count_kinds.result (sym c.too_long.ensures ∙ c.if-too_long.false) c.count_kinds.ensures ∙ sym c.above_largest.ensures ∙ c.if-above_largest.false in
    (rw (records-last s (eq-eqb _ 0 c.if-s-ne0.false) few, ← c.malformed.ensures, c.if-malformed.false) refl, refl)
