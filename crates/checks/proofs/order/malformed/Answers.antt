-- `checks::order::malformed` meets its contract.
use native.Mathlib.Omega.{arith}
use borrow.Author.Rules.{rules}
use Prim.Native.Nat.{◌+◌}
use mathlib.Core.Path.{refl, sym, ap, ◌∙◌}
use mathlib.Core.Bool.{not}
use lib.Dec.{eqb}
use Rattle.rules.specs.Records.{encode, record_at}
use Rattle.lists.specs.Counts.{bit-at-most}
use Rattle.checks.proofs.Counting.{counts-for}
use Rattle.checks.proofs.Forming.{formed, formed-all, formed-done, formed-order, formed-number, formed-goes, ends-early, words-stand, kind-stands, outside-follows}
use Rattle.checks.proofs.order.malformed.Goals as goal
use Rattle.checks.proofs.order.malformed.Goals.{then-not-is_in_table-via-then-not-is_in_table, then-not-is_in_table-via-else-not-is_in_table+then-not-may_follow, then-not-is_in_table-via-else-not-is_in_table+else-not-may_follow+then-not-numbered_as}

pub returns-then-not-is_in_table : goal.returns-then-not-is_in_table
returns-then-not-is_in_table c =
    let s = c.args.s.now in
    let at = c.loop-i in
    let w = c.four_words-w.result in
    sym (ap not (sym (formed-all s) ∙ sym at.invariant.2 ∙ elim c.then-not-is_in_table.branch [
      | then-not-is_in_table-via-then-not-is_in_table x ↦
          let no = outside-follows s at.i w c.four_words-w.ensures (sym c.is_in_table.ensures ∙ x.if-not-is_in_table.true) at.p at.invariant.0 in
          formed-order s at.p at.number at.i (encode (record_at s at.i)) refl (search rules) no
      | then-not-is_in_table-via-else-not-is_in_table+then-not-may_follow x ↦
          formed-order s at.p at.number at.i w (words-stand s at.i w c.four_words-w.ensures (sym c.is_in_table.ensures ∙ x.if-not-is_in_table.false)) (search rules) (sym x.may_follow.ensures ∙ x.if-not-may_follow.true)
      | then-not-is_in_table-via-else-not-is_in_table+else-not-may_follow+then-not-numbered_as x ↦
          formed-number s at.p at.number at.i w (words-stand s at.i w c.four_words-w.ensures (sym c.is_in_table.ensures ∙ x.if-not-is_in_table.false)) (search rules) (sym x.numbered_as.ensures ∙ x.if-not-numbered_as.true)
    ]))

pub may_follow-requires : goal.may_follow-requires
may_follow-requires c =
    let s = c.args.s.now in
    let at = c.loop-i in
    let small = kind-stands s at.i c.four_words-w.result c.four_words-w.ensures (sym c.is_in_table.ensures ∙ c.if-not-is_in_table.false) in
    search rules

pub loop-i-preserved : goal.loop-i-preserved
loop-i-preserved c =
    let s = c.args.s.now in
    let at = c.loop-i in
    let w = c.four_words-w.result in
    let in_table = sym c.is_in_table.ensures ∙ c.if-not-is_in_table.false in
    let small = kind-stands s at.i w c.four_words-w.ensures in_table in
    let stands = words-stand s at.i w c.four_words-w.ensures in_table in
    let follows_on = sym c.may_follow.ensures ∙ c.if-not-may_follow.false in
    let numbered = sym c.numbered_as.ensures ∙ c.if-not-numbered_as.false in
    let goes = formed-goes s at.p at.number at.i w stands (search rules) follows_on numbered in
    let number = counts-for w.kind 2 c.from-number.result c.from-number.ensures in (
      search rules,
      omega (arith, number, bit-at-most (eqb 2 w.kind)),
      ap (λ m. formed s w.kind (at.number + m) (at.i + 1)) number ∙ sym goes ∙ at.invariant.2,
    )

pub returns : goal.returns
returns c =
    let s = c.args.s.now in
    let at = c.loop-i in
    ends-early at.p ∙ sym (ap not (sym (formed-all s) ∙ sym at.invariant.2 ∙ formed-done s at.p at.number at.i (omega arith)))
