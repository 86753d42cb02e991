-- `services::list::list_instruction` meets its contract.
use mathlib.Core.Bool.{not}
use native.Mathlib.Omega.{arith}
use Prim.Native.Nat.{ℕ, ◌+◌, ◌*◌}
use mathlib.Core.Path.{sym, ap, ◌∙◌}
use mathlib.Core.Option.{some}
use lib.ListN.{length, length-replicate}
use Rattle.rules.specs.Limits.{largest_instructions, table_words, row_words}
use Rattle.rules.specs.Lists.{NumberSet}
use Rattle.graph.specs.Zeros.{zeros-zeros}
use Rattle.listing.specs.Ascending.{ascending}
use Rattle.services.proofs.ListAnswers.{row-there, asked-ascending, asked-none, asked-some, no-list, row_list}
use Rattle.analysis.specs.Live.{lent-own, surveyed-indexed}
use Rattle.analysis.specs.Tables.{list-tables, blocks-room, firsts-of}
use Rattle.services.proofs.list.list_instruction.Goals as goal

pub number_instructions-requires : goal.number_instructions-requires
number_instructions-requires c = blocks-room (surveyed-indexed c.args.survey.now) c.blocks-2.ensures.0 c.blocks-2.result.counted

pub live_tables-requires : goal.live_tables-requires
live_tables-requires c = rw c.reachable.ensures.0 (lent-own c.args.survey.now.accepted)

pub numbered-numbered-requires : goal.numbered-numbered-requires
numbered-numbered-requires c =
    firsts-of (surveyed-indexed c.args.survey.now) c.blocks-2.ensures.0 c.blocks-2.result.counted c.number_instructions.ensures

pub list_safepoints-requires : goal.list_safepoints-requires
list_safepoints-requires c =
    let tables = surveyed-indexed c.args.survey.now in
    let live = rw c.reachable.ensures.0 at c.live_tables.ensures.1 in
    let of = c.numbered-numbered.ensures in (
      rw (of.file, of.places, of.index)
          (list-tables tables _ _ (c.live_tables.auto.outs ∙ length-replicate {A = ℕ} table_words 0) live
          (omega (arith, length-replicate {A = ℕ} (largest_instructions * row_words) 0))),
      zeros-zeros (largest_instructions * row_words),
      zeros-zeros row_words,
      omega (arith, length-replicate {A = ℕ} row_words 0),
    )

pub returns-then-not-is_reachable_safepoint : goal.returns-then-not-is_reachable_safepoint
returns-then-not-is_reachable_safepoint c =
    let y = c.args.survey.now in
    let said = rw c.numbered-numbered.ensures.file at c.is_reachable_safepoint.ensures in
    let none = no-list y.file.bytes.now c.args.instruction (length c.args.out.now) y.accepted (asked-none said (ap not c.if-not-is_reachable_safepoint.true)) in
    (none.0, c.requires ∙ none.1)

pub list_row-requires : goal.list_row-requires
list_row-requires c =
    let y = c.args.survey.now in
    let said = rw c.numbered-numbered.ensures.file at c.is_reachable_safepoint.ensures in (
      omega (arith, row-there y.file.bytes.now y.accepted c.args.instruction (asked-some said (ap not c.if-not-is_reachable_safepoint.false)), c.list_safepoints.auto.lists, length-replicate {A = ℕ} (largest_instructions * row_words) 0),
      c.requires,
    )

pub returns : goal.returns
returns c =
    let y = c.args.survey.now in
    let said = rw c.numbered-numbered.ensures.file at c.is_reachable_safepoint.ensures in
    let listed = rw c.numbered-numbered.ensures.file at c.list_safepoints.ensures.0 in
    let there = asked-some said (ap not c.if-not-is_reachable_safepoint.false) in
    let row = row_list y.file.bytes.now c.args.instruction (length c.args.out.now) y.accepted _
    (asked-ascending y.file.bytes.now y.accepted c.args.instruction there ∙ ap (λ (sets : ℕ → NumberSet). some (ascending (sets c.args.instruction))) (sym listed)) in
    (c.list_row.ensures.0 ∙ row.0, c.list_row.ensures.1 ∙ row.1)
