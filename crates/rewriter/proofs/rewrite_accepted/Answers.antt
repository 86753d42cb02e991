-- `rewriter::rewrite_accepted` meets its contract.
use native.Mathlib.Omega.{arith}
use Rattle.analysis.specs.Live.{lent-own, surveyed-indexed}
use Rattle.analysis.specs.Tables.{list-tables, blocks-room, firsts-room, firsts-of}
use Rattle.graph.specs.Links.{Walked}
use Rattle.listing.specs.Firsts.{all-numbered}
use Rattle.rows.specs.Rows.{rows}
use Rattle.graph.specs.Zeros.{zeros-zeros}
use Rattle.fixpoint.specs.Finding.{update_here}
use Rattle.rules.specs.Liveness.{is_spilled}
use Rattle.rules.specs.File.{function_in}
use Rattle.rules.specs.Lists.{NumberSet}
use Rattle.rules.specs.Limits.{largest_blocks, largest_instructions, table_words, row_words}
use lib.ListN.{length, replicate, length-replicate}
use mathlib.Core.Path.{◌≡◌, sym, ap, subst, ◌∙◌}
use Prim.Native.Nat.{ℕ, ◌+◌, ◌*◌}
use Rattle.rewriter.proofs.rewrite_accepted.Goals as goal

pub number_instructions-requires : goal.number_instructions-requires
number_instructions-requires c = blocks-room (surveyed-indexed c.args.survey.now) c.blocks-2.ensures.0 c.blocks-2.result.counted

pub live_tables-live-requires : goal.live_tables-live-requires
live_tables-live-requires c = rw c.reachable-reachable.ensures.0 (lent-own c.args.survey.now.accepted)

pub numbered-numbered-requires : goal.numbered-numbered-requires
numbered-numbered-requires c =
    firsts-of (surveyed-indexed c.args.survey.now) c.blocks-2.ensures.0 c.blocks-2.result.counted c.number_instructions.ensures

pub list_safepoints-requires : goal.list_safepoints-requires
list_safepoints-requires c =
    let tables = surveyed-indexed c.args.survey.now in
    let live = rw c.reachable-reachable.ensures.0 at c.live_tables-live.ensures.1 in
    let of = c.numbered-numbered.ensures in (
      rw (of.file, of.places, of.index)
          (list-tables tables _ _ (c.live_tables-live.auto.outs ∙ length-replicate {A = ℕ} table_words 0) live
          (omega (arith, length-replicate {A = ℕ} (largest_instructions * row_words) 0))),
      zeros-zeros (largest_instructions * row_words),
      zeros-zeros row_words,
      omega (arith, length-replicate {A = ℕ} row_words 0),
    )

pub rewrite_live-requires : goal.rewrite_live-requires
rewrite_live-requires c =
    let y = c.args.survey.now in
    let f = function_in y.file.bytes.now in
    let all = c.reachable-reachable.result in
    let same = c.reachable-reachable.ensures in
    let walked = rw (same.0, same.1) at all.walked in
    let few : y.reachable ≡ length all.order.now = y.walked.counted ∙ sym walked.counted in
    let live = rw same.0 at c.live_tables-live.ensures in
    let of = c.numbered-numbered.ensures in
    let listed = rw of.file at c.list_safepoints.ensures in (
      rw (of.file, of.places, of.index)
          (record {
            tables =
                record {
                  accepted = y.accepted;
                  walked = subst (Walked y.file.bytes.now y.places.now all.order.now) (sym few) walked;
                  all-counted = y.counted;
                  indexed = y.indexed;
                  index-long = y.index_long;
                };
            outs-long = c.live_tables-live.auto.outs ∙ length-replicate {A = ℕ} table_words 0;
            live = live.1;
            lists-long = c.list_safepoints.auto.lists ∙ length-replicate {A = ℕ} (largest_instructions * row_words) 0;
            listed-rows = listed.0;
            spilled-long = c.list_safepoints.auto.spilled ∙ length-replicate {A = ℕ} row_words 0;
            spilled-row = ap (λ (t : ℕ → NumberSet). t 0) listed.1 ∙ update_here 0 (is_spilled f) (rows (replicate row_words 0));
            instructions = all-numbered (firsts-of (surveyed-indexed y) c.blocks-2.ensures.0 c.blocks-2.result.counted c.number_instructions.ensures) _ y.counted;
            visits = live.2;
            pushes = live.3;
          }),
      c.requires.0,
      c.requires.1,
    )
