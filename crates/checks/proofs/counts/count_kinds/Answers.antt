-- `checks::counts::count_kinds` meets its contract.
use Rattle.checks.proofs.Counting.{counted_none, counted-more, counted-all}
use Rattle.rules.specs.Records.{record_count}
use native.Mathlib.Omega.{arith}
use mathlib.Core.Path.{◌≡◌}
use Rattle.checks.proofs.counts.count_kinds.Goals as goal

pub loop-i-init : goal.loop-i-init
loop-i-init c = let s = c.args.s.now in (counted_none s 1, counted_none s 2, counted_none s 4, counted_none s 7)

pub loop-i-preserved : goal.loop-i-preserved
loop-i-preserved c =
    let s = c.args.s.now in
    let i = c.loop-i.i in
    let w = c.word_at-k.result in (
      counted-more s 1 c.loop-i.values i (omega arith) c.loop-i.invariant.0 w c.from-values.result c.word_at-k.ensures c.from-values.ensures,
      counted-more s 2 c.loop-i.blocks i (omega arith) c.loop-i.invariant.1 w c.from-blocks.result c.word_at-k.ensures c.from-blocks.ensures,
      counted-more s 4 c.loop-i.instructions i (omega arith) c.loop-i.invariant.2 w c.from-instructions.result c.word_at-k.ensures c.from-instructions.ensures,
      counted-more s 7 c.loop-i.edges i (omega arith) c.loop-i.invariant.3 w c.from-edges.result c.word_at-k.ensures c.from-edges.ensures,
    )

pub returns : goal.returns
returns c =
    let s = c.args.s.now in
    let i = c.loop-i.i in
    let n : i ≡ record_count s = omega arith in (
      counted-all s 1 c.loop-i.values i n c.loop-i.invariant.0,
      counted-all s 2 c.loop-i.blocks i n c.loop-i.invariant.1,
      counted-all s 4 c.loop-i.instructions i n c.loop-i.invariant.2,
      counted-all s 7 c.loop-i.edges i n c.loop-i.invariant.3,
    )
