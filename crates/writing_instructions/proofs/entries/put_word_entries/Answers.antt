-- `writing_instructions::entries::put_word_entries` meets its contract.
-- The invariant: every entry below the next one is put, and the word is left from it on.
use borrow.Author.Rules.{rules}
use native.Mathlib.Omega.{arith}
use mathlib.Core.Path.{◌≡◌}
use Prim.Native.Nat.{◌+◌, ◌-◌, min}
use Rattle.rows.specs.Words.{left-whole, left-some}
use Rattle.writing_instructions.proofs.InWord.{word-start, word_fits, word-turn, word_next}
use Rattle.writing_instructions.proofs.entries.put_word_entries.Goals as goal

pub loop-v-init : goal.loop-v-init
loop-v-init c =
    let back : c.args.base + c.zeros_below.result - c.args.base ≡ c.zeros_below.result = omega arith in (
      omega arith,
      omega (arith, c.zeros_below.ensures.0),
      rw back (left-whole c.args.word c.zeros_below.result c.zeros_below.ensures.1 c.zeros_below.ensures.2),
      word-start _ _ _ _ _ _ (search rules) c.zeros_below.result c.requires.0 c.zeros_below.ensures.1,
    )

pub put_entry-requires : goal.put_entry-requires
put_entry-requires c =
    let turn = c.loop-v in
    (omega (arith, c.loop-v-test.true, c.requires.2), word_fits _ _ _ c.args.base c.args.end turn.v turn.left turn.invariant.0 c.loop-v-test.true c.requires.1 turn.invariant.2 c.requires.3 turn.invariant.3)

pub without_lowest-left-requires : goal.without_lowest-left-requires
without_lowest-left-requires c =
    let turn = c.loop-v in
    left-some c.args.word (turn.v - c.args.base) turn.left turn.invariant.2 (omega (arith, turn.invariant.0, c.loop-v-test.true, c.requires.1))

pub loop-v-smaller : goal.loop-v-smaller
loop-v-smaller c =
    let turn = c.loop-v in
    let next = word_next c.args.word c.args.base turn.v turn.left c.without_lowest-left.result c.zeros_below-in-loop-v.result turn.invariant.0 (omega (arith, c.loop-v-test.true, c.requires.1)) turn.invariant.2 c.without_lowest-left.ensures c.zeros_below-in-loop-v.ensures.1 c.zeros_below-in-loop-v.ensures.2 in
    omega (arith, next.0, c.loop-v-test.true)

pub loop-v-preserved : goal.loop-v-preserved
loop-v-preserved c =
    let turn = c.loop-v in
    let next = word_next c.args.word c.args.base turn.v turn.left c.without_lowest-left.result c.zeros_below-in-loop-v.result turn.invariant.0 (omega (arith, c.loop-v-test.true, c.requires.1)) turn.invariant.2 c.without_lowest-left.ensures c.zeros_below-in-loop-v.ensures.1 c.zeros_below-in-loop-v.ensures.2 in (
      omega arith,
      omega (arith, c.zeros_below-in-loop-v.ensures.0),
      next.1,
      word-turn _ _ _ c.args.base c.args.end turn.v turn.left turn.invariant.0 c.loop-v-test.true c.requires.1 turn.invariant.2 c.requires.3 turn.invariant.3 (c.args.base + c.zeros_below-in-loop-v.result) next.0 next.2 c.put_entry.ensures,
    )

pub returns : goal.returns
returns c =
    let turn = c.loop-v in
    let all : min turn.v c.args.end ≡ c.args.end = omega arith in
    rw all at turn.invariant.3
