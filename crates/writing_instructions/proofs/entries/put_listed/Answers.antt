-- `writing_instructions::entries::put_listed` meets its contract.
-- The invariant: the entries before word k are put.
use borrow.Author.Rules.{rules}
use native.Mathlib.Omega.{arith}
use mathlib.Core.Path.{◌≡◌}
use Prim.Native.Nat.{◌*◌, ◌<◌, min}
use Rattle.rules.specs.File.{function_in}
use Rattle.rules.specs.Graph.{size_of}
use Rattle.rows.specs.Rows.{rows}
use Rattle.writing.specs.Parts.{slot_in}
use Rattle.writing_instructions.proofs.ByWord.{words-start, words_fit, words-turn}
use Rattle.writing_instructions.proofs.entries.put_listed.Goals as goal

pub loop-k-init : goal.loop-k-init
loop-k-init c = words-start (size_of (function_in c.args.homes.file.bytes.now)) (slot_in c.args.homes.slots.now) (rows c.args.lists.rows.now c.args.i) c.args.lists.values c.args.out.now (search rules)

pub put_word_entries-requires : goal.put_word_entries-requires
put_word_entries-requires c =
    let inside : 64 * c.loop-k.k < c.args.lists.values = omega (arith, c.loop-k-test.true, c.div_ceil-k-end.ensures) in
    (omega (arith, c.min-end.ensures, inside), omega (arith, c.min-end.ensures), omega (arith, c.min-end.ensures, c.args.lists.few), words_fit (size_of (function_in c.args.homes.file.bytes.now)) (slot_in c.args.homes.slots.now) (rows c.args.lists.rows.now c.args.i) c.args.lists.values c.loop-k.k c.word_of.result c.min-end.result inside c.min-end.ensures c.word_of.ensures c.loop-k.invariant c.requires.1)

pub loop-k-preserved : goal.loop-k-preserved
loop-k-preserved c =
    let inside : 64 * c.loop-k.k < c.args.lists.values = omega (arith, c.loop-k-test.true, c.div_ceil-k-end.ensures) in
    words-turn (size_of (function_in c.args.homes.file.bytes.now)) (slot_in c.args.homes.slots.now) (rows c.args.lists.rows.now c.args.i) c.args.lists.values c.loop-k.k c.word_of.result c.min-end.result inside c.min-end.ensures c.word_of.ensures c.loop-k.invariant c.requires.1 c.put_word_entries.ensures

pub returns : goal.returns
returns c =
    let all : min (64 * c.loop-k.k) c.args.lists.values ≡ c.args.lists.values = omega (arith, c.div_ceil-k-end.ensures) in
    rw all at c.loop-k.invariant
