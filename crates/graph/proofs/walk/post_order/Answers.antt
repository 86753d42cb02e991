-- `graph::walk::post_order` meets its contract.
use Rattle.std.proofs.Common.{sym, ◌∙◌, subst, arith, rules}
use Rattle.graph.specs.ByTable.{some}
use Rattle.graph.specs.Tables.{Ready}
use Rattle.graph.specs.Walk.{tables_of}
use Rattle.graph.proofs.Walking.{start-ready, turn-ready, turn-less, handed_back}
use Rattle.graph.proofs.walk.post_order.Goals as goal

pub enter-requires : goal.enter-requires
enter-requires c =
    let h = c.requires in
    let block = some _ _ h.given in
    (block, omega (arith, h.room.index), omega (arith, h.room.stack), omega (arith, h.room.next))

pub loop-walk-init : goal.loop-walk-init
loop-walk-init c = (
  search rules,
  subst (Ready c.args.blocks.file.bytes.now c.args.blocks.places.now) (sym c.enter.ensures.value)
      (start-ready c.args.blocks.file.bytes.now c.args.blocks.places.now c.args.order.now c.args.index.now c.args.stack.now c.args.next.now c.requires),
)

pub loop-walk-smaller : goal.loop-walk-smaller
loop-walk-smaller c =
    turn-less c.args.blocks.file.bytes.now c.args.blocks.places.now _ _ c.loop-walk.invariant.1 c.loop-walk-test.true c.turn.ensures.value

pub loop-walk-preserved : goal.loop-walk-preserved
loop-walk-preserved c = (
  search rules,
  turn-ready c.args.blocks.file.bytes.now c.args.blocks.places.now _ _ c.loop-walk.invariant.1 c.loop-walk-test.true c.turn.ensures.value,
)

pub returns : goal.returns
returns c =
    let walk = c.loop-walk.walk in
    let same = c.loop-walk.invariant.0 in
    let before = c.enter.ensures.same in
    handed_back c.args.blocks.file.bytes.now c.args.blocks.places.now _ (tables_of walk) c.requires c.loop-walk.invariant.1
    (record {
      order = same.order.1 ∙ before.order.1;
      index = same.index.1 ∙ before.index.1;
      stack = same.stack.1 ∙ before.stack.1;
      next = same.next.1 ∙ before.next.1;
    })
    (omega (arith, c.loop-walk-test.false)) _ _ _ _ (search rules) (search rules) (search rules) (search rules)
