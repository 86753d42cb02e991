-- `worklist::Worklist::moved_to_top` meets its contract.
use Rattle.std.proofs.Common.{refl, sym, ◌∙◌, arith, rules}
use Rattle.worklist.proofs.Moving.{kept-fits, put-room, put-pushed, moved-start, moved_pushed}
use Rattle.worklist.proofs.Raising.{has_some, raising-more}
use Rattle.worklist.proofs.Worklist.moved_to_top.Goals as goal

pub bounds-self-self : goal.bounds-self-self
bounds-self-self c =
    omega (arith, put-room c.args.self c.args.block c.requires.0 c.requires.1 (sym c.has_bit.ensures ∙ c.if-not-has_bit.true))

pub overflow_add-self : goal.overflow_add-self
overflow_add-self c =
    omega (arith, put-room c.args.self c.args.block c.requires.0 c.requires.1 (sym c.has_bit.ensures ∙ c.if-not-has_bit.true))

pub returns-then-not-has_bit : goal.returns-then-not-has_bit
returns-then-not-has_bit c =
    put-pushed c.args.self c.args.block c.requires.0 c.requires.1 (sym c.has_bit.ensures ∙ c.if-not-has_bit.true)
    _ c.bit_of.ensures (search rules)

pub loop-i-init : goal.loop-i-init
loop-i-init c =
    (refl, refl, moved-start c.args.self c.args.block c.requires.0 c.requires.1 (sym c.has_bit.ensures ∙ c.if-not-has_bit.false))

pub bounds-self-i : goal.bounds-self-i
bounds-self-i c = omega (arith, kept-fits c.args.self c.requires.0, c.loop-i-test.true)

pub bounds-self-i-in-loop-i : goal.bounds-self-i-in-loop-i
bounds-self-i-in-loop-i c = omega (arith, kept-fits c.args.self c.requires.0, c.loop-i-test.true)

pub returns-then-below-b : goal.returns-then-below-b
returns-then-below-b c =
    rw (c.loop-i.invariant.0, c.loop-i.invariant.1)
    (moved_pushed c.args.self c.args.block c.requires.0 c.requires.1 (sym c.has_bit.ensures ∙ c.if-not-has_bit.false)
    _ _ _ c.loop-i.invariant.2 c.if-below-b.true (search rules))

pub loop-i-preserved : goal.loop-i-preserved
loop-i-preserved c =
    (c.loop-i.invariant.0, c.loop-i.invariant.1, raising-more _ _ _ _ _ _ c.loop-i.invariant.2 c.if-below-b.false)

pub returns : goal.returns
returns c =
    let some = has_some c.args.block c.loop-i.self.blocks c.loop-i.i c.loop-i.invariant.2.stands in
    absurd (omega (arith, c.loop-i-test.false))
