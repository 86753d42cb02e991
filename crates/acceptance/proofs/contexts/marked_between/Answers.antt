-- `acceptance::contexts::marked_between` meets its contract. The invariant: no marked context stands from place i on.
use Prim.Native.Nat.{◌-◌}
use mathlib.Core.Path.{◌≡◌, sym, ap, subst, ◌∙◌}
use mathlib.Core.Bool.{◌||◌}
use native.Mathlib.Omega.{arith}
use lib.Dec.{T}
use Rattle.acceptance.proofs.MarkedContexts.{marked_between, marked-none, marked-behind, marked-before, marked-context, context-none}
use Rattle.acceptance.proofs.contexts.marked_between.Goals as goal

pub loop-i-init : goal.loop-i-init
loop-i-init c = (c.requires.0, marked-none c.args.file.bytes.now c.args.end c.args.end (omega arith))

pub returns-then-w-ne-CONTEXT : goal.returns-then-w-ne-CONTEXT
returns-then-w-ne-CONTEXT c =
    let loop = c.loop-i in
    let s = c.args.file.bytes.now in
    let some = c.loop-i-test.true in
    let none =
    context-none s (subst T (sym c.args.file.in_order) tt) c.args.start c.args.end c.requires.1 c.requires.2 (loop.i - 1) (omega (arith, loop.auto.i, some))
    (λ e. c.if-w-ne-CONTEXT.true (ap (λ w. w.kind) c.words_at-w.ensures ∙ e)) in
    sym (marked-behind s c.args.start loop.i c.args.end loop.invariant.0 loop.auto.i c.requires.1 (λ j l m. none j l (omega (arith, m, some))) ∙ loop.invariant.1)

pub returns-then-is_marked : goal.returns-then-is_marked
returns-then-is_marked c =
    let loop = c.loop-i in
    let s = c.args.file.bytes.now in
    let w = c.words_at-w in
    let some = c.loop-i-test.true in
    let here = marked-context s loop.i c.args.end (omega (arith, some)) loop.auto.i c.requires.1 w.result w.ensures c.if-w-ne-CONTEXT.false c.is_marked.ensures in
    sym (marked-before s c.args.start (loop.i - 1) c.args.end (omega (arith, some)) (omega (arith, loop.auto.i)) c.requires.1
    (here ∙ ap (λ b. b || marked_between s loop.i c.args.end) c.if-is_marked.true))

pub loop-i-preserved : goal.loop-i-preserved
loop-i-preserved c =
    let loop = c.loop-i in
    let s = c.args.file.bytes.now in
    let w = c.words_at-w in
    let some = c.loop-i-test.true in
    let here = marked-context s loop.i c.args.end (omega (arith, some)) loop.auto.i c.requires.1 w.result w.ensures c.if-w-ne-CONTEXT.false c.is_marked.ensures in
    (omega (arith, some), here ∙ ap (λ b. b || marked_between s loop.i c.args.end) c.if-is_marked.false ∙ loop.invariant.1)

pub returns : goal.returns
returns c =
    let loop = c.loop-i in
    let all : c.args.start ≡ loop.i = omega (arith, loop.invariant.0, c.loop-i-test.false) in
    sym (ap (λ j. marked_between c.args.file.bytes.now j c.args.end) all ∙ loop.invariant.1)
