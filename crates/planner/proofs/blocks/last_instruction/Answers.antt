-- `planner::blocks::last_instruction` meets its contract.
use mathlib.Core.Path.{◌≡◌, sym, subst, ◌∙◌}
use mathlib.Core.List.{[]}
use Prim.Native.Nat.{ℕ}
use native.Mathlib.Omega.{arith}
use Rattle.listing.specs.Stepping.{heads_from}
use Rattle.planner.specs.Backward.{last-start, last-here, last-not, last_none}
use Rattle.planner.proofs.blocks.last_instruction.Goals as goal

pub loop-i-init : goal.loop-i-init
loop-i-init c = (omega (arith, c.requires.0), last-start c.args.file.bytes.now c.args.front c.args.end c.requires.1)

pub returns-then-kind_at-eq-INSTRUCTION : goal.returns-then-kind_at-eq-INSTRUCTION
returns-then-kind_at-eq-INSTRUCTION c = last-here c.args.file.bytes.now c.args.front c.args.end c.requires.1 c.loop-i.i c.loop-i-test.true c.loop-i.auto.i c.loop-i.invariant.1 (sym c.kind_at.ensures.0 ∙ c.if-kind_at-eq-INSTRUCTION.true)

pub loop-i-preserved : goal.loop-i-preserved
loop-i-preserved c = (omega (arith, c.loop-i-test.true), last-not c.args.file.bytes.now c.args.front c.args.end c.requires.1 c.loop-i.i c.loop-i-test.true c.loop-i.auto.i c.loop-i.invariant.1 (λ h. c.if-kind_at-eq-INSTRUCTION.false (c.kind_at.ensures.0 ∙ h)))

pub returns : goal.returns
returns c =
    let there : c.loop-i.i ≡ c.args.front = omega (arith, c.loop-i-test.false, c.loop-i.invariant.0) in
    absurd (last_none c.args.file.bytes.now c.args.front c.args.end c.requires.1 c.requires.0 c.requires.2 (subst (λ (n : ℕ). heads_from c.args.file.bytes.now n c.args.end ≡ []) there c.loop-i.invariant.1))
